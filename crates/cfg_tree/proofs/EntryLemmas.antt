-- What a put, a removal and a change of an order make of entries, as of a finite map.
use Rattle.std.proofs.Common.{◌≡◌, ℕ, Bool, true, false, cond, not, List, refl, sym, ap, ◌∙◌, Option, Some, None, Equal}
use Rattle.std.specs.FinMap as map
use Rattle.std.specs.FinMap.Entries.{put, find-where_key}
use Rattle.std.specs.Option.{option_map}
use Rattle.std.specs.Ordering.{eq_by_cmp}
use Rattle.std.specs.Cmp.{eq_by_cmp_equiv}
use Rattle.cfg_base.specs.Order.{path_cmp, paths_total}
use Rattle.cfg_base.specs.declared.path.Step.{Step}
use Rattle.cfg_base.specs.declared.value.Value.{Value}
use Rattle.cfg_entries.specs.EntryMap.{EntryMap, IsOrdered, get, without}
use Rattle.cfg_tree.specs.Statements.{Statements}
use Rattle.cfg_tree.specs.Shown.{shown, with_names}
use Rattle.cfg_tree.specs.Change.{with_order, with_order_of}
use Rattle.cfg_tree.proofs.FullLemmas.{entries_from}
use Rattle.cfg_tree.proofs.MapLemmas.{get_is, path_same}

module _ {X : Type 0} where
  -- what is put into a list of entries is put into the map
  pub inserted : (m n : EntryMap (List Step) X) (k : List Step) (v : X) → IsOrdered path_cmp m
      → n.entries ≡ put path_cmp k v m.entries → map.from_entries {R = path_cmp} n.entries ≡ map.insert (map.from_entries m.entries) k v
  inserted m n k v sorted e =
      ap (λ (es : List (List Step × X)). map.from_entries es)
      (e
      ∙ ap (λ (es : List (List Step × X)). put path_cmp k v es) (sym (entries_from m.entries sorted))
      ∙ sym (map.entries-insert paths_total (map.from_entries m.entries) k v))
      ∙ from_own (map.insert (map.from_entries m.entries) k v)
    where
      from_own : (x : map.FinMap path_cmp X) → map.from_entries (map.entries x) ≡ x
      from_own x = map.same_map paths_total path_same _ _ (λ q. map.get-from_entries paths_total (map.entries x) q ∙ sym (map.get-entries x q))

  -- what is taken out of a list of entries is taken out of the map
  pub taken : (m n : EntryMap (List Step) X) (k : List Step) → n.entries ≡ without path_cmp k m.entries
      → map.from_entries {R = path_cmp} n.entries ≡ map.remove (map.from_entries m.entries) k
  taken m n k e = map.same_map paths_total path_same _ _ (λ q.
      map.get-from_entries paths_total n.entries q
      ∙ ap (λ (es : List (List Step × X)). map.find path_cmp q es) e
      ∙ find-where_key path_cmp (λ x. not (eq_by_cmp path_cmp k x)) q (λ x tie. ap not (tied_alike x q tie)) m.entries
      ∙ turned (eq_by_cmp path_cmp k q) (map.find path_cmp q m.entries)
      ∙ ap (λ (b : Bool). cond b None (map.find path_cmp q m.entries)) ((eq_by_cmp_equiv paths_total).symm k q)
      ∙ ap (λ (o : Option X). cond (eq_by_cmp path_cmp q k) None o) (sym (map.get-from_entries paths_total m.entries q))
      ∙ sym (map.get-remove paths_total (map.from_entries m.entries) k q))
    where
      turned : (b : Bool) (o : Option X) → cond (not b) o None ≡ cond b None o
      turned true o = refl
      turned false o = refl

      tied_alike : (x q : List Step) → path_cmp q x ≡ Equal → eq_by_cmp path_cmp k x ≡ eq_by_cmp path_cmp k q
      tied_alike x q tie = ap (λ (y : List Step). eq_by_cmp path_cmp k y) (sym (path_same q x tie))

-- the order of the value at a path, where there is one: the value that is put in its place
module _ (m : EntryMap (List Step) Value) (p : List Step) (names : List (List ℕ)) where
  none_there : (o : Option Value) → map.get (shown m) p ≡ o → None ≡ option_map (with_names names) o → shown m ≡ with_order_of (shown m) p (λ _. names) o
  none_there None e h = refl
  none_there (Some v) e h = cc

  pub order_none : None ≡ option_map (with_names names) (get path_cmp m p) → shown m ≡ with_order (shown m) p (λ _. names)
  order_none h = none_there (map.get (shown m) p) refl (h ∙ ap (option_map (with_names names)) (sym (get_is m p)))

  same_put : (w v : Value) → Some w ≡ Some (with_names names v) → map.insert (shown m) p w ≡ map.insert (shown m) p (with_names names v)
  same_put w v h = cc

  some_there : (w : Value) (o : Option Value) → Some w ≡ option_map (with_names names) o → map.insert (shown m) p w ≡ with_order_of (shown m) p (λ _. names) o
  some_there w None h = cc
  some_there w (Some v) h = same_put w v h

  pub order_some : (n : Statements) (w : Value) → Some w ≡ option_map (with_names names) (get path_cmp m p) → n ≡ map.insert (shown m) p w
      → n ≡ with_order (shown m) p (λ _. names)
  order_some n w h e = e ∙ some_there w (map.get (shown m) p) (h ∙ ap (option_map (with_names names)) (sym (get_is m p)))
