-- The union of two maps: what is put in turn makes it, and it keeps what holds of the statements of a tree.
use Rattle.std.proofs.Common.{◌≡◌, ℕ, ◌<◌, ◌≤◌, Bool, T, true, false, cond, ◌||◌, List, [], ◌∷◌, ◌++◌, length, refl, sym, ap, subst, ◌∙◌, Option, Some, None, is_some, if◌then◌else◌, arith}
use Rattle.std.specs.Prelude.{IsSome}
use Rattle.std.specs.FinMap as map
use Rattle.std.specs.FinMap.Entries.{find, is_sorted, below_all}
use Rattle.std.specs.Ordering.{eq_by_cmp}
use Rattle.std.specs.Bool.{Decides}
use Rattle.cfg_base.specs.Order.{path_cmp}
use Rattle.cfg_base.specs.Words.{joined}
use Rattle.cfg_base.proofs.WordLemmas.{joined-distinct, joined-lists}
use Rattle.cfg_base.specs.declared.path.Step.{Step}
use Rattle.cfg_base.specs.declared.value.Value.{Value}
use Rattle.cfg_base.specs.contracts.value.ValuePartialEq.TheImpl as value_order
use Rattle.cfg_schema.specs.declared.place.Place.{Place}
use Rattle.cfg_schema.specs.Place.{place_of}
use Rattle.cfg_entries.specs.EntryMap.{Pair, EntryMap, IsOrdered, get}
use Rattle.cfg_tree.specs.Statements.{Statements, size_of, parent_of, HasParent}
use Rattle.cfg_tree.specs.Shown.{shown}
use Rattle.cfg_tree.specs.declared.limit.TheConstants.{MAX_STATEMENTS}
use Rattle.cfg_tree.specs.Typed.{IsTypedPath, AreWordsOf}
use Rattle.cfg_tree.specs.Tree.{ordered_head, step_of, IsOrderBy, IsOrderOf, IsStatementMap, IsTree}
use Rattle.cfg_tree.specs.Gather.{value_of_both, joined_at, told, gathered, gathered_one}
use Rattle.cfg_tree.specs.Union.{value_in_both, IsUnion, IsUnbounded}
use Rattle.cfg_tree.proofs.MapLemmas.{path_same, entries_is, get_is, len_is, same_statements}
use Rattle.cfg_tree.proofs.PathLemmas.{split, same_ends, child_longer, same_or_not, get_here, get_other}
use Rattle.cfg_tree.proofs.SameLemmas.{same_value}
use Rattle.cfg_tree.proofs.PutLemmas.{order_same}
use Rattle.cfg_tree.proofs.StatedLemmas.{words_joined}
use Rattle.cfg_tree.proofs.GatheredLemmas.{get_gathered, told_behind, front, back, tied}

joined_is : (q k : List Step) (o : Option Value) (v : Value) → q ≡ k → Some (joined_at k o v) ≡ value_in_both q o (Some v)
joined_is q k None v e = refl
joined_is q k (Some old) v e = ap (λ (p : List Step). Some (value_of_both p old v)) (sym e)

-- entries in order determine what stands in both
told_both : (q : List Step) (o : Option Value) (es : List (Pair Value)) → T (is_sorted path_cmp es) → told q o es ≡ value_in_both q o (find path_cmp q es)
told_both q None [] h = refl
told_both q (Some v) [] h = refl
told_both q o (e ∷ es) h = by_tie (eq_by_cmp path_cmp q e.0) refl (told_both q o es (back _ _ h))
  where
    by_tie : (b : Bool) → eq_by_cmp path_cmp q e.0 ≡ b → told q o es ≡ value_in_both q o (find path_cmp q es)
        → told q (if b then Some (joined_at e.0 o e.1) else o) es ≡ value_in_both q o (cond b (Some e.1) (find path_cmp q es))
    by_tie true t go =
        told_behind q (joined_at e.0 o e.1) es (subst (λ (k : List Step). T (below_all path_cmp k es)) (sym (path_same q e.0 (tied _ t))) (front _ _ h))
        ∙ joined_is q e.0 o e.1 (path_same q e.0 (tied _ t))
    by_tie false t go = go

-- the statements of one map put in turn into another make the union
pub union_is : (m n both : Statements) → both ≡ gathered m (map.entries n) → IsUnion m n both
union_is m n both e q =
    ap (λ (x : Statements). map.get x q) e
    ∙ get_gathered (map.entries n) m q
    ∙ told_both q (map.get m q) (map.entries n) (map.entries_sorted n)
    ∙ ap (λ (o : Option Value). value_in_both q (map.get m q) o) (sym (map.get-entries n q))

pub union_shown : (mine theirs both : EntryMap (List Step) Value) → IsOrdered path_cmp theirs → shown both ≡ gathered (shown mine) theirs.entries
    → IsUnion (shown mine) (shown theirs) (shown both)
union_shown mine theirs both up e =
    union_is (shown mine) (shown theirs) (shown both)
    (e ∙ ap (λ (es : List (Pair Value)). gathered (shown mine) es) (sym (entries_is theirs.entries up)))

-- two maps have one union
pub union_once : (m n one other : Statements) → IsUnion m n one → IsUnion m n other → one ≡ other
union_once m n one other a b = same_statements one other (λ q. a q ∙ sym (b q))

same_some : (v w : Value) → Some v ≡ Some w → v ≡ w
same_some v w e = cc

-- a value that is there, put again
pub same_put : (m : Statements) (path : List Step) (value : Value) → map.get m path ≡ Some value → m ≡ map.insert m path value
same_put m path value e = same_statements m (map.insert m path value) (λ q.
    same_or_not q path (map.get m q ≡ map.get (map.insert m path value) q)
    (λ is. subst (λ (k : List Step). map.get m k ≡ map.get (map.insert m path value) k) (sym is) (e ∙ sym (get_here m path value)))
    (λ differs. sym (get_other m path q value differs)))

-- what joins a value to that of a path, among entries
pub put_joined : (m : EntryMap (List Step) Value) (path p : List Step) (value both : Value) (n : Statements)
    → ◌≡◌ {A = Pair Value} (p, both) (path, joined_at path (get path_cmp m path) value) → n ≡ map.insert (shown m) p both
    → n ≡ gathered_one (shown m) (path, value)
put_joined m path p value both n e f =
    f
    ∙ ap (λ (x : Pair Value). map.insert (shown m) x.0 x.1) e
    ∙ ap (λ (o : Option Value). map.insert (shown m) path (joined_at path o value)) (sym (get_is m path))

pub kept_joined : (m : EntryMap (List Step) Value) (path p : List Step) (value both : Value)
    → ◌≡◌ {A = Pair Value} (p, both) (path, joined_at path (get path_cmp m path) value) → get path_cmp m p ≡ Some both
    → shown m ≡ gathered_one (shown m) (path, value)
kept_joined m path p value both e there = put_joined m path p value both (shown m) e (same_put (shown m) p both (get_is m p ∙ there))

-- the value at a path is compared with one
pub has_value : (o : Option Value) (there value : Value) (b : Bool) → Some there ≡ o → b ≡ (value_order.ghosts).eq there value → Decides b (o ≡ Some value)
has_value o there value b e f =
    let decides = subst (λ (x : Bool). Decides x (there ≡ value)) (sym f) (same_value there value)
    in (λ h. sym e ∙ ap Some (decides.0 h), λ h. decides.1 (same_some there value (e ∙ h)))

some_both : (q : List Step) (a b : Option Value) → is_some (value_in_both q a b) ≡ (is_some a || is_some b)
some_both q None b = refl
some_both q (Some v) None = refl
some_both q (Some v) (Some w) = refl

or_cases : (a b : Bool) (P : Type 0) → (a || b) ≡ true → (a ≡ true → P) → (b ≡ true → P) → P
or_cases true b P h f g = f refl
or_cases false b P h f g = g h

or_second : (a b : Bool) → b ≡ true → (a || b) ≡ true
or_second true b h = refl
or_second false b h = h

or_false : (a b : Bool) → b ≡ false → (a || b) ≡ a
or_false true b h = refl
or_false false b h = h

not_there : (o : Option Value) → o ≡ None → is_some o ≡ true → ⊥
not_there None e h = cc
not_there (Some v) e h = cc

-- a statement that isn't there has no children
pub no_child : (m : Statements) (q : List Step) (s : Step) → IsStatementMap m → 0 < length q → map.get m q ≡ None
    → is_some (map.get m (q ++ s ∷ [])) ≡ false
no_child m q s statements long none = by_there (is_some (map.get m (q ++ s ∷ []))) refl
  where
    above : parent_of (q ++ s ∷ []) ≡ q
    above =
        let more = child_longer q s
        in sym (same_ends q (parent_of (q ++ s ∷ [])) s _ (split (q ++ s ∷ []) (omega (arith, more)))).0

    by_there : (b : Bool) → is_some (map.get m (q ++ s ∷ [])) ≡ b → b ≡ false
    by_there false h = refl
    by_there true h =
        let parent = statements.parents (q ++ s ∷ []) h
        in let more = child_longer q s
        in absurd (not_there _ none (subst (λ (k : List Step). IsSome (map.get m k)) above (parent.parent (omega (arith, more, long)))))

module _ (m n both : Statements) (one : IsTree m) (other : IsTree n) (is : IsUnion m n both) where
  there : (q : List Step) → is_some (map.get both q) ≡ (is_some (map.get m q) || is_some (map.get n q))
  there q = ap is_some (is q) ∙ some_both q (map.get m q) (map.get n q)

  stays : (q : List Step) → IsSome (map.get m q) → IsSome (map.get both q)
  stays q h = there q ∙ ap (λ (b : Bool). b || is_some (map.get n q)) h

  comes : (q : List Step) → IsSome (map.get n q) → IsSome (map.get both q)
  comes q h = there q ∙ or_second (is_some (map.get m q)) _ h

  top : map.get both [] ≡ None
  top = is [] ∙ (λ i. value_in_both [] (one.statements.top i) (other.statements.top i))

  parents : (q : List Step) → IsSome (map.get both q) → HasParent both q
  parents q h =
      or_cases _ _ (HasParent both q) (sym (there q) ∙ h)
      (λ mine. let old = one.statements.parents q mine in record { steps = old.steps; parent = λ long. stays _ (old.parent long) })
      (λ theirs. let new = other.statements.parents q theirs in record { steps = new.steps; parent = λ long. comes _ (new.parent long) })

  order_mine : (q : List Step) (v : Value) → map.get m q ≡ Some v → map.get n q ≡ None → IsOrderOf both q v.order
  order_mine q v a b =
      let long = (one.statements.parents q (ap is_some a)).steps
      in order_same m both q (ordered_head (place_of q)) v.order
      (λ name h e. there (q ++ step_of h name ∷ []) ∙ or_false _ _ (no_child n q (step_of h name) other.statements long b))
      (one.statements.orders q v a)

  order_theirs : (q : List Step) (v : Value) → map.get m q ≡ None → map.get n q ≡ Some v → IsOrderOf both q v.order
  order_theirs q v a b =
      let long = (other.statements.parents q (ap is_some b)).steps
      in order_same n both q (ordered_head (place_of q)) v.order
      (λ name h e. there (q ++ step_of h name ∷ [])
      ∙ ap (λ (c : Bool). c || is_some (map.get n (q ++ step_of h name ∷ []))) (no_child m q (step_of h name) one.statements long a))
      (other.statements.orders q v b)

  joined_order : (q : List Step) (head : Option (List ℕ)) (old new : List (List ℕ)) → IsOrderBy m q head old → IsOrderBy n q head new
      → IsOrderBy both q head (joined old new)
  joined_order q None old new a b = ap (λ (names : List (List ℕ)). joined old names) b ∙ a
  joined_order q (Some h) old new a b = record {
    once = joined-distinct old new a.once;
    each = λ name.
        joined-lists old new name
        ∙ (λ i. a.each name i || b.each name i)
        ∙ sym (there (q ++ step_of h name ∷ []));
  }

  orders : (q : List Step) (v : Value) → map.get both q ≡ Some v → IsOrderOf both q v.order
  orders q v e = by_values (map.get m q) (map.get n q) refl refl (sym (is q) ∙ e)
    where
      by_values : (a b : Option Value) → map.get m q ≡ a → map.get n q ≡ b → value_in_both q a b ≡ Some v → IsOrderOf both q v.order
      by_values None None f g e = cc
      by_values None (Some w) f g e = subst (λ (x : Value). IsOrderOf both q x.order) (same_some w v e) (order_theirs q w f g)
      by_values (Some w) None f g e = subst (λ (x : Value). IsOrderOf both q x.order) (same_some w v e) (order_mine q w f g)
      by_values (Some w) (Some u) f g e =
          subst (λ (x : Value). IsOrderOf both q x.order) (same_some (value_of_both q w u) v e)
          (joined_order q (ordered_head (place_of q)) w.order u.order (one.statements.orders q w f) (other.statements.orders q u g))

  paths : (q : List Step) → IsSome (map.get both q) → IsTypedPath q
  paths q h = or_cases _ _ (IsTypedPath q) (sym (there q) ∙ h) (one.typed.paths q) (other.typed.paths q)

  words : (q : List Step) (v : Value) (here : Place) → map.get both q ≡ Some v → place_of q ≡ Some here → AreWordsOf here.row v.words
  words q v here e placed = by_values (map.get m q) (map.get n q) refl refl (sym (is q) ∙ e)
    where
      by_values : (a b : Option Value) → map.get m q ≡ a → map.get n q ≡ b → value_in_both q a b ≡ Some v → AreWordsOf here.row v.words
      by_values None None f g e = cc
      by_values None (Some w) f g e = subst (λ (x : Value). AreWordsOf here.row x.words) (same_some w v e) (other.typed.words q w here g placed)
      by_values (Some w) None f g e = subst (λ (x : Value). AreWordsOf here.row x.words) (same_some w v e) (one.typed.words q w here f placed)
      by_values (Some w) (Some u) f g e =
          subst (λ (x : Value). AreWordsOf here.row x.words) (same_some (value_of_both q w u) v e)
          (words_joined q here w.words u.words placed (one.typed.words q w here f placed) (other.typed.words q u here g placed))

  -- the union keeps all that holds of a tree but the bound
  pub union_unbounded : IsUnbounded both
  union_unbounded = record {
    statements = record { top = top; parents = parents; orders = orders };
    typed = record { paths = paths; words = words };
  }

pub unbounded : (m : Statements) → IsTree m → IsUnbounded m
unbounded m tree = record { statements = tree.statements; typed = tree.typed }

pub union_by : (mine theirs both : EntryMap (List Step) Value) (m n : Statements) → IsOrdered path_cmp theirs → shown mine ≡ m → shown theirs ≡ n
    → shown both ≡ gathered (shown mine) theirs.entries → IsUnion m n (shown both)
union_by mine theirs both m n up f g e =
    subst (λ (x : Statements). IsUnion x n (shown both)) f (subst (λ (x : Statements). IsUnion (shown mine) x (shown both)) g (union_shown mine theirs both up e))

-- entries that aren't too many make a tree
pub few_tree : (m : EntryMap (List Step) Value) (n : ℕ) → n ≡ length m.entries → IsOrdered path_cmp m → IsUnbounded (shown m) → n ≤ MAX_STATEMENTS
    → IsTree (shown m)
few_tree m n e up held few = record {
  statements = held.statements;
  typed = held.typed;
  few = subst (λ (k : ℕ). k ≤ MAX_STATEMENTS) (e ∙ sym (len_is m.entries up)) few;
}

pub few_made : (m made : Statements) (tree : Statements) → tree ≡ made → made ≡ m → IsTree made → (tree ≡ m) × (size_of tree ≤ MAX_STATEMENTS)
few_made m made tree e f held = (e ∙ f, subst (λ (x : Statements). size_of x ≤ MAX_STATEMENTS) (sym e) held.few)

pub too_many : (m : EntryMap (List Step) Value) (self : Statements) (n : ℕ) → n ≡ length m.entries → IsOrdered path_cmp m → shown m ≡ self → MAX_STATEMENTS < n
    → MAX_STATEMENTS < size_of self
too_many m self n e up f more =
    subst (λ (x : Statements). MAX_STATEMENTS < size_of x) f
    (subst (λ (k : ℕ). MAX_STATEMENTS < k) (e ∙ sym (len_is m.entries up)) more)
