-- The paths of a map that pass a test are told by look-ups at these paths.
use Rattle.std.proofs.Common.{◌≡◌, Bool, true, false, cond, T, List, [], ◌∷◌, ◌++◌, filter, map, refl, sym, ap, subst, ◌∙◌, Option, Some, None, is_some}
use Rattle.std.specs.Prelude.{◌&&◌}
use Rattle.std.specs.FinMap as finite
use Rattle.std.specs.FinMap.Entries.{find, find-where_key, is_sorted, is_sorted-where_key, below_all, same_entries}
use Rattle.std.specs.Ordering.{is_lt, is_eq, eq_by_cmp}
use Rattle.cfg_base.specs.Order.{path_cmp, paths_total}
use Rattle.cfg_base.specs.declared.path.Step.{Step}
use Rattle.cfg_tree.specs.Statements.{last_of}
use Rattle.cfg_tree.specs.Children.{is_child}
use Rattle.cfg_tree.proofs.MapLemmas.{path_same, same_path}
use Rattle.group_expand.proofs.PlacedLemmas.{child_split}

-- the paths alone
abbrev bare : {X : Type 0} → List (List Step × X) → List (List Step × Unit {0})
bare es = map (λ e. (e.0, tt)) es

module _ {X : Type 0} where
  below_bare : (k : List Step) (es : List (List Step × X)) → below_all path_cmp k (bare es) ≡ below_all path_cmp k es
  below_bare k [] = refl
  below_bare k (e ∷ es) = ap (λ (b : Bool). is_lt (path_cmp k e.0) && b) (below_bare k es)

  sorted_bare : (es : List (List Step × X)) → is_sorted path_cmp (bare es) ≡ is_sorted path_cmp es
  sorted_bare [] = refl
  sorted_bare (e ∷ es) =
      ap (λ (b : Bool). b && is_sorted path_cmp (bare es)) (below_bare e.0 es) ∙ ap (λ (b : Bool). below_all path_cmp e.0 es && b) (sorted_bare es)

  find_bare : (q : List Step) (es : List (List Step × X)) → is_some (find path_cmp q (bare es)) ≡ is_some (find path_cmp q es)
  find_bare q [] = refl
  find_bare q (e ∷ es) = by_test (eq_by_cmp path_cmp q e.0) (find_bare q es)
    where
      by_test : (b : Bool) → is_some (find path_cmp q (bare es)) ≡ is_some (find path_cmp q es)
          → is_some (cond b (Some tt) (find path_cmp q (bare es))) ≡ is_some (cond b (Some e.1) (find path_cmp q es))
      by_test true h = refl
      by_test false h = h

  keys_bare : (es : List (List Step × X)) → map (λ (e : List Step × Unit {0}). e.0) (bare es) ≡ map (λ (e : List Step × X). e.0) es
  keys_bare [] = refl
  keys_bare (e ∷ es) = ap (λ (ks : List (List Step)). e.0 ∷ ks) (keys_bare es)

  -- the entries whose paths pass a test
  abbrev passing : (List Step → Bool) → List (List Step × X) → List (List Step × X)
  passing p es = filter (λ e. p e.0) es

  keys_passing : (p : List Step → Bool) (es : List (List Step × X))
      → map (λ (e : List Step × X). e.0) (passing p es) ≡ filter p (map (λ (e : List Step × X). e.0) es)
  keys_passing p [] = refl
  keys_passing p (e ∷ es) = by_test (p e.0) (keys_passing p es)
    where
      by_test : (b : Bool) → map (λ (x : List Step × X). x.0) (passing p es) ≡ filter p (map (λ (x : List Step × X). x.0) es)
          → map (λ (x : List Step × X). x.0) (cond b (e ∷ passing p es) (passing p es))
          ≡ cond b (e.0 ∷ filter p (map (λ (x : List Step × X). x.0) es)) (filter p (map (λ (x : List Step × X). x.0) es))
      by_test true h = ap (λ (ks : List (List Step)). e.0 ∷ ks) h
      by_test false h = h

  module _ (p : List Step → Bool) (m : finite.FinMap path_cmp X) where
    in_order : T (is_sorted path_cmp (bare (passing p (finite.entries m))))
    in_order =
        subst (λ (b : Bool). T b) (sym (sorted_bare (passing p (finite.entries m))))
        (is_sorted-where_key path_cmp p (finite.entries m) (finite.entries_sorted m))

    found : (q : List Step) → is_some (find path_cmp q (bare (passing p (finite.entries m)))) ≡ (p q && is_some (finite.get m q))
    found q =
        find_bare q (passing p (finite.entries m))
        ∙ ap is_some (find-where_key path_cmp p q (λ x same. ap p (sym ((same_path q x).0 (ap is_eq same)))) (finite.entries m))
        ∙ by_test (p q)
      where
        by_test : (b : Bool) → is_some (cond b (find path_cmp q (finite.entries m)) None) ≡ (b && is_some (finite.get m q))
        by_test true = ap is_some (sym (finite.get-entries m q))
        by_test false = refl

nothing_more : (o p : Option (Unit {0})) → is_some o ≡ is_some p → o ≡ p
nothing_more None None e = refl
nothing_more None (Some y) e = cc
nothing_more (Some x) None e = cc
nothing_more (Some x) (Some y) e = refl

-- maps that have something at the same paths of those that pass a test have the same such paths
pub passing_same : {X Y : Type 0} (p : List Step → Bool) (m : finite.FinMap path_cmp X) (n : finite.FinMap path_cmp Y)
    → ((q : List Step) → p q ≡ true → is_some (finite.get m q) ≡ is_some (finite.get n q)) → filter p (finite.keys m) ≡ filter p (finite.keys n)
passing_same p m n h =
    let same : bare (passing p (finite.entries m)) ≡ bare (passing p (finite.entries n))
    = same_entries path_cmp paths_total path_same (bare (passing p (finite.entries m))) (bare (passing p (finite.entries n))) (in_order p m) (in_order p n)
    (λ q. nothing_more _ _ (found p m q ∙ by_test q (p q) refl ∙ sym (found p n q)))
    in sym (keys_passing p (finite.entries m))
    ∙ sym (keys_bare (passing p (finite.entries m)))
    ∙ ap (λ (es : List (List Step × Unit {0})). map (λ (e : List Step × Unit {0}). e.0) es) same
    ∙ keys_bare (passing p (finite.entries n))
    ∙ keys_passing p (finite.entries n)
  where
    by_test : (q : List Step) (b : Bool) → p q ≡ b → (b && is_some (finite.get m q)) ≡ (b && is_some (finite.get n q))
    by_test q true e = h q e
    by_test q false e = refl

-- maps that are the same right below a path have the same steps there
module _ {X : Type 0} (m n : finite.FinMap path_cmp X) (q : List Step) (same : (s : Step) → finite.get m (q ++ s ∷ []) ≡ finite.get n (q ++ s ∷ [])) where
  child_same : (k : List Step) → is_child q k ≡ true → is_some (finite.get m k) ≡ is_some (finite.get n k)
  child_same k h =
      let at = child_split q k h
      in ap (λ (p : List Step). is_some (finite.get m p)) at ∙ ap is_some (same (last_of k)) ∙ sym (ap (λ (p : List Step). is_some (finite.get n p)) at)

  pub kids_same : map last_of (filter (is_child q) (finite.keys m)) ≡ map last_of (filter (is_child q) (finite.keys n))
  kids_same = ap (map last_of) (passing_same (is_child q) m n child_same)
