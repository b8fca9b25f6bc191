-- The first statement from a path on shows what is at that path.
use Rattle.std.proofs.Common.{◌≡◌, Bool, true, false, cond, T, List, [], ◌∷◌, filter, Option, Some, None, is_some, refl, sym, ap, subst, ◌∙◌}
use Rattle.std.specs.Prelude.{IsSome}
use Rattle.std.specs.FinMap as map
use Rattle.std.specs.FinMap.Entries.{find, find-where_key, is_sorted, is_sorted-where_key}
use Rattle.std.specs.List.{AllByRecursion}
use Rattle.std.specs.Ordering.{eq_by_cmp, is_eq, is_le, ordering_reverse}
use Rattle.cfg_base.specs.Order.{path_cmp, paths_total}
use Rattle.cfg_base.specs.declared.path.Step.{Step}
use Rattle.cfg_base.specs.declared.value.Value.{Value}
use Rattle.cfg_entries.specs.EntryMap.{Pair}
use Rattle.cfg_tree.specs.Statements.{Statements}
use Rattle.cfg_tree.proofs.BelowLemmas.{below_le, below_self}
use Rattle.cfg_tree.proofs.MapLemmas.{same_path}
use Rattle.printing_order.proofs.EntriesLemmas.{found_all, head_of}
use Rattle.printing_order.proofs.FollowedLemmas.{by_first, later_found}
use Rattle.printing_order.proofs.StatementsLemmas.{kept_pass}

module _ (m : Statements) (path : List Step) (walk : List (Pair Value)) (from : walk ≡ filter (λ e. is_le (path_cmp path e.0)) (map.entries m)) where
  -- a look-up among all is one among those from the path on
  found_from : map.get m path ≡ find path_cmp path walk
  found_from =
      map.get-entries m path
      ∙ ap (λ (b : Bool). cond b (find path_cmp path (map.entries m)) None) (sym (below_le path path (below_self path)))
      ∙ sym
      (find-where_key path_cmp (λ k. is_le (path_cmp path k)) path
      (λ x same. ap (λ (k : List Step). is_le (path_cmp path k)) (sym ((same_path path x).0 (ap is_eq same)))) (map.entries m))
      ∙ ap (λ (es : List (Pair Value)). find path_cmp path es) (sym from)

  pub none_from : walk ≡ [] → map.get m path ≡ None
  none_from none = found_from ∙ ap (λ (es : List (Pair Value)). find path_cmp path es) none

  module _ (e : Pair Value) (rest : List (Pair Value)) (first : walk ≡ e ∷ rest) where
    each : AllByRecursion (λ (x : Pair Value). (is_le (path_cmp path x.0) ≡ true) × (map.get m x.0 ≡ Some x.1)) (e ∷ rest)
    each =
        subst (AllByRecursion (λ (x : Pair Value). (is_le (path_cmp path x.0) ≡ true) × (map.get m x.0 ≡ Some x.1))) (sym from ∙ first)
        (kept_pass (λ (x : Pair Value). map.get m x.0 ≡ Some x.1) (λ (x : Pair Value). is_le (path_cmp path x.0)) (map.entries m) (found_all m))

    pub first_is : eq_by_cmp path_cmp e.0 path ≡ true → (e.0 ≡ path) × (map.get m path ≡ Some e.1)
    first_is same =
        let is = (same_path e.0 path).0 same in (is, subst (λ (k : List Step). map.get m k ≡ Some e.1) is each.0.1)

    pub first_other : eq_by_cmp path_cmp e.0 path ≡ false → map.get m path ≡ None
    first_other apart = by_look_up (map.get m path) refl
      where
        in_order : T (is_sorted path_cmp (e ∷ rest))
        in_order =
            subst (λ (xs : List (Pair Value)). T (is_sorted path_cmp xs)) (sym from ∙ first)
            (is_sorted-where_key path_cmp (λ k. is_le (path_cmp path k)) (map.entries m) (map.entries_sorted m))

        not_there : IsSome (find path_cmp path (e ∷ rest)) → ⊥
        not_there there =
            by_first e rest path ⊥ there (λ same. let tie = (same_path e.0 path).1 (sym same) in let clash = sym apart ∙ tie in cc)
            (λ more.
            let turned = paths_total.antisymm path e.0 ∙ ap ordering_reverse (later_found rest e.0 path (head_of _ _ in_order) more)
            in let clash = sym (ap is_le turned) ∙ each.0.0
            in cc)

        by_look_up : (o : Option Value) → map.get m path ≡ o → map.get m path ≡ None
        by_look_up None g = g
        by_look_up (Some v) g =
            absurd (not_there (ap is_some (sym (found_from ∙ ap (λ (es : List (Pair Value)). find path_cmp path es) first) ∙ g)))
