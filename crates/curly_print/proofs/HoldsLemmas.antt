-- A statement holds others where the next one in the order of paths stands below it.
use Rattle.std.proofs.Common.{◌≡◌, ℕ, ◌+◌, ◌^◌, ◌≤◌, ◌<◌, nat_lt, Bool, true, false, List, [], ◌∷◌, ◌++◌, length, refl, sym, ap, subst, ◌∙◌, inl, is_some, arith, append-nil, length-append}
use Rattle.std.specs.Prelude.{IsSome}
use Rattle.std.specs.FinMap as map
use Rattle.std.specs.List.{sum_by}
use Rattle.std.specs.Ordering.{is_le, ordering_reverse}
use Rattle.std.specs.declared.cmp.Ordering.{Ordering}
use Rattle.std.specs.declared.cmp.Ordering.TheVariants.{Less, Equal, Greater}
use Rattle.cfg_base.specs.Order.{path_cmp, paths_total}
use Rattle.cfg_base.specs.declared.path.Step.{Step}
use Rattle.cfg_base.specs.declared.value.Value.{Value}
use Rattle.cfg_entries.specs.EntryMap.{Pair}
use Rattle.cfg_tree.specs.Statements.{Statements, size_of, is_below, last_of, parent_of}
use Rattle.cfg_tree.specs.Tree.{IsTree}
use Rattle.cfg_tree.specs.After.{IsNext, IsLast}
use Rattle.cfg_tree.specs.Children.{children_of}
use Rattle.cfg_tree.proofs.MapLemmas.{path_same}
use Rattle.cfg_tree.proofs.PathLemmas.{child_longer, split}
use Rattle.cfg_tree.proofs.BelowLemmas.{below_between, below_self, below_more}
use Rattle.cfg_tree.proofs.OnceLemmas.{below_rest}
use Rattle.curly_print.specs.Printed.{printed}
use Rattle.curly_print.specs.Length.{holds, entry_len, capped}
use Rattle.printing_order.proofs.FollowedLemmas.{itself, child_after}
use Rattle.printing_order.proofs.NumberLemmas.{lt_is, lt_told}
use Rattle.printing_order.proofs.ListedLemmas.{Lists, child_there, there_listed}
use Rattle.curly_print.proofs.LengthLemmas.{child_above, length-printed}

some_listed : (steps : List Step) (s : Step) → Lists steps s → 0 < length steps
some_listed [] s l = absurd l
some_listed (t ∷ steps) s l = omega arith

first_listed : (steps : List Step) → 0 < length steps → (s : Step) × Lists steps s
first_listed [] h = absurd (omega (arith, h))
first_listed (s ∷ steps) h = (s, inl refl)

less_le : (o : Ordering) → o ≡ Less → is_le o ≡ true
less_le o e = ap is_le e

module _ (m : Statements) (tree : IsTree m) (p : List Step) where
  -- a statement below a path stands below one of its children
  holds_below : (q : List Step) → IsSome (map.get m q) → path_cmp p q ≡ Less → is_below p q ≡ true → holds m p ≡ true
  holds_below q there after below = let rest = below_rest p q below in by_rest rest.0 rest.1
    where
      by_rest : (rest : List Step) → q ≡ p ++ rest → holds m p ≡ true
      by_rest [] e = absurd (itself p (ap (λ (x : List Step). path_cmp p x) (sym (e ∙ append-nil p)) ∙ after))
      by_rest (t ∷ rest) e =
          let child = child_above m tree p rest t (ap (λ (x : List Step). is_some (map.get m x)) (sym e) ∙ there)
          in lt_is 0 (length (children_of m p)) (some_listed (children_of m p) t (there_listed m tree p t child))

  child_held : holds m p ≡ true → (s : Step) × (IsSome (map.get m (p ++ s ∷ [])))
  child_held h =
      let first = first_listed (children_of m p) (lt_told 0 (length (children_of m p)) h)
      in (first.0, child_there m tree p first.0 first.1)

  pub next_holds : (q : List Step) (v : Value) → IsNext m p q v → is_below p q ≡ holds m p
  next_holds q v next = by_tests (is_below p q) (holds m p) refl refl
    where
      by_place : (c : List Step) → IsSome (map.get m c) → path_cmp p c ≡ Less → is_below p c ≡ true → (o : Ordering) → path_cmp c q ≡ o → is_below p q ≡ true
      by_place c there after below Less e = absurd (next.first c there after e)
      by_place c there after below Equal e = subst (λ (x : List Step). is_below p x ≡ true) (path_same c q e) below
      by_place c there after below Greater e =
          below_between p q c (less_le _ next.after) (paths_total.antisymm q c ∙ ap ordering_reverse e) below

      by_tests : (b h : Bool) → is_below p q ≡ b → holds m p ≡ h → b ≡ h
      by_tests true true e f = refl
      by_tests false false e f = refl
      by_tests true false e f = let held = holds_below q (ap is_some next.found) next.after e in cc
      by_tests false true e f =
          let child = child_held f
          in let below = by_place (p ++ child.0 ∷ []) child.1 (child_after p child.0) (below_more p p child.0 (below_self p)) _ refl
          in cc

  -- above the next statement stand statements, so it is below where it has more steps
  pub next_longer : (q : List Step) (v : Value) → IsNext m p q v → nat_lt (length p) (length q) ≡ holds m p
  next_longer q v next = by_tests (nat_lt (length p) (length q)) (is_below p q) refl refl ∙ next_holds q v next
    where
      above : List Step
      above = parent_of q

      more : 0 < length q
      more = (tree.statements.parents q (ap is_some next.found)).steps

      whole : q ≡ above ++ last_of q ∷ []
      whole = split q more

      long : length q ≡ length above + 1
      long = ap (λ (ss : List Step). length ss) whole ∙ child_longer above (last_of q)

      before : path_cmp above q ≡ Less
      before = subst (λ (k : List Step). path_cmp above k ≡ Less) (sym whole) (child_after above (last_of q))

      below_above : is_below above q ≡ true
      below_above = subst (λ (k : List Step). is_below above k ≡ true) (sym whole) (below_more above above (last_of q) (below_self above))

      is_above : p ≡ above → is_below p q ≡ true
      is_above same = subst (λ (k : List Step). is_below k q ≡ true) (sym same) below_above

      as_long : (rest : List Step) → p ≡ above ++ rest → length p ≤ length above → p ≡ above
      as_long [] e few = e ∙ append-nil above
      as_long (t ∷ rest) e few =
          let k = ap (λ (ss : List Step). length ss) e in absurd (omega (arith, k, few, length-append above (t ∷ rest)))

      by_order : length p < length q → (o : Ordering) → path_cmp p above ≡ o → is_below p q ≡ true
      by_order longer Less e = by_length p longer e
        where
          by_length : (k : List Step) → length k < length q → path_cmp k above ≡ Less → is_below k q ≡ true
          by_length [] l f = refl
          by_length (s ∷ k) l f = absurd (next.first above ((tree.statements.parents q (ap is_some next.found)).parent (omega (arith, l))) e before)
      by_order longer Equal e = is_above (path_same p above e)
      by_order longer Greater e =
          let turned = paths_total.antisymm above p ∙ ap ordering_reverse e
          in let between = below_between above p q (less_le _ turned) next.after below_above
          in let rest = below_rest above p between
          in is_above (as_long rest.0 rest.1 (omega (arith, long, longer)))

      longer_below : is_below p q ≡ true → length p < length q
      longer_below e = let rest = below_rest p q e in by_rest rest.0 rest.1
        where
          by_rest : (rest : List Step) → q ≡ p ++ rest → length p < length q
          by_rest [] f = absurd (itself p (ap (λ (x : List Step). path_cmp p x) (sym (f ∙ append-nil p)) ∙ next.after))
          by_rest (t ∷ rest) f = let k = ap (λ (ss : List Step). length ss) f in omega (arith, k, length-append p (t ∷ rest))

      by_tests : (l b : Bool) → nat_lt (length p) (length q) ≡ l → is_below p q ≡ b → l ≡ b
      by_tests true true e f = refl
      by_tests false false e f = refl
      by_tests true false e f = let below = by_order (lt_told (length p) (length q) e) _ refl in cc
      by_tests false true e f = let longer = lt_is (length p) (length q) (longer_below f) in cc

  pub last_holds : IsLast m p → false ≡ holds m p
  last_holds last = by_test (holds m p) refl
    where
      by_test : (h : Bool) → holds m p ≡ h → false ≡ h
      by_test false f = refl
      by_test true f = let child = child_held f in absurd (last (p ++ child.0 ∷ []) child.1 (child_after p child.0))

-- what is counted when nothing is left
pub whole_len : (m : Statements) (total : ℕ) (left : List (Pair Value)) → IsTree m → left ≡ [] → total < 2 ^ 64
    → capped (total + sum_by (entry_len m) left) ≡ capped (sum_by (entry_len m) (map.entries m)) → total ≡ capped (length (printed m []))
whole_len m total left tree none small h =
    let step = ap (λ (es : List (Pair Value)). sum_by (entry_len m) es) none
    in let counted : total ≡ capped (sum_by (entry_len m) (map.entries m)) = omega (arith, step, h)
    in counted ∙ ap capped (sym (length-printed m tree))

-- a tree without statements
pub no_len : (m : Statements) → IsTree m → size_of m ≡ 0 → 0 ≡ capped (length (printed m []))
no_len m tree none = whole_len m 0 (map.entries m) tree (nothing (map.entries m) (sym (map.len-entries m) ∙ none)) (omega arith) (ap capped (omega arith))
  where
    nothing : (es : List (Pair Value)) → length es ≡ 0 → es ≡ []
    nothing [] e = refl
    nothing (x ∷ es) e = absurd (omega (arith, e))
