-- A listing from the top down is in the order of paths.
use Rattle.std.proofs.Common.{◌≡◌, ℕ, zero, suc, List, [], ◌∷◌, ◌++◌, refl, sym, ap, ◌∙◌, append_assoc, Option, Some, None}
use Rattle.std.specs.List.{flat_map, AllByRecursion}
use Rattle.std.specs.List.Sorted.{IsStrictlySortedBy}
use Rattle.std.specs.Map.{keys_of}
use Rattle.std.specs.Ordering.{ordering_then}
use Rattle.std.specs.declared.cmp.Ordering.{Ordering}
use Rattle.std.specs.declared.cmp.Ordering.TheVariants.{Less}
use Rattle.cfg_base.specs.Order.{path_cmp, step_cmp}
use Rattle.cfg_base.specs.declared.path.Step.{Step}
use Rattle.group_expand.specs.Listed.{entry_and, listed}
use Rattle.group_expand.proofs.ListedLemmas.{same_front, append_nil}

less_by : (p : List Step) (s t : Step) (a b : List Step) → step_cmp s t ≡ Less → path_cmp (p ++ s ∷ a) (p ++ t ∷ b) ≡ Less
less_by p s t a b e = same_front p (s ∷ a) (t ∷ b) ∙ ap (λ (o : Ordering). ordering_then o (path_cmp a b)) e

less_below : (p : List Step) (t : Step) (r : List Step) → path_cmp p (p ++ t ∷ r) ≡ Less
less_below p t r = ap (λ (q : List Step). path_cmp q (p ++ t ∷ r)) (sym (append_nil p)) ∙ same_front p [] (t ∷ r)

module _ {X : Type 0} where
  -- each key is strictly below the path
  abbrev pub AreInside : List Step → List (List Step × X) → Type 0
  AreInside q [] = Unit {0}
  AreInside q (e ∷ es) = ((t : Step) × (r : List Step) × (e.0 ≡ q ++ t ∷ r)) × AreInside q es

  -- each key is below the path, by a step after this one
  abbrev AreLater : List Step → Step → List (List Step × X) → Type 0
  AreLater q s [] = Unit {0}
  AreLater q s (e ∷ es) = ((t : Step) × (r : List Step) × (e.0 ≡ q ++ t ∷ r) × (step_cmp s t ≡ Less)) × AreLater q s es

  -- each key begins with the path and the step
  abbrev pub AreUnder : List Step → Step → List (List Step × X) → Type 0
  AreUnder q s [] = Unit {0}
  AreUnder q s (e ∷ es) = ((r : List Step) × (e.0 ≡ q ++ s ∷ r)) × AreUnder q s es

  inside_append : (q : List Step) (es fs : List (List Step × X)) → AreInside q es → AreInside q fs → AreInside q (es ++ fs)
  inside_append q [] fs h k = k
  inside_append q (e ∷ es) fs h k = (h.0, inside_append q es fs h.1 k)

  later_append : (q : List Step) (s : Step) (es fs : List (List Step × X)) → AreLater q s es → AreLater q s fs → AreLater q s (es ++ fs)
  later_append q s [] fs h k = k
  later_append q s (e ∷ es) fs h k = (h.0, later_append q s es fs h.1 k)

  under_inside : (q : List Step) (s : Step) (es : List (List Step × X)) → AreUnder q s es → AreInside q es
  under_inside q s [] h = tt
  under_inside q s (e ∷ es) h = ((s, h.0.0, h.0.1), under_inside q s es h.1)

  under_later : (q : List Step) (s t : Step) (es : List (List Step × X)) → step_cmp s t ≡ Less → AreUnder q t es → AreLater q s es
  under_later q s t [] e h = tt
  under_later q s t (x ∷ es) e h = ((t, h.0.0, h.0.1, e), under_later q s t es e h.1)

  pub inside_under : (q : List Step) (s : Step) (es : List (List Step × X)) → AreInside (q ++ s ∷ []) es → AreUnder q s es
  inside_under q s [] h = tt
  inside_under q s (e ∷ es) h = ((h.0.0 ∷ h.0.1, h.0.2 ∙ append_assoc q (s ∷ []) (h.0.0 ∷ h.0.1)), inside_under q s es h.1)

  after_all : (q : List Step) (s : Step) (a k : List Step) (fs : List (List Step × X)) → k ≡ q ++ s ∷ a → AreLater q s fs → AllByRecursion (λ j. path_cmp k j ≡ Less) (keys_of fs)
  after_all q s a k [] e h = tt
  after_all q s a k (f ∷ fs) e h = (
    ap (λ (x : List Step). path_cmp x f.0) e ∙ ap (λ (x : List Step). path_cmp (q ++ s ∷ a) x) h.0.2 ∙ less_by q s h.0.0 a h.0.1 h.0.3,
    after_all q s a k fs e h.1,
  )

  below_all : (q : List Step) (fs : List (List Step × X)) → AreInside q fs → AllByRecursion (λ j. path_cmp q j ≡ Less) (keys_of fs)
  below_all q [] h = tt
  below_all q (f ∷ fs) h = (ap (λ (x : List Step). path_cmp q x) h.0.2 ∙ less_below q h.0.0 h.0.1, below_all q fs h.1)

  all_append : (k : List Step) (es fs : List (List Step × X)) → AllByRecursion (λ j. path_cmp k j ≡ Less) (keys_of es) → AllByRecursion (λ j. path_cmp k j ≡ Less) (keys_of fs)
      → AllByRecursion (λ j. path_cmp k j ≡ Less) (keys_of (es ++ fs))
  all_append k [] fs h g = g
  all_append k (e ∷ es) fs h g = (h.0, all_append k es fs h.1 g)

  sorted_append : (q : List Step) (s : Step) (es fs : List (List Step × X)) → IsStrictlySortedBy path_cmp (keys_of es) → AreUnder q s es
      → IsStrictlySortedBy path_cmp (keys_of fs) → AreLater q s fs → IsStrictlySortedBy path_cmp (keys_of (es ++ fs))
  unfolding IsStrictlySortedBy
  sorted_append q s [] fs h u g l = g
  sorted_append q s (e ∷ es) fs h u g l =
      (all_append e.0 es fs h.0 (after_all q s u.0.0 e.0 fs u.0.1 l), sorted_append q s es fs h.1 u.1 g l)

  module _ (at : List Step → Option X) (steps : List Step → List Step) (ordered : (p : List Step) → IsStrictlySortedBy step_cmp (steps p)) where
    abbrev one : ℕ → List Step → Step → List (List Step × X)
    one n p s = entry_and (p ++ s ∷ []) (at (p ++ s ∷ [])) (listed at steps n (p ++ s ∷ []))

    module _ (n : ℕ) (p : List Step) (inside : (s : Step) → AreInside (p ++ s ∷ []) (listed at steps n (p ++ s ∷ [])))
        (sorted : (s : Step) → IsStrictlySortedBy path_cmp (keys_of (listed at steps n (p ++ s ∷ [])))) where
      one_under : (s : Step) → AreUnder p s (one n p s)
      one_under s = by_entry (at (p ++ s ∷ []))
        where
          by_entry : (o : Option X) → AreUnder p s (entry_and (p ++ s ∷ []) o (listed at steps n (p ++ s ∷ [])))
          by_entry None = tt
          by_entry (Some x) = (([], refl), inside_under p s _ (inside s))

      one_sorted : (s : Step) → IsStrictlySortedBy path_cmp (keys_of (one n p s))
      unfolding IsStrictlySortedBy
      one_sorted s = by_entry (at (p ++ s ∷ []))
        where
          by_entry : (o : Option X) → IsStrictlySortedBy path_cmp (keys_of (entry_and (p ++ s ∷ []) o (listed at steps n (p ++ s ∷ []))))
          by_entry None = tt
          by_entry (Some x) = (below_all (p ++ s ∷ []) _ (inside s), sorted s)

      all_inside : (ss : List Step) → AreInside p (flat_map (one n p) ss)
      all_inside [] = tt
      all_inside (s ∷ ss) = inside_append p (one n p s) (flat_map (one n p) ss) (under_inside p s (one n p s) (one_under s)) (all_inside ss)

      all_later : (s : Step) (ss : List Step) → AllByRecursion (λ t. step_cmp s t ≡ Less) ss → AreLater p s (flat_map (one n p) ss)
      all_later s [] h = tt
      all_later s (t ∷ ss) h = later_append p s (one n p t) (flat_map (one n p) ss) (under_later p s t (one n p t) h.0 (one_under t)) (all_later s ss h.1)

      all_sorted : (ss : List Step) → IsStrictlySortedBy step_cmp ss → IsStrictlySortedBy path_cmp (keys_of (flat_map (one n p) ss))
      unfolding IsStrictlySortedBy
      all_sorted [] h = tt
      all_sorted (s ∷ ss) h = sorted_append p s (one n p s) (flat_map (one n p) ss) (one_sorted s) (one_under s) (all_sorted ss h.1) (all_later s ss h.0)

    pub listed_both : (n : ℕ) (p : List Step) → AreInside p (listed at steps n p) × IsStrictlySortedBy path_cmp (keys_of (listed at steps n p))
    unfolding listed IsStrictlySortedBy
    listed_both zero p = (tt, tt)
    listed_both (suc n) p =
        let below : (s : Step) → AreInside (p ++ s ∷ []) (listed at steps n (p ++ s ∷ [])) × IsStrictlySortedBy path_cmp (keys_of (listed at steps n (p ++ s ∷ []))) = λ s. listed_both n (p ++ s ∷ [])
        in (all_inside n p (λ s. (below s).0) (λ s. (below s).1) (steps p), all_sorted n p (λ s. (below s).0) (λ s. (below s).1) (steps p) (ordered p))

    -- the listing is in order
    pub listed_sorted : (n : ℕ) (p : List Step) → IsStrictlySortedBy path_cmp (keys_of (listed at steps n p))
    listed_sorted n p = (listed_both n p).1
