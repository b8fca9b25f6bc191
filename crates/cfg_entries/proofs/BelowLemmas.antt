-- Paths below a path: they are its steps and more, and in the order of paths they stand together.
use Rattle.std.proofs.Common.{◌≡◌, Bool, true, false, ◌&&◌, List, [], ◌∷◌, refl, sym, ap, ◌∙◌}
use Rattle.std.specs.List.{starts_with}
use Rattle.std.specs.FinMap.{IsAntisymmetric}
use Rattle.std.specs.Cmp.{IsTotalOrder}
use Rattle.std.specs.Cmp.Lexicographic.{slice_cmp}
use Rattle.std.specs.declared.cmp.Ordering.{Ordering}
use Rattle.std.specs.declared.cmp.Ordering.TheVariants.{Less, Equal, Greater}
use Rattle.std.specs.Ordering.{eq_by_cmp, is_eq, is_le, ordering_then, ordering_reverse}
use Rattle.cfg_base.specs.Order.{path_cmp, step_cmp, is_below, steps_total}
use Rattle.cfg_base.specs.declared.path.Step.{Step}
use Rattle.cfg_entries.proofs.OrderLemmas.{is_equal, step_same}

both : (a b : Bool) → (a && b) ≡ true → (a ≡ true) × (b ≡ true)
both true b h = (refl, h)
both false b h = cc

both_true : (a b : Bool) → a ≡ true → b ≡ true → (a && b) ≡ true
both_true true b h k = k
both_true false b h k = cc

module _ {K : Type 0} (R : K → K → Ordering) (o : IsTotalOrder R) (same : IsAntisymmetric R) where
  starts : List K → List K → Bool
  starts above path = starts_with (eq_by_cmp R) path above

  equal_heads : (s t : K) → eq_by_cmp R s t ≡ true → R s t ≡ Equal
  equal_heads s t h = is_equal _ h

  -- what begins with a list isn't before it
  starts_le : (p k : List K) → starts p k ≡ true → is_le (slice_cmp R p k) ≡ true
  unfolding starts
  starts_le [] [] h = refl
  starts_le [] (t ∷ k) h = refl
  starts_le (s ∷ p) [] h = cc
  starts_le (s ∷ p) (t ∷ k) h =
      let parts = both (eq_by_cmp R s t) _ h
      in rw (equal_heads s t parts.0) (starts_le p k parts.1)

  step_between : (s t : K) (p k j : List K) (r : Ordering) → R s t ≡ r
      → is_le (ordering_then r (slice_cmp R p k)) ≡ true → ordering_then (ordering_reverse r) (slice_cmp R k j) ≡ Less
      → (is_le (slice_cmp R p k) ≡ true → slice_cmp R k j ≡ Less → starts p k ≡ true)
      → (eq_by_cmp R s t && starts p k) ≡ true
  step_between s t p k j Less e a b go = cc
  step_between s t p k j Equal e a b go = both_true _ _ (ap is_eq e) (go a b)
  step_between s t p k j Greater e a b go = cc

  -- what stands between a list and one that begins with it begins with it too
  starts_between : (p k j : List K) → is_le (slice_cmp R p k) ≡ true → slice_cmp R k j ≡ Less → starts p j ≡ true → starts p k ≡ true
  unfolding starts
  starts_between [] k j a b h = refl
  starts_between (s ∷ p) [] j a b h = cc
  starts_between (s ∷ p) (t ∷ k) [] a b h = cc
  starts_between (s ∷ p) (t ∷ k) (u ∷ j) a b h =
      let parts = both (eq_by_cmp R s u) _ h
      in let same_head = same s u (equal_heads s u parts.0)
      in let turned = sym (ap (R t) same_head) ∙ o.antisymm t s
      in let c : ordering_then (ordering_reverse (R s t)) (slice_cmp R k j) ≡ Less =
      ap (λ (r : Ordering). ordering_then r (slice_cmp R k j)) (sym (o.antisymm t s) ∙ ap (R t) same_head) ∙ b
      in step_between s t p k j (R s t) refl a c (λ d e. starts_between p k j d e parts.1)

pub below_le : (p k : List Step) → is_below p k ≡ true → is_le (path_cmp p k) ≡ true
unfolding starts
below_le = starts_le step_cmp steps_total step_same

pub below_between : (p k j : List Step) → is_le (path_cmp p k) ≡ true → path_cmp k j ≡ Less → is_below p j ≡ true → is_below p k ≡ true
unfolding starts
below_between = starts_between step_cmp steps_total step_same
