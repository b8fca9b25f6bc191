-- The offers of a level by their steps.
use Rattle.std.proofs.Common.{◌≡◌, Bool, false, not, List, [], filter, refl, sym, ap, ◌∙◌, None}
use Rattle.std.specs.Prelude.{◌&&◌}
use Rattle.std.specs.List.Sorted.{IsSortedBy, IsStableBy}
use Rattle.std.specs.Ordering.{is_lt, is_eq, eq_by_cmp, ordering_reverse}
use Rattle.std.specs.Cmp.{IsStrictWeakOrder}
use Rattle.std.specs.declared.cmp.Ordering.{Ordering}
use Rattle.std.specs.declared.cmp.Ordering.TheVariants.{Less, Equal, Greater}
use Rattle.std.proofs.lemmas.List.Sorted.{ranks_by}
use Rattle.cfg_base.specs.Order.{step_cmp, steps_total}
use Rattle.cfg_base.specs.declared.path.Step.{Step}
use Rattle.group_expand.specs.Level.{Ranked, is_at, comes_before, IsByStep}

pub ranks : IsStrictWeakOrder comes_before
ranks = ranks_by steps_total (λ (r : Ranked). r.offer.step)

tie : (s t : Step) → (not (is_lt (step_cmp s t)) && not (is_lt (step_cmp t s))) ≡ eq_by_cmp step_cmp s t
tie s t = ap (λ (o : Ordering). not (is_lt (step_cmp s t)) && not (is_lt o)) (steps_total.antisymm t s) ∙ by_order (step_cmp s t)
  where
    by_order : (o : Ordering) → (not (is_lt o) && not (is_lt (ordering_reverse o))) ≡ is_eq o
    by_order Less = refl
    by_order Equal = refl
    by_order Greater = refl

abbrev some_offer : Step → Ranked
some_offer s = record {
  rank = 0;
  offer = record { step = s; group = None; node = record { path = []; value = record { inactive = false; protected = false; order = []; words = [] }; below = [] } };
}

pub by_step : (offers level : List Ranked) → IsSortedBy comes_before level → IsStableBy comes_before offers level → IsByStep offers level
by_step offers level sorted stable = record {
  ascends = sorted;
  alike = λ step.
      let same : (λ (r : Ranked). not (comes_before (some_offer step) r) && not (comes_before r (some_offer step))) ≡ is_at step = λ i r. tie step r.offer.step i
      in ap (λ (t : Ranked → Bool). filter t level) (sym same) ∙ stable (some_offer step) ∙ ap (λ (t : Ranked → Bool). filter t offers) same;
}
