use Rattle.std.proofs.Common.{◌-◌, ◌<◌, ap, sym, refl, subst, ◌∙◌, ℕ, List, length, take}
use Rattle.std.proofs.lemmas.Result.{on_ok_weaker}
use Rattle.cfg_base.specs.declared.path.Step.{Step}
use Rattle.cfg_tree.proofs.MapLemmas.{get_is}
use Rattle.cfg_tree.proofs.MovedLemmas.{last_at, relisted_none, relisted_some}
use Rattle.cfg_tree.proofs.moving.relist.Goals as goal

pub returns-in-None : goal.returns-in-None
returns-in-None c =
    relisted_none _ _ c.args.to.now c.in_ok-parent.parent (sym c.if-not-is_ordered.ensures.is)
    (c.in_ok-parent.ensures ∙ ap (λ (p : List Step). take (length p - 1) c.args.from.now) c.steps.ensures.steps)
    (get_is c.args.entries.now c.in_ok-parent.parent ∙ sym c.in-None.ensures.value)

pub returns : goal.returns
returns c =
    let long = c.if-not-is_ordered.ensures.steps refl
    in let last = ap (λ (p : List Step). length p - 1) c.steps.ensures.steps
    in on_ok_weaker c.set_order.result
    (λ done. done
    ∙ relisted_some _ _ c.args.to.now c.in_ok-parent.parent _ _ c.in-Some.value.now c.in_ok-order-in-Some.order (sym c.if-not-is_ordered.ensures.is)
    (c.in_ok-parent.ensures ∙ ap (λ (p : List Step). take (length p - 1) c.args.from.now) c.steps.ensures.steps)
    (sym c.index-steps-above.is ∙ last_at c.args.from.now c.steps-in-Some.result.now _ _ long c.steps-in-Some.ensures.steps last c.index-steps-above.is)
    (sym c.index-steps-above-in-Some.is
    ∙ last_at c.args.to.now c.steps-in-Some-2.result.now _ _ (subst (λ (n : ℕ). 0 < n) (sym c.requires) long) c.steps-in-Some-2.ensures.steps
    (last ∙ ap (λ (n : ℕ). n - 1) (sym c.requires)) c.index-steps-above-in-Some.is)
    (get_is c.args.entries.now c.in_ok-parent.parent ∙ sym c.in-Some.ensures.value)
    c.in_ok-order-in-Some.ensures)
    c.set_order.ensures.ok
