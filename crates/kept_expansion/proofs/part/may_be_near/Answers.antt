use Rattle.std.proofs.Common.{List, ◌-◌, length, ap, arith}
use Rattle.cfg_base.specs.declared.path.Step.{Step}
use Rattle.kept_expansion.proofs.PartLemmas.{near_last}
use Rattle.kept_expansion.proofs.part.may_be_near.Goals as goal

pub returns-else-both-eq0 : goal.returns-else-both-eq0
returns-else-both-eq0 c =
    let some = c.if-both-eq0.false in let less = c.saturating_sub.ensures in let both = c.min-both.ensures
    in let one = ap (λ (steps : List Step). length steps) c.steps-steps.ensures.steps
    in let other = ap (λ (steps : List Step). length steps) c.steps-others.ensures.steps
    in near_last c.args.path.now c.args.root.now _ _ (c.min-both.result - 1) c.index-steps-both.result c.index-others-both.result c.eq.result
    (omega (arith, some, less, both, one)) (omega (arith, some, both, other)) c.steps-steps.ensures.steps c.steps-others.ensures.steps c.index-steps-both.is c.index-others-both.is
    c.eq.ensures
