use Rattle.std.proofs.Common.{length, ap, sym, ◌∙◌, Option, ℕ}
use Rattle.std.specs.Prelude.{unwrap_or}
use Rattle.group_expand.proofs.StepsLemmas.{run_told}
use Rattle.group_expand.proofs.run.run_length.Goals as goal

pub returns-in-Some-clause-is : goal.returns-in-Some-clause-is
returns-in-Some-clause-is c =
    ap (λ (o : Option ℕ). unwrap_or o (length c.args.level.now)) (sym c.in-Some.is)
    ∙ run_told c.args.level.now c.index-level-0.result c.step.result.now c.first_other.result c.requires c.index-level-0.is c.step.ensures c.first_other.ensures

pub returns-in-None-clause-is : goal.returns-in-None-clause-is
returns-in-None-clause-is c =
    ap (λ (o : Option ℕ). unwrap_or o (length c.args.level.now)) (sym c.in-None.is)
    ∙ run_told c.args.level.now c.index-level-0.result c.step.result.now c.first_other.result c.requires c.index-level-0.is c.step.ensures c.first_other.ensures
