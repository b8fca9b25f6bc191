use Rattle.std.proofs.Common.{length, ap, sym, ◌∙◌, Option, ℕ}
use Rattle.std.specs.Prelude.{unwrap_or}
use Rattle.group_expand.specs.Runs.{comes_before}
use Rattle.group_expand.proofs.StepsLemmas.{prefix_told}
use Rattle.group_expand.proofs.join.count_before.Goals as goal

pub returns-in-Some-clause-is : goal.returns-in-Some-clause-is
returns-in-Some-clause-is c =
    ap (λ (o : Option ℕ). unwrap_or o (length c.args.run.now)) (sym c.in-Some.is)
    ∙ prefix_told (comes_before c.args.rank) c.args.run.now c.first_behind.result c.first_behind.ensures

pub returns-in-None-clause-is : goal.returns-in-None-clause-is
returns-in-None-clause-is c =
    ap (λ (o : Option ℕ). unwrap_or o (length c.args.run.now)) (sym c.in-None.is)
    ∙ prefix_told (comes_before c.args.rank) c.args.run.now c.first_behind.result c.first_behind.ensures
