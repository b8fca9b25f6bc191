use Rattle.std.proofs.Common.{rules, refl}
use Rattle.group_expand.proofs.StepsLemmas.{IsRunStep, run_step}
use Rattle.group_expand.proofs.WalkLemmas.{names_more}
use Rattle.group_expand.proofs.order.push_inherited.Goals as goal

pub push_name-requires : goal.push_name-requires
push_name-requires c =
    (run_step c.args.level.now.plain c.loop-left.left.now c.first_run.result.now _ c.loop-left.invariant.1 (search rules) c.first_run.ensures refl).some

pub loop-left-smaller : goal.loop-left-smaller
loop-left-smaller c =
    (run_step c.args.level.now.plain c.loop-left.left.now c.first_run.result.now c.behind_run-left.result.now c.loop-left.invariant.1 (search rules) c.first_run.ensures c.behind_run-left.ensures).shorter

pub loop-left-preserved : goal.loop-left-preserved
loop-left-preserved c =
    let step : IsRunStep c.args.level.now.plain c.loop-left.left.now c.first_run.result.now c.behind_run-left.result.now
    = run_step c.args.level.now.plain c.loop-left.left.now c.first_run.result.now c.behind_run-left.result.now c.loop-left.invariant.1 (search rules) c.first_run.ensures c.behind_run-left.ensures
    in (names_more c.args.head.now c.args.level.now c.loop-left.left.now c.first_run.result.now c.behind_run-left.result.now c.loop-left.order c.push_name.new.order _ step c.loop-left.invariant.0 (search rules), step.on)
