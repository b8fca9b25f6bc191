use Rattle.std.proofs.Common.{[], rules}
use Rattle.cfg_tree.specs.Tree.{step_of}
use Rattle.group_expand.specs.Fitting.{exact}
use Rattle.group_expand.proofs.FittingLemmas.{down_more}
use Rattle.group_expand.proofs.fitting.fitting.Goals as goal

pub loop-step-preserved : goal.loop-step-preserved
loop-step-preserved c =
    down_more (exact (step_of [] c.args.group.now) c.args.groups.now) c.loop-step.found.items c.in_ok-found-2.found.items c.args.path.now c.loop-step.step-index c.step-item.result
    c.loop-step-test.true c.step-item.is c.loop-step.invariant (search rules)
