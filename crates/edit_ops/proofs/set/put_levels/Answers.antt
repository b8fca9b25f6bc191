use Rattle.std.proofs.Common.{◌<◌, ◌-◌, List, length, sym, ap, subst, ◌∙◌}
use Rattle.cfg_base.specs.declared.path.Step.{Step}
use Rattle.edit_ops.specs.Change.{with_level}
use Rattle.edit_ops.specs.Made.{IsLevelReady, IsRoomFault}
use Rattle.edit_ops.proofs.SetLemmas.{levels_none, next_ready, levels_more, levels_fault}
use Rattle.edit_ops.proofs.set.put_levels.Goals as goal

pub loop-k-init : goal.loop-k-init
loop-k-init c = levels_none c.args.tree.now c.args.path.now

pub put_level-requires : goal.put_level-requires
put_level-requires c =
    subst (λ (p : List Step). IsLevelReady c.loop-k.tree p) (sym c.in_ok-above.ensures)
    (next_ready c.args.tree.now c.loop-k.tree c.loop-k.k c.args.path.now c.requires.typed
    (subst (λ (p : List Step). c.loop-k.k < length p - 1) c.steps.ensures.steps c.loop-k-test.true) c.loop-k.invariant)

pub returns-in-Err-clause-err : goal.returns-in-Err-clause-err
returns-in-Err-clause-err c =
    levels_fault c.args.tree.now c.loop-k.tree c.loop-k.k c.args.path.now c.in-Err.fault
    (subst (λ (p : List Step). c.loop-k.k < length p - 1) c.steps.ensures.steps c.loop-k-test.true) c.loop-k.invariant
    (subst (λ (p : List Step). IsRoomFault c.loop-k.tree p c.in-Err.fault) c.in_ok-above.ensures c.in-Err.ensures.err)

pub loop-k-preserved : goal.loop-k-preserved
loop-k-preserved c =
    levels_more c.args.tree.now c.loop-k.tree c.put_level.new.tree c.loop-k.k c.args.path.now
    (subst (λ (p : List Step). c.loop-k.k < length p - 1) c.steps.ensures.steps c.loop-k-test.true) c.loop-k.invariant
    (c.in_default.ensures.ok ∙ ap (with_level c.loop-k.tree) c.in_ok-above.ensures)
