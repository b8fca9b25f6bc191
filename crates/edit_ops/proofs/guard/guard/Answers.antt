use Rattle.edit_ops.proofs.GuardLemmas.{top_open}
use Rattle.edit_ops.proofs.guard.guard.Goals as goal

pub loop-k-init : goal.loop-k-init
loop-k-init c = top_open c.args.tree.now c.args.path.now c.requires.tree
