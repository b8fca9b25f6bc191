use Rattle.edit_ops.specs.Made.{IsOpen}
use Rattle.edit_ops.proofs.guard.guard.Given as goal

abbrev pub invariant-loop-k : goal.invariant-loop-k
invariant-loop-k l = IsOpen l.tree l.k l.path
