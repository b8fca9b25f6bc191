use Rattle.edit_ops.specs.Made.{LevelsPut}
use Rattle.edit_ops.proofs.set.put_levels.Given as goal

abbrev pub invariant-loop-k : goal.invariant-loop-k
invariant-loop-k l = LevelsPut l.initial.tree l.tree l.k l.path
