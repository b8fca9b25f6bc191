use Rattle.std.proofs.Common.{length}
use Rattle.cfg_tree.proofs.LevelLemmas.{IsWalk}
use Rattle.cfg_tree.proofs.below.steps_below.Given as goal

abbrev pub invariant-loop-entry : goal.invariant-loop-entry
invariant-loop-entry l = IsWalk l.path l.entries.entries l.rest l.steps.items

abbrev pub decreases-loop-entry : goal.decreases-loop-entry
decreases-loop-entry l = length l.rest
