use Rattle.std.proofs.Common.{length}
use Rattle.load_ops.proofs.BlockedLemmas.{Passed}
use Rattle.load_ops.proofs.blocked.blocked.Given as goal

abbrev pub invariant-loop-path : goal.invariant-loop-path
invariant-loop-path l = Passed l.old l.made l.left

abbrev pub decreases-loop-path : goal.decreases-loop-path
decreases-loop-path l = length l.left
