use Rattle.std.proofs.Common.{length}
use Rattle.call_scripts.proofs.followed.are_same.Given as goal

abbrev pub invariant-loop-path : goal.invariant-loop-path
invariant-loop-path l = Unit {0}

abbrev pub decreases-loop-path : goal.decreases-loop-path
decreases-loop-path l = length l.left
