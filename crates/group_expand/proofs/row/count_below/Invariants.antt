use Rattle.std.proofs.Common.{length}
use Rattle.group_expand.specs.Row.{IsToldByDepth}
use Rattle.group_expand.proofs.RowLemmas.{IsSoFar}
use Rattle.group_expand.proofs.row.count_below.Given as goal

abbrev pub invariant-loop-left : goal.invariant-loop-left
invariant-loop-left l = IsSoFar l.above.path l.rest l.left × IsToldByDepth l.above.path l.left

abbrev pub decreases-loop-left : goal.decreases-loop-left
decreases-loop-left l = length l.left
