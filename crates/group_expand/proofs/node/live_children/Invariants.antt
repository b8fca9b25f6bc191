use Rattle.std.proofs.Common.{length}
use Rattle.group_expand.proofs.NodeLemmas.{IsOnWay}
use Rattle.group_expand.proofs.node.live_children.Given as goal

abbrev pub invariant-loop-left : goal.invariant-loop-left
invariant-loop-left l = IsOnWay l.above l.below l.left l.nodes.items

abbrev pub decreases-loop-left : goal.decreases-loop-left
decreases-loop-left l = length l.left
