use Rattle.std.proofs.Common.{take}
use Rattle.cfg_base.specs.Words.{Knows}
use Rattle.group_expand.specs.Runs.{names_with}
use Rattle.group_expand.proofs.order.names_with.Given as goal

abbrev pub invariant-loop-node : goal.invariant-loop-node
invariant-loop-node l = Knows (names_with l.head (take l.node-index l.nodes)) l.names
