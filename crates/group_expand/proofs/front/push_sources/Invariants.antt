use Rattle.std.proofs.Common.{◌≡◌, ◌++◌, take, map}
use Rattle.group_expand.specs.Fronts.{source_of}
use Rattle.group_expand.proofs.front.push_sources.Given as goal

abbrev pub invariant-loop-node : goal.invariant-loop-node
invariant-loop-node l = l.front.items ≡ l.initial.front.items ++ map (source_of l.group) (take l.node-index l.nodes)
