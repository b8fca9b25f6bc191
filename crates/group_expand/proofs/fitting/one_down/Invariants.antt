use Rattle.std.proofs.Common.{◌≡◌, take}
use Rattle.std.specs.Prelude.{flat_map}
use Rattle.group_expand.specs.Fitting.{fits_of}
use Rattle.group_expand.proofs.fitting.one_down.Given as goal

abbrev pub invariant-loop-node : goal.invariant-loop-node
invariant-loop-node l = l.found.items ≡ flat_map (fits_of l.step) (take l.node-index l.nodes)
