use Rattle.std.proofs.Common.{◌≡◌, ◌≤◌, ◌-◌, length, take}
use Rattle.io_edge.specs.Ends.{held_after}
use Rattle.io_edge.proofs.writing.put_all.Given as goal

abbrev pub invariant-pieces : goal.invariant-pieces
invariant-pieces g l = record {
  within : l.at ≤ length l.bytes;
  written : (g.K.Sink.view l.sink).held ≡ held_after ((g.K.Sink.view l.fn.sink).held) (take l.at l.bytes);
  later : (g.K.Sink.view l.fn.sink).faults ≤ (g.K.Sink.view l.sink).faults;
}

abbrev pub decreases-pieces : goal.decreases-pieces
decreases-pieces g l = length l.bytes - l.at
