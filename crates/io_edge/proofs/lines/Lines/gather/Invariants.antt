use Rattle.std.proofs.Common.{◌≤◌, vec_len}
use Rattle.std.specs.Vec.{vec_capacity}
use Rattle.io_edge.specs.declared.lines.TheConstants.{KEPT}
use Rattle.io_edge.specs.Reader.{Gathered}
use Rattle.io_edge.proofs.lines.Lines.gather.Given as goal

abbrev pub invariant-bytes : goal.invariant-bytes
invariant-bytes g l = record {
  gathered : Gathered l.kept.items l.fn.self l.self;
  within : vec_len l.kept ≤ KEPT;
  room : KEPT ≤ vec_capacity l.kept;
}

abbrev pub decreases-bytes : goal.decreases-bytes
decreases-bytes g l = l.self.room
