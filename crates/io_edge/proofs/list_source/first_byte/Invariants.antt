use Rattle.std.proofs.Common.{length, ◌-◌, ◌≡◌}
use Rattle.io_edge.specs.Places.{left_from, IsPlaceOf}
use Rattle.io_edge.proofs.list_source.first_byte.Given as goal

abbrev pub invariant-pieces : goal.invariant-pieces
invariant-pieces l =
    IsPlaceOf l.pieces l.piece l.at
    × (left_from l.pieces l.piece l.at ≡ left_from l.pieces l.fn.from.piece l.fn.from.at)

abbrev pub decreases-pieces : goal.decreases-pieces
decreases-pieces l = length l.pieces - l.piece
