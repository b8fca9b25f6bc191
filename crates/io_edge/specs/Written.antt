-- What one write gives to a sink.
use Rattle.std.specs.Prelude.{◌≡◌, ◌≤◌, ℕ, List, [], take, min}
use Rattle.io_edge.specs.declared.ends.Put.{Put}
use Rattle.io_edge.specs.declared.ends.Put.TheVariants.{Took, Failed}

-- the bytes of the piece that a write gave to the sink
abbrev pub written : Put → List ℕ → List ℕ
written (Took count) piece = take count piece
written Failed piece = []

-- a write that gives bytes gives one at least, and no more than there are
abbrev pub GivesAtMost : Put → ℕ → Type 0
GivesAtMost (Took count) size = (1 ≤ count) × (count ≤ size)
GivesAtMost Failed size = Unit {0}

-- a write of so many bytes, to a sink with room for so many, gives what fits
abbrev pub TakesWhatFits : Put → ℕ → ℕ → Type 0
TakesWhatFits (Took count) room size = count ≡ min room size
TakesWhatFits Failed room size = Unit {0}
