-- What one read takes from a source.
use Rattle.std.specs.Prelude.{◌≤◌, ℕ, List, [], take}
use Rattle.io_edge.specs.declared.ends.Got.{Got}
use Rattle.io_edge.specs.declared.ends.Got.TheVariants.{Bytes, End, Failed}

-- the bytes that a read took, of those that it put into the buffer
abbrev pub taken : Got → List ℕ → List ℕ
taken (Bytes count) buffer = take count buffer
taken End buffer = []
taken Failed buffer = []

-- a read that takes bytes takes one at least, and no more than the buffer has room for
abbrev pub TakesAtMost : Got → ℕ → Type 0
TakesAtMost (Bytes count) room = (1 ≤ count) × (count ≤ room)
TakesAtMost End room = Unit {0}
TakesAtMost Failed room = Unit {0}
