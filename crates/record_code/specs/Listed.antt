-- Records as they are read from a file, each with the place of its gate.
use Rattle.std.specs.Prelude.{◌≡◌, ◌+◌, ℕ, List, [], ◌∷◌, length, map}
use Rattle.record_code.specs.declared.payloads.Placed.{Placed}
use Rattle.record_code.specs.Record.{Record}

-- the record that was read, without its place
abbrev pub record_of : Placed → Record
record_of p = record { kind = p.kind; payload = p.payload }

abbrev pub records_of : List Placed → List Record
records_of placed = map record_of placed

-- the records stand one after the other, the first with its gate at g, and the gate after the last is at `last`
abbrev pub PlacedFrom : ℕ → List Placed → ℕ → Type 0
PlacedFrom g [] last = g ≡ last
PlacedFrom g (p ∷ placed) last = (p.offset ≡ g) × PlacedFrom (g + 38 + length p.payload) placed last
