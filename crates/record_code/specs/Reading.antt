-- What a journal file spells, read by place; past its end it has zeros.
use Rattle.std.specs.Prelude.{◌≡◌, ◌≢◌, ◌≤◌, ◌<◌, ◌+◌, ℕ, zero, suc, nat_le, List, [], ◌∷◌, length, slice_index, if◌then◌else◌}
use Rattle.std.specs.Int.{w32, from_be_bytes}
use Rattle.sha2.specs.Sha256.{sha256}
use Rattle.record_code.specs.Record.{Record, most_payload}

-- the byte at a place, and 0 past the end
abbrev pub byte : List ℕ → ℕ → ℕ
byte file place = slice_index file place

-- so many bytes from a place on
unfoldable pub slice : List ℕ → ℕ → ℕ → List ℕ
slice file at zero = []
slice file at (suc n) = byte file at ∷ slice file (suc at) n

-- two files have the same bytes from one place up to another
abbrev pub Agree : List ℕ → List ℕ → ℕ → ℕ → Type 0
Agree f g from to = (k : ℕ) → from ≤ k → k < to → byte f k ≡ byte g k

-- the length of a payload after the gate at g; one above the limit is read as none
unfoldable pub size_at : List ℕ → ℕ → ℕ
size_at file g =
    let n = from_be_bytes w32 (slice file (g + 2) 4) in
    if nat_le n most_payload then n else 0

-- the record after the gate at g
unfoldable pub record_at : List ℕ → ℕ → Record
record_at file g = record { kind = byte file (g + 1); payload = slice file (g + 6) (size_at file g) }

-- the digest of its kind, length and payload
unfoldable pub computed_digest : List ℕ → ℕ → List ℕ
computed_digest file g = sha256 (slice file (g + 1) (5 + size_at file g))

-- the digest that stands after its payload
unfoldable pub kept_digest : List ℕ → ℕ → List ℕ
kept_digest file g = slice file (g + 6 + size_at file g) 32

-- the gate of the record after it
unfoldable pub next_gate : List ℕ → ℕ → ℕ
next_gate file g = g + 38 + size_at file g

-- the gate at g is open, and after it stands this record with its digest
pub record IsRecordAt (file : List ℕ) (g : ℕ) (r : Record) : Type 0 where
  pub is_open : byte file g ≡ 1
  pub is : r ≡ record_at file g
  pub right : computed_digest file g ≡ kept_digest file g

-- from the gate at g on these records stand one after another, and the gate after them is at `last`
abbrev pub Reads : List ℕ → ℕ → List Record → ℕ → Type 0
Reads file g [] last = g ≡ last
Reads file g (r ∷ rs) last = IsRecordAt file g r × Reads file (next_gate file g) rs last

-- the place of the first record's gate
abbrev pub first_gate : ℕ
first_gate = 17

-- the file has these records up to its first closed gate, which is at `last`
pub record Spells (file : List ℕ) (rs : List Record) (last : ℕ) : Type 0 where
  pub reads : Reads file first_gate rs last
  pub shut : byte file last ≢ 1
  pub inside : last < length file
