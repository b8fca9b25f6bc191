-- The bytes of a record of a journal file. The format is this project's own; the digest is SHA-256 of FIPS 180-4.
use Rattle.std.specs.Prelude.{◌≡◌, ◌≤◌, ◌<◌, ◌+◌, ◌==◌, All, ℕ, zero, suc, List, [], ◌∷◌, ◌++◌, length, take, drop, slice_index, if◌then◌else◌}
use Rattle.std.specs.Int.{w32, to_be_bytes, from_be_bytes}
use Rattle.sha2.specs.Sha256.{sha256}

-- a kind with its payload
pub record Record : Type 0 where
  pub kind : ℕ
  pub payload : List ℕ

-- the most bytes that a payload has
abbrev pub most_payload : ℕ
most_payload = 1049600

-- a payload isn't longer than that
abbrev pub IsSound : Record → Type 0
IsSound r = length r.payload ≤ most_payload

-- kind, length and payload, of which the digest is taken
abbrev pub head : Record → List ℕ
head r = (r.kind ∷ []) ++ to_be_bytes w32 (length r.payload) ++ r.payload

-- a record after its gate: the head, its digest, and the gate of the next record
unfoldable pub body : ℕ → Record → List ℕ
body next r = head r ++ sha256 (head r) ++ next ∷ []

-- records one after another, with open gates between them and a closed one at the end
abbrev pub bodies : List Record → List ℕ
bodies [] = []
bodies (r ∷ []) = body 0 r
bodies (r ∷ (s ∷ rs)) = body 1 r ++ bodies (s ∷ rs)

-- the length of the payload of the record that these bytes begin with
abbrev pub stated_size : List ℕ → ℕ
stated_size bytes = from_be_bytes w32 (take 4 (drop 1 bytes))

-- that record
abbrev pub first_in : List ℕ → Record
first_in bytes = record { kind = slice_index bytes 0; payload = take (stated_size bytes) (drop 5 bytes) }

-- so many records at most that stand one after another in these bytes, up to the first closed gate
unfoldable pub records_in : ℕ → List ℕ → List Record
records_in zero bytes = []
records_in (suc n) bytes =
    first_in bytes ∷ (if slice_index bytes (37 + stated_size bytes) == 1 then records_in n (drop (38 + stated_size bytes) bytes) else [])

-- the gate before records is open, and after it stand these bytes
abbrev pub gated : List ℕ → List ℕ
gated body = 1 ∷ body

-- the records after the gate that these bytes begin with: no more than there are bytes
abbrev pub records_behind : List ℕ → List Record
records_behind bytes = records_in (length bytes) (drop 1 bytes)

-- these bytes are an open gate and records, with a closed gate at their end
pub record IsGated (bytes : List ℕ) : Type 0 where
  pub is : bytes ≡ gated (bodies (records_behind bytes))
  pub sound : All IsSound (records_behind bytes)
  pub some : 0 < length (records_behind bytes)
