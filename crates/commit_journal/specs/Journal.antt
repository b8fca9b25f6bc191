-- What a contract sees of a journal on two disks.
use Rattle.std.specs.Prelude.{◌≡◌, ◌≤◌, ◌<◌, ◌+◌, ◌-◌, ◌^◌, ◌⊎◌, min, Bool, IsTrue, ℕ, List, [], ◌∷◌, ◌++◌, length}
use Rattle.cfg_base.specs.Counts.{Rose}
use Rattle.disk_model.specs.Disk.{DiskView, History, state_of, contents_of, IsImage}
use Rattle.disk_model.specs.Pair.{DiskPair}
use Rattle.record_code.specs.Record.{Record, body, bodies}
use Rattle.record_code.specs.Reading.{first_gate}
use Rattle.commit_journal.specs.declared.flight.Flight.{Flight}
use Rattle.commit_journal.specs.declared.flight.Flight.TheVariants.{Nothing, Record as InFlight, Image as ImageInFlight}
use Rattle.commit_journal.specs.declared.settling.Settled.{Settled}
use Rattle.commit_journal.specs.declared.settling.Settled.TheVariants.{Kept, NotKept}
use Rattle.commit_journal.specs.Pair.{generation, first_of, second_of, IsSettled, IsBeforeOrAfter, Rests, Waits, LeavesPair}
use Rattle.commit_journal.specs.Rotation.{IsSpare, ReplacesFrom, WaitsReplaced}

-- the disk that counts and the other one, and what is in flight
pub record JournalView : Type 0 where
  pub counting : DiskView
  pub other : DiskView
  pub b_counts : Bool
  pub gate : ℕ
  pub flight : Flight
  pub limit : ℕ
  -- how many calls each disk made since the journal was opened
  pub counting_calls : ℕ
  pub other_calls : ℕ

-- both disks tell what they hold
abbrev pub Tell : JournalView → Type 0
Tell v = IsTrue v.counting.tells × IsTrue v.other.tells

-- nothing is in flight
abbrev pub IsIdle : JournalView → Type 0
IsIdle v = v.flight ≡ Nothing

-- a record or an image is in flight
abbrev pub IsInFlight : Flight → Type 0
IsInFlight Nothing = ⊥
IsInFlight (InFlight next) = Unit {0}
IsInFlight (ImageInFlight next) = Unit {0}

-- a record is
abbrev pub IsRecordInFlight : Flight → Type 0
IsRecordInFlight Nothing = ⊥
IsRecordInFlight (InFlight next) = Unit {0}
IsRecordInFlight (ImageInFlight next) = ⊥

-- an image is
abbrev pub IsImageInFlight : Flight → Type 0
IsImageInFlight Nothing = ⊥
IsImageInFlight (InFlight next) = ⊥
IsImageInFlight (ImageInFlight next) = Unit {0}

-- the gate after a record at this gate, or the last place for one
abbrev pub gate_behind : ℕ → Record → ℕ
gate_behind gate r = min (gate + length (body 0 r)) (2 ^ 62 - 1)

-- the journal has these records, and nothing is in flight
pub record Has (v : JournalView) (rs : List Record) : Type 0 where
  pub idle : v.flight ≡ Nothing
  pub rests : Rests v.b_counts v.counting.history v.other.history v.gate rs

-- the journal has these records, and this one is in flight
pub record Awaits (v : JournalView) (rs : List Record) (r : Record) : Type 0 where
  pub flight : v.flight ≡ InFlight (gate_behind v.gate r)
  pub waits : Waits v.b_counts v.counting.history v.other.history v.gate rs r

-- the gate after the records of an image, or the last place for one
abbrev pub image_gate : List Record → ℕ
image_gate image = min (first_gate + length (bodies image)) (2 ^ 62 - 1)

-- the journal has these records, and of the image in the other file it isn't known whether it is the list
pub record AwaitsImage (v : JournalView) (rs image : List Record) : Type 0 where
  pub flight : v.flight ≡ ImageInFlight (image_gate image)
  pub waits : WaitsReplaced v.b_counts v.counting.history v.other.history v.gate rs (generation (contents_of v.counting.history)) image (image_gate image)

-- a count that goes on, and stands still at its last value
abbrev pub counted : ℕ → ℕ → ℕ
counted count more = min (count + more) (2 ^ 64 - 1)

-- the count went on by the calls that the disk made meanwhile; of a disk whose own count is at its end nothing is said
abbrev pub CountsCalls : History → History → ℕ → ℕ → Type 0
CountsCalls h h' count count' =
    length h'.calls < 2 ^ 64 - 1 → count' ≡ counted count (length h'.calls - length h.calls)

-- the history of A, and that of B
abbrev pub a_of : JournalView → History
a_of v = first_of v.b_counts v.counting.history v.other.history

abbrev pub b_of : JournalView → History
b_of v = second_of v.b_counts v.counting.history v.other.history

-- the disk of A, and that of B
abbrev pub disk_a : JournalView → DiskView
disk_a v = first_of v.b_counts v.counting v.other

abbrev pub disk_b : JournalView → DiskView
disk_b v = second_of v.b_counts v.counting v.other

abbrev pub disks_of : JournalView → DiskPair
disks_of v = record { a = disk_a v; b = disk_b v }

-- how many calls the disk of A made since the journal was opened, and that of B
abbrev pub calls_a : JournalView → ℕ
calls_a v = first_of v.b_counts v.counting_calls v.other_calls

abbrev pub calls_b : JournalView → ℕ
calls_b v = second_of v.b_counts v.counting_calls v.other_calls

-- each pair of images since the old journal has P
abbrev pub LeavesBoth : JournalView → JournalView → (List ℕ → List ℕ → Type 0) → Type 0
LeavesBoth old new P = LeavesPair (a_of old) (b_of old) (a_of new) (b_of new) P

-- what is true of the file that counts and its gate
abbrev pub IsWhole : DiskView → ℕ → Flight → Type 0
IsWhole counting gate Nothing =
    (gate < 2 ^ 62) × (IsTrue counting.tells → (rs : List Record) × IsSettled counting.history rs gate)
IsWhole counting gate (InFlight next) =
    (gate < 2 ^ 62)
    × (next < 2 ^ 62)
    × (IsTrue counting.tells → (rs : List Record) × (r : Record)
    × (next ≡ gate_behind gate r)
    × ((c : List ℕ) → IsImage (state_of counting.history) c → IsBeforeOrAfter (contents_of counting.history) rs r gate c))
IsWhole counting gate (ImageInFlight next) =
    (gate < 2 ^ 62)
    × (next < 2 ^ 62)
    × (IsTrue counting.tells → (rs : List Record) × IsSettled counting.history rs gate)

-- its generation is this one
abbrev pub IsNumbered : DiskView → ℕ → Type 0
IsNumbered counting number = IsTrue counting.tells → generation (contents_of counting.history) ≡ number

-- what is true of the other file
abbrev pub IsBeside : DiskView → ℕ → Flight → Type 0
IsBeside other number Nothing = IsTrue other.tells → IsSpare number other.history
IsBeside other number (InFlight next) = IsTrue other.tells → IsSpare number other.history
IsBeside other number (ImageInFlight next) = IsTrue other.tells → (image : List Record) × ReplacesFrom number image next other.history

-- no count of faults of two disks fell, and a failure comes only where one of them rose
pub record PairCause (a a' b b' : ℕ) (failed : Type 0) : Type 0 where
  pub later_a : a ≤ a'
  pub later_b : b ≤ b'
  pub rose : failed → Rose a a' ⊎ Rose b b'

-- the place of the gate after what is in flight
abbrev pub next_of : Flight → ℕ → ℕ
next_of Nothing gate = gate
next_of (InFlight next) gate = next
next_of (ImageInFlight next) gate = next

-- what the journal has once it is settled
abbrev pub HasSettled : JournalView → List Record → Record → Settled → Type 0
HasSettled v rs r Kept = Has v (rs ++ r ∷ [])
HasSettled v rs r NotKept = Has v rs

-- the list that a settled journal has
abbrev pub settled_list : List Record → Record → Settled → List Record
settled_list rs r Kept = rs ++ r ∷ []
settled_list rs r NotKept = rs
