-- What a rotation promises of a journal, `v` before the call and `v'` after it.
use Rattle.std.specs.Prelude.{◌≡◌, ◌⊎◌, ◌+◌, ◌%◌, ◌^◌, not, List, length}
use Rattle.disk_model.specs.Disk.{Call, DiskGoesOn, MadePart, contents_of}
use Rattle.record_code.specs.Record.{Record, bodies, gated}
use Rattle.record_code.specs.Reading.{first_gate}
use Rattle.commit_journal.specs.Pair.{SpellsEither, Only, generation}
use Rattle.commit_journal.specs.Journal.{JournalView, Tell, IsIdle, IsImageInFlight, Has, AwaitsImage, LeavesBoth, a_of, b_of, counted}
use Rattle.commit_journal.specs.Rotation.{rotating}

-- the calls of the file that doesn't count, in this order and no other
abbrev pub rotation_of : JournalView → List Record → List Call
rotation_of v image =
    rotating (contents_of v.other.history) ((generation (contents_of v.counting.history) + 1) % 2 ^ 64) (gated (bodies image))

-- a rotation that is Ok
pub record IsRotated (v : JournalView) (image : List Record) (v' : JournalView) : Type 0 where
  -- the journal has the records of the image, and no others
  pub has : (rs : List Record) → Tell v → Has v rs → Has v' image
  -- each pair of images spells them, and no other list
  pub only : (rs : List Record) → Tell v → Has v rs → Only (a_of v') (b_of v') image
  -- nothing is in flight
  pub idle : IsIdle v'
  -- the next gate is the one after them
  pub gate_is : v'.gate ≡ first_gate + length (bodies image)
  -- the other file counts now, and the one that did wasn't called
  pub choice : v'.b_counts ≡ not v.b_counts
  pub other_is : v'.other ≡ v.counting
  pub other_calls_are : v'.other_calls ≡ v.counting_calls
  -- what was written, and in which order
  pub made : Tell v → DiskGoesOn v.other.history (rotation_of v image) v'.counting.history
  -- five calls, and two more where the gate was open
  pub few : (v'.counting_calls ≡ counted v.other_calls 5) ⊎ (v'.counting_calls ≡ counted v.other_calls 7)

-- a rotation that met a fault
pub record IsRotateFaulted (v : JournalView) (image : List Record) (v' : JournalView) : Type 0 where
  -- the journal has what it had, and the image is in flight
  pub awaits : (rs : List Record) → Tell v → Has v rs → AwaitsImage v' rs image
  pub in_flight : IsImageInFlight v'.flight
  pub gate_is : v'.gate ≡ v.gate
  -- the same file counts, and wasn't called
  pub choice : v'.b_counts ≡ v.b_counts
  pub counting_is : v'.counting ≡ v.counting
  pub counting_calls_are : v'.counting_calls ≡ v.counting_calls
  -- the first of the calls of a rotation, and none after the one that failed
  pub part : Tell v → MadePart v.other.history (rotation_of v image) v'.other.history

-- a rotation at any moment, whatever it answers
pub record IsRotateSafe (v : JournalView) (image : List Record) (v' : JournalView) : Type 0 where
  -- a crash leaves the list from before the call, or the image's
  pub crash : (rs : List Record) → Tell v → Has v rs → LeavesBoth v v' (SpellsEither rs image)
