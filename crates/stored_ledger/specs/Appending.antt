-- How a record is written after those of a journal.
use Rattle.std.specs.Prelude.{◌≡◌, ◌+◌, List, [], ◌∷◌, ◌++◌, length, Option, None, Some}
use Rattle.disk_model.specs.Pair.{FaultOnEither}
use Rattle.disk_model.specs.declared.disk.DiskDone.{DiskDone}
use Rattle.disk_model.specs.declared.disk.DiskDone.TheVariants.{Done, Failed}
use Rattle.record_code.specs.Record.{Record, bodies}
use Rattle.commit_journal.specs.Held.{CountsOn, GoesOn, Holds}
use Rattle.commit_journal.specs.Journal.{JournalView, LeavesBoth, Tell, disks_of}
use Rattle.commit_journal.specs.Pair.{SpellsEither}

-- the records after an append, and the record in flight
abbrev pub records_written : List Record → Record → DiskDone → List Record
records_written rs r Done = rs ++ r ∷ []
records_written rs r Failed = rs

abbrev pub flight_written : Record → DiskDone → Option Record
flight_written r Done = None
flight_written r Failed = Some r

-- a record was appended, or a disk failed and it is in flight
pub record IsAppend (body : List Record) (done : DiskDone) (j j' : JournalView) : Type 0 where
  pub holds : (rs : List Record) (r : Record) → body ≡ r ∷ [] → Holds j rs None → Holds j' (records_written rs r done) (flight_written r done)
  pub goes : GoesOn j j'
  pub cause : done ≡ Failed → FaultOnEither (disks_of j) (disks_of j')
  pub counts : CountsOn j j'
  -- a crash at any moment of the call leaves the records from before it, with this one or without
  pub crash : (rs : List Record) (r : Record) → body ≡ r ∷ [] → Holds j rs None → Tell j → LeavesBoth j j' (SpellsEither rs (rs ++ r ∷ []))
  -- the same file counts, after the record where that is done, and the other one isn't called
  pub choice : j'.b_counts ≡ j.b_counts
  pub other_is : j'.other ≡ j.other
  pub gate_is : done ≡ Done → j'.gate ≡ j.gate + length (bodies body)
