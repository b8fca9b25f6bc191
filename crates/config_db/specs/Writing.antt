-- How the entry that an event makes is written, and what is kept and in flight after it.
use Rattle.std.specs.Prelude.{◌≡◌, Option, None, Some}
use Rattle.disk_model.specs.declared.disk.DiskDone.{DiskDone}
use Rattle.disk_model.specs.declared.disk.DiskDone.TheVariants.{Done as DiskIsDone, Failed}
use Rattle.commit_ledger.specs.declared.entry.Entry.{Entry}
use Rattle.commit_ledger.specs.Kept.{Kept, append_entry}
use Rattle.commit_journal.specs.Journal.{JournalView}
use Rattle.config_core.specs.declared.event.Outcome.{Outcome}
use Rattle.config_core.specs.declared.event.Outcome.TheVariants.{Done, Fault}
use Rattle.config_core.specs.State.{Made}
use Rattle.stored_ledger.specs.Growing.{AddsEntry}
use Rattle.stored_ledger.specs.Stored.{IsNext}

-- what is kept after an event that makes this entry or none, by its outcome
abbrev pub kept_after : Kept → Option Made → Outcome → Kept
kept_after kept None outcome = kept
kept_after kept (Some made) Done = append_entry kept made.entry
kept_after kept (Some made) Fault = kept

-- and what is in flight
abbrev pub flight_after : Option Made → Outcome → Option Made
flight_after None outcome = None
flight_after (Some made) Done = None
flight_after (Some made) Fault = Some made

-- the entry that is in flight
abbrev pub entry_in : Option Made → Option Entry
entry_in None = None
entry_in (Some made) = Some made.entry

-- how the disks ended
abbrev pub done_by : Outcome → DiskDone
done_by Done = DiskIsDone
done_by Fault = Failed

-- an entry was written after what is kept, with this outcome
pub record IsEntryWritten (kept : Kept) (entry : Entry) (outcome : Outcome) (j j' : JournalView) : Type 0 where
  -- it is one that may be the next
  pub next : IsNext kept entry
  pub adds : AddsEntry kept entry (done_by outcome) j j'

-- the entry that an event makes was written, with this outcome; an event that makes none is done, and nothing is written
abbrev pub IsWritten : Kept → Option Made → Outcome → JournalView → JournalView → Type 0
IsWritten kept None outcome j j' = (outcome ≡ Done) × (j' ≡ j)
IsWritten kept (Some made) outcome j j' = IsEntryWritten kept made.entry outcome j j'
