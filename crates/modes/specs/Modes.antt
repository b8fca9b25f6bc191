-- What results from a mode that serves no session: its status, what it writes, and the disks. This project's own.
use Rattle.std.specs.Prelude.{◌≡◌, ◌⊎◌, ℕ, List}
use Rattle.cfg_base.specs.Counts.{Rose}
use Rattle.io_edge.specs.Ends.{SinkView, held_after}
use Rattle.io_edge.specs.Wrote.{WrotePart}
use Rattle.disk_model.specs.Pair.{DiskPair}
use Rattle.stored_ledger.specs.declared.why.StartWhy.{StartWhy}
use Rattle.stored_ledger.specs.declared.why.StartWhy.TheVariants.{Exists, NotAJournal, Damaged, BadRecord, DiskFault, NoMemory}
use Rattle.commit_ledger.specs.Kept.{Kept}
use Rattle.modes.specs.declared.did.StartWhy0.{StartWhy0}
use Rattle.modes.specs.declared.did.StartWhy0.TheVariants.{None as NoWhy, Why}
use Rattle.modes.specs.Texts.{check_text, init_text}
use Rattle.stored_ledger.specs.Starting.{IsFound, IsMade, IsNotFound, IsNotMade}

-- the status of a refused start
abbrev pub start_status : StartWhy → ℕ
start_status NotAJournal = 2
start_status (Damaged offset kept computed) = 3
start_status DiskFault = 4
start_status Exists = 8
start_status NoMemory = 9
start_status (BadRecord offset) = 10

-- a part of the text, from its beginning, was written, and the sink's count of faults rose
pub record IsTextCut (text : List ℕ) (old new : SinkView) (status : ℕ) : Type 0 where
  pub status_is : status ≡ 6
  pub rose : Rose old.faults new.faults
  pub part : WrotePart text old.held new.held

-- the whole text was written after what the sink held, with status 0; or it was cut
abbrev pub IsTold : List ℕ → SinkView → SinkView → ℕ → Type 0
IsTold text old new status = ((status ≡ 0) × (new.held ≡ held_after old.held text)) ⊎ IsTextCut text old new status

-- nothing was written, for a cause that has a status of its own; `Untouched` says that the sink wasn't called
pub record IsRefusedFor (Untouched : Type 0) (cause : StartWhy) (status : ℕ) (why : StartWhy0) : Type 0 where
  pub same : Untouched
  pub told : why ≡ Why cause
  pub status_is : status ≡ start_status cause

-- mode init: no list could be made; or one was, and that is reported
abbrev pub IsInit : Type 0 → SinkView → SinkView → DiskPair → DiskPair → ℕ → StartWhy0 → Type 0
IsInit Untouched old new before after status why =
    ((cause : StartWhy) × IsRefusedFor Untouched cause status why × IsNotMade before cause after)
    ⊎ ((why ≡ NoWhy) × IsTold init_text old new status × IsMade before after)

-- mode check: no list was found; or one was, and is reported, unless memory ran out for the text
abbrev pub IsCheck : Type 0 → SinkView → SinkView → DiskPair → DiskPair → ℕ → StartWhy0 → Type 0
IsCheck Untouched old new before after status why =
    ((cause : StartWhy) × IsRefusedFor Untouched cause status why × IsNotFound before cause after)
    ⊎ ((why ≡ NoWhy) × (kept : Kept) × IsFound before after kept
    × (IsTold (check_text kept) old new status ⊎ ((status ≡ 9) × Untouched)))
