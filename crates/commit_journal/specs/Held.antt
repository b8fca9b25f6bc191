-- What a journal holds, and how its numbers of calls and its disks go on.
use Rattle.std.specs.Prelude.{◌≡◌, ◌≤◌, ◌-◌, ◌+◌, ℕ, List, length, Option, None, Some}
use Rattle.cfg_base.specs.declared.calls.Calls.{Calls}
use Rattle.disk_model.specs.Disk.{Call, DiskGoesOn, History}
use Rattle.record_code.specs.Record.{Record}
use Rattle.commit_journal.specs.Journal.{JournalView, Tell, IsIdle, IsInFlight, IsImageInFlight, Has, Awaits, AwaitsImage, a_of, b_of, calls_a, calls_b, disk_a, disk_b}
use Rattle.commit_journal.specs.Spans.{AreAtMost, IsReckoned}

-- the journal has these records, and nothing is in flight or this record is; what the files hold is known where both disks tell it
abbrev pub Holds : JournalView → List Record → Option Record → Type 0
Holds j rs None = IsIdle j × (Tell j → Has j rs)
Holds j rs (Some r) = IsInFlight j.flight × (Tell j → Awaits j rs r)

-- the journal has these records, and of those of an image in the other file it isn't known whether they replace them
abbrev pub HoldsImage : JournalView → List Record → List Record → Type 0
HoldsImage j rs image = IsImageInFlight j.flight × (Tell j → AwaitsImage j rs image)

-- the numbers that the journal reports
abbrev pub calls_of : JournalView → Calls
calls_of j = record { a = calls_a j; b = calls_b j }

-- calls of a journal: no number and no count of faults falls, each disk tells what it holds where it did, and the limit stays
pub record GoesOn (j j' : JournalView) : Type 0 where
  pub calls : AreAtMost (calls_of j) (calls_of j')
  pub tells_a : (disk_a j').tells ≡ (disk_a j).tells
  pub tells_b : (disk_b j').tells ≡ (disk_b j).tells
  pub faults_a : (disk_a j).faults ≤ (disk_a j').faults
  pub faults_b : (disk_b j).faults ≤ (disk_b j').faults
  pub limit_is : j'.limit ≡ j.limit

-- a number went on as the disk's own count did
abbrev pub CountsAgree : History → History → ℕ → ℕ → Type 0
CountsAgree h h' m m' = IsReckoned h' → m ≤ length h.calls → length h.calls ≤ length h'.calls → m' ≡ m + (length h'.calls - length h.calls)

-- the numbers that a journal reports went on so, where its disks tell what they hold
pub record CountsOn (j j' : JournalView) : Type 0 where
  pub told_a : Tell j → CountsAgree (a_of j) (a_of j') (calls_a j) (calls_a j')
  pub told_b : Tell j → CountsAgree (b_of j) (b_of j') (calls_b j) (calls_b j')

-- a disk made more calls, and the number that is reported of them went on with them
abbrev pub CallsOn : History → History → ℕ → ℕ → Type 0
CallsOn h h' m m' = (more : List Call) × DiskGoesOn h more h' × (IsReckoned h' → m ≤ length h.calls → m' ≡ m + length more)

-- the calls of a journal's disks went on so
pub record BothCalled (j j' : JournalView) : Type 0 where
  pub a : CallsOn (disk_a j).history (disk_a j').history (calls_a j) (calls_a j')
  pub b : CallsOn (disk_b j).history (disk_b j').history (calls_b j) (calls_b j')
