-- What a backup does with a message. This project's own.
use Rattle.std.specs.Prelude.{◌≡◌, ◌≤◌, ◌<◌, ◌+◌, ◌==◌, nat_lt, ◌⊎◌, ℕ, true, List, ◌∷◌, ◌++◌, length, None, Some, Result, Ok, Err, if◌then◌else◌}
use Rattle.disk_model.specs.Pair.{FaultOnEither}
use Rattle.commit_journal.specs.Held.{GoesOn}
use Rattle.commit_journal.specs.Journal.{disks_of}
use Rattle.commit_ledger.specs.declared.entry.Entry.{Entry}
use Rattle.commit_ledger.specs.Checkpoint.{AreAlike}
use Rattle.commit_ledger.specs.Kept.{Kept, HasOneWaiting, NumberFits, RoomFor, append_entry}
use Rattle.stored_ledger.specs.Stored.{IsNext}
use Rattle.stored_ledger.specs.declared.change.Change.{Change}
use Rattle.sync_link.specs.declared.message.Ack.{Ack}
use Rattle.sync_link.specs.declared.message.Message.{Message}
use Rattle.sync_link.specs.declared.message.Message.TheVariants.{Ask, Offer, Whole}
use Rattle.sync_link.specs.declared.fault.TakeFault.{TakeFault}
use Rattle.sync_link.specs.declared.fault.TakeFault.TheVariants.{DiskFault, NoMemory}
use Rattle.stored_ledger.specs.Standing.{CanKeep}
use Rattle.sync_link.specs.Lines.{IsLeft, IsNow, Line}
use Rattle.sync_link.specs.Views.{BackupView, IsBacked, Moved}

-- what a list becomes by a message: an entry for the place behind its last one is added, a longer list takes its place
abbrev pub taken : Kept → Message → Kept
taken kept Ask = kept
taken kept (Offer place entry) = if place == kept.count then append_entry kept entry else kept
taken kept (Whole whole) = if nat_lt kept.count whole.count then whole else kept

-- an entry may be the next one of a list, or of one that is alike: its last moment may be an earlier one
pub record CanFollow (kept : Kept) (entry : Entry) : Type 0 where
  pub like : Kept
  pub alike : AreAlike kept like
  pub next : IsNext like entry

-- it can be added to a list: behind it the list can be written anew, as it is where its last moment is later than the entry's
pub record CanAdd (kept : Kept) (entry : Entry) : Type 0 where
  pub follows : CanFollow kept entry
  pub keeps : CanKeep (append_entry kept entry)

-- a list can take an entry in
pub record HasRoom (kept : Kept) (entry : Entry) : Type 0 where
  pub room : RoomFor kept entry
  pub number : NumberFits kept entry
  pub one : HasOneWaiting (append_entry kept entry)

-- a message that a list can take: an entry for the place behind its last one may stand there, a longer list can be written
abbrev pub Fits : Kept → Message → Type 0
Fits kept Ask = Unit {0}
Fits kept (Offer place entry) = place ≡ kept.count → CanAdd kept entry
Fits kept (Whole whole) = kept.count < whole.count → CanKeep whole

-- the list that a backup has, or the one that is in flight
abbrev pub IsOneOf : BackupView → Kept → Type 0
IsOneOf v kept = (kept ≡ v.kept) ⊎ ((change : Change) × (v.flight ≡ Some (record { change = change; list = kept })))

abbrev pub FitsIn : BackupView → Message → Type 0
FitsIn v message = (kept : Kept) → IsOneOf v kept → Fits kept message

-- a message of the master's list: an entry of it at its place, or what a front of it leaves
abbrev pub IsOf : Line → Message → Type 0
IsOf line Ask = Unit {0}
IsOf line (Offer place entry) =
    (front : List Entry) × (rest : List Entry) × (line.entries ≡ front ++ entry ∷ rest) × (place ≡ line.first.count + length front)
IsOf line (Whole whole) = IsLeft line.first line.entries whole

-- the disks were called, and the marks tell of it; the list has no fewer entries
pub record Goes (v v' : BackupView) : Type 0 where
  pub files : GoesOn v.files v'.files
  pub events_are : v'.events ≡ v.events
  pub no_fewer : v.kept.count ≤ v'.kept.count

-- with nothing in flight: a message left the list as it was, or its call made of the list what the message makes of it
abbrev pub Makes : Kept → BackupView → BackupView → Type 0
Makes other v v' = ((v' ≡ v) × (other ≡ v.kept)) ⊎ Moved (Some true) other v v'

-- a message was answered, a disk failed in its call, or memory was wanting before that
abbrev pub Answers : Message → Result Ack TakeFault → BackupView → BackupView → Type 0
Answers message (Ok ack) v v' = (ack.count ≡ v'.kept.count) × (v'.flight ≡ None) × Makes (taken v.kept message) v v'
Answers message (Err DiskFault) v v' = Moved None (taken v.kept message) v v'
Answers message (Err NoMemory) v v' = v' ≡ v

-- a count is behind the place that a message is for, where the list had reached that place; and not behind a whole list
abbrev pub Reaches : Message → ℕ → ℕ → Type 0
Reaches Ask before count = Unit {0}
Reaches (Offer place entry) before count = place ≤ before → place < count
Reaches (Whole whole) before count = whole.count ≤ count

-- a message was taken, with this answer: the list is what the message makes of the one that was found
pub record IsTaken (message : Message) (ack : Ack) (v v' : BackupView) : Type 0 where
  pub found : Kept
  pub one_of : IsOneOf v found
  pub is : v'.kept ≡ taken found message
  pub idle : v'.flight ≡ None
  pub told : ack.count ≡ v'.kept.count
  pub no_fewer : v.kept.count ≤ found.count
  pub reaches : Reaches message v.kept.count ack.count

-- memory was wanting: the list is the one that was found, with nothing in flight, or all is as it was
pub record IsWanting (v v' : BackupView) : Type 0 where
  pub one_of : IsOneOf v v'.kept
  pub settled : (v' ≡ v) ⊎ (v'.flight ≡ None)

-- what is told of a message
abbrev pub TellsOf : Message → Result Ack TakeFault → BackupView → BackupView → Type 0
TellsOf message (Ok ack) v v' = IsTaken message ack v v'
TellsOf message (Err DiskFault) v v' = FaultOnEither (disks_of v.files) (disks_of v'.files)
TellsOf message (Err NoMemory) v v' = IsWanting v v'

-- a backup was given a message: what is told of it; whatever came of it, a list that was a front of the master's is one still, at
-- every moment of the call
pub record Takes (message : Message) (told : Result Ack TakeFault) (v v' : BackupView) : Type 0 where
  pub goes : Goes v v'
  pub tells : TellsOf message told v v'
  pub backed : (line : Line) → IsNow line v.events → IsOf line message → IsBacked line v → IsBacked line v'
