-- What two disks hold once a list of commits was made or opened on them, and why it may be refused. This project's own.
use Rattle.std.specs.Prelude.{◌≡◌, ◌≢◌, Bool, true, IsTrue, ℕ, List}
use Rattle.disk_model.specs.Disk.{Sync, Called, DiskGoesOn, MaySync, contents_of}
use Rattle.disk_model.specs.Pair.{BothTell, DiskPair}
use Rattle.record_code.specs.declared.payloads.Placed.{Placed}
use Rattle.record_code.specs.Listed.{records_of, PlacedFrom}
use Rattle.record_code.specs.Reading.{first_gate}
use Rattle.commit_journal.specs.declared.why.AttachWhy.TheVariants.{NotAJournal as NoPair, Damaged as DamagedPair}
use Rattle.commit_journal.specs.declared.why.CreateWhy.{CreateWhy}
use Rattle.commit_journal.specs.declared.why.CreateWhy.TheVariants.{Exists as IsThereAlready, DiskFault as MakingFault, NoMemory as MakingNoMemory}
use Rattle.stored_ledger.specs.declared.why.StartWhy.{StartWhy}
use Rattle.stored_ledger.specs.declared.why.StartWhy.TheVariants.{Exists, NotAJournal, Damaged, BadRecord, DiskFault, NoMemory}
use Rattle.commit_journal.specs.Attach.{ExplainsPair, IsThere}
use Rattle.commit_journal.specs.Journal.{PairCause}
use Rattle.commit_journal.specs.Opening.{IsNotCreated, making_a, making_b}
use Rattle.commit_journal.specs.Pair.{PairSpells}
use Rattle.commit_check.specs.Accepts.{Accepts}
use Rattle.commit_ledger.specs.Kept.{Kept, factory}
use Rattle.commit_ledger.specs.Reading.{IsUnread}
use Rattle.stored_ledger.specs.Stored.{OnlyKept, SpellsKept, factory_records}

-- the disks on which a list was made: no journal was there, and now each pair of images spells the factory commit alone
pub record IsMade (before after : DiskPair) : Type 0 where
  pub none_there : BothTell before → IsThere (contents_of before.a.history) (contents_of before.b.history) → ⊥
  pub only : BothTell before → OnlyKept after.a.history after.b.history factory
  -- what was written where, and in which order
  pub made_a : IsTrue before.a.tells → DiskGoesOn before.a.history (making_a factory_records) after.a.history
  pub made_b : IsTrue before.b.tells → DiskGoesOn before.b.history making_b after.b.history

-- why a journal couldn't be made, as it is reported
abbrev pub why_of_making : CreateWhy → StartWhy
why_of_making IsThereAlready = Exists
why_of_making MakingFault = DiskFault
why_of_making MakingNoMemory = NoMemory

-- the disks on which no list could be made, and why not: for what the journal was refused
pub record IsNotMade (before : DiskPair) (why : StartWhy) (after : DiskPair) : Type 0 where
  pub cause : CreateWhy
  pub told : why ≡ why_of_making cause
  pub disks : IsNotCreated before.a before.b factory_records cause after.a after.b

-- the contents of two disks are as they were
abbrev pub HaveSameContents : DiskPair → DiskPair → Type 0
HaveSameContents before after =
    (contents_of after.a.history ≡ contents_of before.a.history) × (contents_of after.b.history ≡ contents_of before.b.history)

-- the disks on which a list was found: they spelled it, and were not written
pub record IsFound (before after : DiskPair) (kept : Kept) : Type 0 where
  pub spelled : BothTell before → SpellsKept (contents_of before.a.history) (contents_of before.b.history) kept
  -- and each pair of images spells it now
  pub only : BothTell before → OnlyKept after.a.history after.b.history kept
  -- one sync of each disk, and no write
  pub synced_a : IsTrue before.a.tells → Called before.a.history (Sync true) after.a.history
  pub synced_b : IsTrue before.b.tells → Called before.b.history (Sync true) after.b.history
  pub contents : BothTell before → HaveSameContents before after

-- the files spell records of which the first that breaks a rule is at that offset, or none at all
pub record IsBadList (a b : List ℕ) (offset : ℕ) : Type 0 where
  pub placed : List Placed
  pub spelled : PairSpells a b (records_of placed)
  pub last : ℕ
  pub places : PlacedFrom first_gate placed last
  pub unread : IsUnread Accepts placed offset

-- why two files don't spell a list of commits
abbrev pub Explains : List ℕ → List ℕ → StartWhy → Type 0
Explains a b Exists = ⊥
Explains a b NotAJournal = ExplainsPair a b NoPair
Explains a b (Damaged offset kept computed) = ExplainsPair a b (DamagedPair offset kept computed)
Explains a b (BadRecord offset) = IsBadList a b offset
Explains a b DiskFault = Unit {0}
Explains a b NoMemory = Unit {0}

-- a refusal that the bytes alone decide
abbrev pub IsByBytes : StartWhy → Type 0
IsByBytes Exists = ⊥
IsByBytes NotAJournal = Unit {0}
IsByBytes (Damaged offset kept computed) = Unit {0}
IsByBytes (BadRecord offset) = Unit {0}
IsByBytes DiskFault = ⊥
IsByBytes NoMemory = ⊥

-- the disks on which no list could be opened, and why not: they were not written
pub record IsNotFound (before : DiskPair) (why : StartWhy) (after : DiskPair) : Type 0 where
  pub explained : BothTell before → Explains (contents_of before.a.history) (contents_of before.b.history) why
  -- a journal that is there is no cause
  pub not_there : why ≢ Exists
  -- one sync of each disk at most, and no write
  pub synced_a : IsTrue before.a.tells → MaySync before.a.history after.a.history
  pub synced_b : IsTrue before.b.tells → MaySync before.b.history after.b.history
  pub contents : BothTell before → HaveSameContents before after
  pub tells_a : after.a.tells ≡ before.a.tells
  pub tells_b : after.b.tells ≡ before.b.tells
  -- a disk's fault comes only where its count rose
  pub cause : PairCause before.a.faults after.a.faults before.b.faults after.b.faults (why ≡ DiskFault)
