-- How a list on two disks becomes another one, and what a crash at any moment of that leaves. This project's own.
use Rattle.std.specs.Prelude.{◌≡◌, ◌≤◌, ◌+◌, ◌⊎◌, ℕ, Bool, true, false, List, length, Option, None, Some}
use Rattle.disk_model.specs.Disk.{IsImage, state_of}
use Rattle.disk_model.specs.Pair.{FaultOnEither}
use Rattle.disk_model.specs.declared.disk.DiskDone.{DiskDone}
use Rattle.disk_model.specs.declared.disk.DiskDone.TheVariants.{Done, Failed}
use Rattle.record_code.specs.Reading.{first_gate}
use Rattle.record_code.specs.Record.{bodies, body}
use Rattle.commit_ledger.specs.declared.entry.Entry.{Entry}
use Rattle.commit_ledger.specs.Checkpoint.{checkpoint}
use Rattle.commit_ledger.specs.Kept.{Kept, append_entry}
use Rattle.commit_ledger.specs.Payload.{entry_record}
use Rattle.commit_journal.specs.Held.{BothCalled, GoesOn}
use Rattle.commit_journal.specs.Journal.{JournalView, LeavesBoth, Tell, a_of, b_of, disks_of}
use Rattle.commit_journal.specs.Pair.{WasLeft}
use Rattle.stored_ledger.specs.declared.change.Change.{Change}
use Rattle.stored_ledger.specs.declared.change.Change.TheVariants.{Entry as EntryMore, Whole}
use Rattle.stored_ledger.specs.Standing.{Stands, StandsBetween}
use Rattle.stored_ledger.specs.Stored.{SpellsAgreeing, SpellsKept}

-- what is known after a call that was to make another list: it is made, or a disk failed
abbrev pub answer_of : DiskDone → Option Bool
answer_of Done = Some true
answer_of Failed = None

-- two files spell what a change makes: with one more entry that very list, and of a whole list one that agrees with it
abbrev pub SpellsMade : Change → Kept → List ℕ → List ℕ → Type 0
SpellsMade EntryMore other a b = SpellsKept a b other
SpellsMade Whole other a b = SpellsAgreeing a b other

-- two files spell a list that agrees with the one that is kept, or what the change makes
abbrev pub SpellsOne : Change → Kept → Kept → List ℕ → List ℕ → Type 0
SpellsOne change kept other a b = SpellsAgreeing a b kept ⊎ SpellsMade change other a b

-- what two files spell after a call with this answer: whether the other list is made, or none where a disk failed
abbrev pub SpellsBy : Change → Option Bool → Kept → Kept → List ℕ → List ℕ → Type 0
SpellsBy change None kept other a b = SpellsOne change kept other a b
SpellsBy change (Some true) kept other a b = SpellsAgreeing a b other
SpellsBy change (Some false) kept other a b = SpellsAgreeing a b kept

-- each pair of images of this moment, one of each disk, has P
abbrev pub EachNow : JournalView → (List ℕ → List ℕ → Type 0) → Type 0
EachNow j P = (c d : List ℕ) → IsImage (state_of (a_of j)) c → IsImage (state_of (b_of j)) d → P c d

-- which list the journal holds after it
abbrev pub HoldsBy : Change → Option Bool → JournalView → Kept → Kept → Type 0
HoldsBy change None j kept other = StandsBetween change j kept other
HoldsBy change (Some true) j kept other = Stands j other
HoldsBy change (Some false) j kept other = Stands j kept

-- a call that was to make the other list of the one that is kept, with this answer
pub record MakesList (change : Change) (answer : Option Bool) (kept other : Kept) (j j' : JournalView) : Type 0 where
  -- the journal holds the list that is reported, or a disk failed and it isn't known which
  pub stands : HoldsBy change answer j' kept other
  -- no number and no count of faults falls, each disk tells what it holds where it did, and the limit stays
  pub goes : GoesOn j j'
  -- a disk failed only where its count of faults rose in this call
  pub cause : answer ≡ None → FaultOnEither (disks_of j) (disks_of j')
  -- the disks made the calls that are reported
  pub called : Tell j → BothCalled j j'
  -- a crash at any moment of the call leaves one of the two lists
  pub crash : Tell j → LeavesBoth j j' (SpellsOne change kept other)
  -- and one right after it the list that is reported
  pub now : Tell j → EachNow j' (SpellsBy change answer kept other)

-- the used part of the file keeps to the limit, wherever a checkpoint of the list and the record of the entry fit in it together
abbrev pub KeepsLimit : Kept → Entry → JournalView → Type 0
KeepsLimit kept entry j =
    first_gate + 1 + length (bodies (checkpoint kept)) + length (body 0 (entry_record entry)) ≤ j.limit → j.gate + 1 ≤ j.limit

-- an entry was added to the list, or a disk failed
pub record AddsEntry (kept : Kept) (entry : Entry) (done : DiskDone) (j j' : JournalView) : Type 0 where
  pub list : MakesList EntryMore (answer_of done) kept (append_entry kept entry) j j'
  pub trims : done ≡ Done → KeepsLimit kept entry j'
  -- where the file has room for the record, the other file isn't called
  pub stays : j.gate + 1 + length (body 0 (entry_record entry)) ≤ j.limit → (j'.b_counts ≡ j.b_counts) × (j'.other ≡ j.other)

-- a whole list was written in the place of the one that the journal holds, or a disk failed
pub record ReplacesList (whole : Kept) (done : DiskDone) (j j' : JournalView) : Type 0 where
  pub list : (kept : Kept) → Stands j kept → MakesList Whole (answer_of done) kept whole j j'
  -- the file that counts has a checkpoint of it then, and nothing more
  pub gate_is : done ≡ Done → j'.gate ≡ first_gate + length (bodies (checkpoint whole))

-- it was found out whether what is in flight of a change is made, or a disk failed and it is in flight still
pub record SettlesList (change : Change) (answer : Option Bool) (j j' : JournalView) : Type 0 where
  pub list : (kept other : Kept) → StandsBetween change j kept other → MakesList change answer kept other j j'
  -- whatever is in flight: no count falls, a disk failed only where its count rose, and the calls are reported
  pub goes : GoesOn j j'
  pub cause : answer ≡ None → FaultOnEither (disks_of j) (disks_of j')
  pub called : Tell j → BothCalled j j'
  -- a crash leaves what one right before the call might have left
  pub crash : Tell j → LeavesBoth j j' (WasLeft (a_of j) (b_of j))
