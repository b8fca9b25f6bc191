-- Two disks that hold a list of commits, as the records of a journal. This project's own.
use Rattle.std.specs.Prelude.{◌≤◌, ◌⊎◌, IfSome, IsSome, ℕ, List, [], ◌∷◌, Option, None, Some}
use Rattle.disk_model.specs.Disk.{History, IsImage, state_of}
use Rattle.record_code.specs.Record.{Record}
use Rattle.commit_journal.specs.Pair.{PairSpells}
use Rattle.commit_journal.specs.Journal.{JournalView, Has, IsIdle, Tell}
use Rattle.commit_check.specs.Accepts.{Accepts}
use Rattle.commit_ledger.specs.declared.entry.Entry.{Entry}
use Rattle.commit_ledger.specs.declared.entry.Entry.TheVariants.{Commit as CommitOf}
use Rattle.commit_ledger.specs.declared.limit.TheConstants.{MAX_ENTRIES}
use Rattle.commit_ledger.specs.Checkpoint.{Agrees}
use Rattle.commit_ledger.specs.Kept.{Kept, KeepsMaps, append_entry, factory_commit}
use Rattle.commit_ledger.specs.Payload.{entry_record}
use Rattle.commit_ledger.specs.Reading.{ReadsAs}
use Rattle.commit_ledger.specs.Rules.{Follows, IsEntry, IsWaiting}

-- the record with which a list begins: that of the factory commit
abbrev pub factory_records : List Record
factory_records = entry_record (CommitOf factory_commit) ∷ []

-- two files spell what is kept of a list: they spell records, which are read as it
abbrev pub SpellsKept : List ℕ → List ℕ → Kept → Type 0
SpellsKept a b kept = (rs : List Record) × PairSpells a b rs × ReadsAs Accepts rs kept

-- each pair of images at this moment spells this list
abbrev pub OnlyKept : History → History → Kept → Type 0
OnlyKept a b kept = (c d : List ℕ) → IsImage (state_of a) c → IsImage (state_of b) d → SpellsKept c d kept

-- two files spell a list that agrees with this one: a list that was written anew has the moment of its last commit
pub record SpellsAgreeing (a b : List ℕ) (kept : Kept) : Type 0 where
  pub one : Kept
  pub spells : SpellsKept a b one
  pub agrees : Agrees one kept

-- or, with an entry in flight, the list with it
abbrev pub SpellsWith : List ℕ → List ℕ → Kept → Option Entry → Type 0
SpellsWith a b kept None = SpellsAgreeing a b kept
SpellsWith a b kept (Some entry) = SpellsAgreeing a b kept ⊎ SpellsKept a b (append_entry kept entry)

-- an entry is one that may be the next of a list
abbrev pub IsNext : Kept → Entry → Type 0
IsNext kept entry = IsEntry Accepts entry × Follows kept entry

-- two disks hold a list of commits: each pair of images at this moment spells it. Of an entry in flight, which may be its next one, it
-- isn't known whether they hold it
pub record HoldsKept (a b : History) (kept : Kept) (flight : Option Entry) : Type 0 where
  pub each : (c d : List ℕ) → IsImage (state_of a) c → IsImage (state_of b) d → SpellsWith c d kept flight
  pub next : IfSome flight (IsNext kept)

-- a journal in which nothing is in flight, and the list of commits that its records are read as
pub record IsStored (v : JournalView) (kept : Kept) : Type 0 where
  pub idle : IsIdle v
  -- the records are the journal's, where its disks tell what they hold
  pub records : List Record
  pub has : Tell v → Has v records
  pub reads : ReadsAs Accepts records kept
  -- each map that the list keeps is accepted; commits are numbered from 1; an unconfirmed run has room for the entry of its revert
  pub maps : KeepsMaps Accepts kept
  pub number : 1 ≤ kept.last.number
  pub room : IsSome kept.pending → kept.count ≤ MAX_ENTRIES
  -- a scheduled commit waits as the last entry
  pub waits : IfSome kept.scheduled (IsWaiting Accepts kept)
