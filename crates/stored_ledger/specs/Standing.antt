-- The list of commits that a journal holds, and what is in flight of a change of it. This project's own.
use Rattle.std.specs.Prelude.{◌⊎◌, List, [], ◌∷◌, ◌++◌, None, Some}
use Rattle.record_code.specs.Record.{Record}
use Rattle.commit_check.specs.Accepts.{Accepts}
use Rattle.commit_ledger.specs.Checkpoint.{Agrees}
use Rattle.commit_ledger.specs.Kept.{Kept}
use Rattle.commit_ledger.specs.Reading.{ReadsAs}
use Rattle.commit_journal.specs.Held.{Holds, HoldsImage}
use Rattle.commit_journal.specs.Journal.{JournalView}
use Rattle.stored_ledger.specs.declared.change.Change.{Change}
use Rattle.stored_ledger.specs.declared.change.Change.TheVariants.{Entry, Whole}

-- these records are read as a list that agrees with this one
pub record AreOf (kept : Kept) (records : List Record) : Type 0 where
  pub one : Kept
  pub reads : ReadsAs Accepts records one
  pub agrees : Agrees one kept

-- a list that a journal can hold: there are records of it
abbrev pub CanKeep : Kept → Type 0
CanKeep kept = (records : List Record) × AreOf kept records

-- the journal holds this list, and nothing is in flight
pub record Stands (j : JournalView) (kept : Kept) : Type 0 where
  pub records : List Record
  pub are : AreOf kept records
  pub holds : Holds j records None

-- what is in flight of a change that would make the other list of the one that is kept. Of an entry it is the record with which the
-- records are read as the other list, or an image of the kept one, which the record was to follow; of a whole list it is its image
abbrev pub HoldsChange : Change → JournalView → Kept → Kept → List Record → Type 0
HoldsChange Entry j kept other records =
    ((r : Record) × ReadsAs Accepts (records ++ r ∷ []) other × Holds j records (Some r))
    ⊎ ((image : List Record) × AreOf kept image × HoldsImage j records image)
HoldsChange Whole j kept other records = (image : List Record) × AreOf other image × HoldsImage j records image

-- the journal held this list, and it isn't known whether it holds the other one, which that change would make of it
pub record StandsBetween (change : Change) (j : JournalView) (kept other : Kept) : Type 0 where
  pub records : List Record
  pub are : AreOf kept records
  pub holds : HoldsChange change j kept other records
