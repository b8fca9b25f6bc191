-- The list of commits that a journal holds, and an entry in flight.
use Rattle.std.specs.Prelude.{Option, None, Some, IfSome}
use Rattle.commit_check.specs.Accepts.{Accepts}
use Rattle.commit_ledger.specs.declared.entry.Entry.{Entry}
use Rattle.commit_ledger.specs.Kept.{Kept, append_entry}
use Rattle.commit_ledger.specs.Rules.{IsEntry}
use Rattle.commit_journal.specs.Journal.{JournalView}
use Rattle.stored_ledger.specs.declared.change.Change.TheVariants.{Entry as EntryMore}
use Rattle.stored_ledger.specs.Standing.{StandsBetween, Stands as ListStands}

-- the list stands, or it isn't known whether it stands with the entry in flight
abbrev pub HoldsWith : JournalView → Kept → Option Entry → Type 0
HoldsWith j kept None = ListStands j kept
HoldsWith j kept (Some entry) = StandsBetween EntryMore j kept (append_entry kept entry)

-- the journal holds what is kept, with that entry in flight or none
pub record Stands (j : JournalView) (kept : Kept) (flight : Option Entry) : Type 0 where
  pub holds : HoldsWith j kept flight
  pub entry : IfSome flight (IsEntry Accepts)
