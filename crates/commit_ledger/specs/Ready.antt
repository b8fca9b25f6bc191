-- An entry that is made ready for the list.
use Rattle.std.specs.Prelude.{Option}
use Rattle.commit_ledger.specs.declared.entry.Commit.{Commit}
use Rattle.commit_ledger.specs.declared.entry.Entry.{Entry}
use Rattle.commit_ledger.specs.Kept.{Kept, target_for}

-- the entry, and the commit that its run goes back to where it begins one or goes on with it
pub record ReadyView : Type 0 where
  pub entry : Entry
  pub target : Option Commit

abbrev pub ready_for : Kept → Entry → ReadyView
ready_for kept entry = record { entry = entry; target = target_for kept entry }
