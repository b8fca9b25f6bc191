-- What is always true of a database: its events lead to its state, and its journal holds what the state keeps.
use Rattle.std.specs.Prelude.{◌≡◌, List, length, None}
use Rattle.record_code.specs.Record.{Record}
use Rattle.commit_check.specs.Accepts.{Accepts}
use Rattle.commit_ledger.specs.Kept.{Kept}
use Rattle.commit_ledger.specs.Reading.{ReadsAs}
use Rattle.commit_journal.specs.Journal.{JournalView, Tell, a_of, b_of}
use Rattle.config_core.specs.Soundness.{IsSoundKept, IsSoundState}
use Rattle.session_history.specs.Events.{Leads}
use Rattle.config_db.specs.View.{DatabaseView, opened}
use Rattle.config_db.specs.Numbers.{AreRising, calls_of, none_called}
use Rattle.config_db.specs.Crash.{IsSafeWhile, last_calls}
use Rattle.commit_journal.specs.Held.{Holds}
use Rattle.config_db.specs.Standing.{Stands}
use Rattle.config_db.specs.Writing.{entry_in}
use Rattle.config_db.specs.Shown.{Shows}

pub record IsBook (v : DatabaseView) : Type 0 where
  -- it began over a list whose maps are accepted
  pub began : IsSoundKept v.opening
  -- each event fits the state before it, and all lead to the state
  pub leads : Leads (opened v) v.events v.state
  -- the numbers of calls don't fall from event to event, and none passes what the journal reports
  pub rising : AreRising none_called v.events (calls_of v.journal)
  -- with nothing in flight the last event is this very moment
  pub at_rest : v.state.flight ≡ None → last_calls none_called v.events ≡ calls_of v.journal
  -- a crash at any moment so far leaves what the state of that moment says
  pub safe : Tell v.journal → IsSafeWhile (opened v) v.events (calls_of v.journal) (a_of v.journal) (b_of v.journal)
  pub sound : IsSoundState v.state
  -- there is a caller for each user
  pub callers : length v.state.callers ≡ length v.users
  pub stands : Stands v.journal v.state.kept (entry_in v.state.flight)
  -- readers are shown what is kept, and the view after the entry in flight waits
  pub shows : Shows (opened v) v.events v.state v.shown

-- a journal that was just opened holds the list of this ledger
pub record IsOpening (j : JournalView) (kept : Kept) : Type 0 where
  pub calls : calls_of j ≡ none_called
  -- its maps are accepted, commits are numbered from 1, an unconfirmed run has room for its revert, and a scheduled commit for the one
  -- that it becomes
  pub sound : IsSoundKept kept
  pub records : List Record
  pub reads : ReadsAs Accepts records kept
  pub holds : Holds j records None
