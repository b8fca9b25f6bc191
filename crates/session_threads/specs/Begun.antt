-- How a database began, which names no book. This project's own.
use Rattle.std.specs.Prelude.{ℕ, List, []}
use Rattle.active_snapshot.specs.States.{first_written}
use Rattle.commit_journal.specs.Journal.{JournalView}
use Rattle.commit_ledger.specs.Kept.{Kept}
use Rattle.config_core.specs.State.{opening_of}
use Rattle.config_db.specs.View.{DatabaseView}

-- a database with that journal, over that list and for those users, in which nothing happened yet; its readers are handed out
abbrev pub start_with : JournalView → Kept → List (List ℕ) → DatabaseView
start_with journal opening users = record {
  journal = journal;
  opening = opening;
  users = users;
  events = [];
  state = opening_of opening users;
  shown = first_written opening;
  readers = [];
}

-- how a database began, of one in which nothing happened yet
abbrev pub start_of : DatabaseView → DatabaseView
start_of v = start_with v.journal v.opening v.users
