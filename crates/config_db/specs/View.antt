-- What a contract sees of the database.
use Rattle.std.specs.Prelude.{◌≡◌, ℕ, List}
use Rattle.commit_journal.specs.Journal.{JournalView}
use Rattle.commit_ledger.specs.Kept.{Kept}
use Rattle.config_core.specs.State.{State, opening_of}
use Rattle.session_history.specs.declared.history.Happened.{Happened}
use Rattle.active_snapshot.specs.States.{ReaderView, WriterView}

pub record DatabaseView : Type 0 where
  pub journal : JournalView
  -- the list over which it began, and the users of callers 1, 2 and so on
  pub opening : Kept
  pub users : List (List ℕ)
  -- what happened, and the state that it led to
  pub events : List Happened
  pub state : State
  -- what readers are shown, and the readers that nobody has taken yet
  pub shown : WriterView
  pub readers : List ReaderView

-- the state in which it began
abbrev pub opened : DatabaseView → State
opened v = opening_of v.opening v.users

-- a database's journal, the list over which it began, and its users
pub record AreParts (v : DatabaseView) (held : JournalView) (list : Kept) (names : List (List ℕ)) : Type 0 where
  pub journal : held ≡ v.journal
  pub opening : list ≡ v.opening
  pub users : names ≡ v.users

-- the list and the users over which a database began are what they were
pub record IsSameRun (v v' : DatabaseView) : Type 0 where
  pub opening : v'.opening ≡ v.opening
  pub users : v'.users ≡ v.users
