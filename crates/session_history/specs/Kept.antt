-- Which lists of commits were kept in a run. This project's own.
use Rattle.std.specs.Prelude.{◌≡◌, ℕ, List, take}
use Rattle.commit_ledger.specs.Kept.{Kept}
use Rattle.config_core.specs.State.{State}
use Rattle.session_history.specs.declared.history.Happened.{Happened}
use Rattle.session_history.specs.Events.{Leads}

-- at some moment of the run that was the list: so many of the first events lead to a state that keeps it
pub record WasKept (s : State) (events : List Happened) (kept : Kept) : Type 0 where
  pub count : ℕ
  pub state : State
  pub leads : Leads s (take count events) state
  pub is : kept ≡ state.kept
