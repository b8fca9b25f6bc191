-- What results from the sessions of a run, and its status. This project's own.
use Rattle.std.specs.Prelude.{◌≡◌, ◌≢◌, ◌⊎◌, ℕ, Bool, List, [], ◌∷◌, map}
use Rattle.std.specs.List.{AllByRecursion}
use Rattle.config_core.specs.State.{State}
use Rattle.session_history.specs.declared.history.Happened.{Happened}
use Rattle.session_shell.specs.declared.end.End.{End}
use Rattle.session_shell.specs.declared.turn.How.{How}
use Rattle.session_shell.specs.declared.turn.How.TheVariants.{Clean, SourceFault, SinkFault, InputFull, NoMemory}
use Rattle.session_shell.specs.declared.turn.Turn.{Turn}
use Rattle.session_shell.specs.Transcript.{EndView}
use Rattle.session_threads.specs.Access.{asks_of}
use Rattle.session_threads.specs.History.{HasSession}

-- the users of ends, in order
abbrev pub users_of_ends : {S K C : Type 0} → List (End S K C) → List (List ℕ)
users_of_ends ends = map (λ end. end.user) ends

-- the status of a session that ended so
abbrev pub status_of : How → ℕ
status_of Clean = 0
status_of SourceFault = 5
status_of SinkFault = 6
status_of InputFull = 7
status_of NoMemory = 9

-- the status of sessions that ended so: that of the first one that didn't end clean
abbrev pub status_of_all : List How → ℕ
status_of_all [] = 0
status_of_all (Clean ∷ hows) = status_of_all hows
status_of_all (how ∷ hows) = status_of how

-- what resulted from a session: how it ended, its ends before and after, and its turns
pub record SessionResult (E : Type 0) : Type 0 where
  pub how : How
  pub old : E
  pub new : E
  pub turns : List Turn

-- memory ran out before the session began: it has no turns and no events, and its ends are as they were given
pub record IsUnbegun {E : Type 0} (events : List Happened) (caller : ℕ) (result : SessionResult E) : Type 0 where
  pub how : result.how ≡ NoMemory
  pub same : result.new ≡ result.old
  pub no_turns : result.turns ≡ []
  pub no_events : AllByRecursion (λ event. event.caller ≢ caller) events

-- the session of a caller, over a part of the events of a run, or none; where rights are asked, they are those of the end's user
abbrev pub IsResult : {E : Type 0} → (E → EndView) → State → ℕ → Bool → List Happened → ℕ → SessionResult E → Type 0
IsResult view opening limit access events caller result =
    HasSession (record { opening = opening; caller = caller; asks = asks_of access (view result.old).user }) limit events result.how
    result.turns (view result.old) (view result.new)
    ⊎ IsUnbegun events caller result
