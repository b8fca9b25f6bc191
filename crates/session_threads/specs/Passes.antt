-- The pass of one caller, before and after its turns. This project's own.
use Rattle.std.specs.Prelude.{◌≡◌, ◌<◌, ◌≤◌, ◌+◌, ℕ, List, [], ◌∷◌, length, Some}
use mathlib.Core.List.{IsPrefix}
use Rattle.atomic_table.specs.Seated.{TableId}
use Rattle.commands.specs.declared.command.Command.{Command}
use Rattle.config_db.specs.declared.answer.Answered.{Answered}
use Rattle.config_db.specs.View.{DatabaseView, opened}
use Rattle.session_history.specs.declared.history.Happened.{Happened}
use Rattle.session_history.specs.Events.{IsLegal}
use Rattle.session_shell.specs.declared.door.Given0.{Given0}
use Rattle.session_shell.specs.declared.door.Given0.TheVariants.{Unready}
use Rattle.turn_lock.specs.Histories.{entries_by}
use Rattle.turn_lock.specs.Passes.{PassView}
use Rattle.session_threads.specs.declared.noted.Noted.{Noted}
use Rattle.session_threads.specs.History.{FollowsTurn}
use Rattle.session_threads.specs.Noted.{caller_in, events_of, notes_of}

-- a pass of a lock over a database
abbrev pub CallerPass : Type 0
CallerPass = PassView Noted DatabaseView

-- the events that a pass has seen
abbrev pub events_seen : CallerPass → List Happened
events_seen pass = events_of pass.seen

-- a pass has as its own what is its caller's among what it has seen
abbrev pub KnowsOwn : CallerPass → Type 0
KnowsOwn pass = entries_by caller_in pass.caller pass.seen ≡ pass.own

-- a pass of that lock, over a database that began so, for one of its users; the events that it has seen are a legal history
pub record IsReady (lock : TableId) (first : DatabaseView) (pass : CallerPass) : Type 0 where
  pub here : pass.lock ≡ lock
  pub fixed : pass.fixed ≡ Some first
  pub within : (0 < pass.caller) × (pass.caller ≤ length first.users)
  pub own : KnowsOwn pass
  pub legal : IsLegal (opened first) (events_seen pass)

-- a pass took turns: it is the same pass, and has seen more
pub record WentOn (old new : CallerPass) : Type 0 where
  pub lock : new.lock ≡ old.lock
  pub caller : new.caller ≡ old.caller
  pub fixed : new.fixed ≡ old.fixed
  pub callers : new.callers ≡ old.callers
  pub splits : new.splits ≡ old.splits
  pub ended : new.ended ≡ old.ended
  pub later : IsPrefix old.seen new.seen
  pub own : KnowsOwn new

-- whose notes a turn writes
abbrev pub notes_given : ℕ → Given0 → List ℕ
notes_given caller (Unready front) = caller ∷ []
notes_given caller given = []

-- a pass has as many notes more as its caller was told of, or more still
abbrev pub CountsNotes : Given0 → CallerPass → CallerPass → Type 0
CountsNotes given old new =
    length (notes_of old.own) + length (notes_given old.caller given) ≤ length (notes_of new.own)

-- events grew by what one turn of a caller made, and by nothing else
pub record FollowsAlone (first : DatabaseView) (caller : ℕ) (events : List Happened) (command : Command)
    (answer : ℕ) (answered : Answered) (events' : List Happened) : Type 0 where
  pub follows : FollowsTurn (opened first) caller events command answer answered events'
  pub alone : follows.grows.others ≡ []

-- a pass took turns in which its caller made nothing
pub record Waited (start pass : CallerPass) : Type 0 where
  pub goes : WentOn start pass
  pub same_own : pass.own ≡ start.own
