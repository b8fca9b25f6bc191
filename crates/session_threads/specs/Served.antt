-- The database under the lock, and what results from all sessions over it. This project's own.
use Rattle.std.specs.Prelude.{◌≡◌, ◌≤◌, ◌+◌, ℕ, Bool, List, [], ◌∷◌, length, map}
use Rattle.std.specs.List.{AllByRecursion}
use Rattle.active_snapshot.specs.States.{ReaderView, first_read}
use Rattle.commit_ledger.specs.Kept.{Kept}
use Rattle.config_db.specs.View.{DatabaseView, opened}
use Rattle.session_history.specs.Events.{Leads}
use Rattle.session_shell.specs.declared.turn.Turn.{Turn}
use Rattle.session_shell.specs.Transcript.{EndView}
use Rattle.session_threads.specs.declared.noted.Note.{Note}
use Rattle.session_threads.specs.Adding.{AddsUp, NotesAreCounted, TurnsAreCounted}
use Rattle.session_threads.specs.Looks.{HasTicked, TickerView}
use Rattle.session_threads.specs.Noted.{AreUpTo}
use Rattle.session_threads.specs.Results.{IsResult, SessionResult, status_of_all}

-- the database, how it was before its first turn, and the notes of turns whose command became no event
pub record ServedView : Type 0 where
  pub first : DatabaseView
  pub database : DatabaseView
  pub notes : List Note

-- nothing had happened before the first turn, and all that happened since led to the database's state and adds up, with the
-- notes; none of these came after more events than there are
pub record IsUnderway (v : ServedView) : Type 0 where
  pub fresh : v.first.events ≡ []
  pub leads : Leads (opened v.first) v.database.events v.database.state
  pub adds : AddsUp v.database.events v.first v.database
  pub noted : NotesAreCounted v.database.events v.notes v.first v.database
  pub up_to : AreUpTo (length v.database.events) v.notes

-- there is a reader for each of so many sessions, and each was told of the opening's list alone
abbrev pub HasReaders : Kept → ℕ → List ReaderView → Type 0
HasReaders opening count readers = (count ≤ length readers) × AllByRecursion (λ reader. reader ≡ first_read opening) readers

-- what holds of each of a list, by its number, from a number on
abbrev pub EachFrom : {A : Type 0} → (ℕ → A → Type 0) → ℕ → List A → Type 0
EachFrom Is number [] = Unit {0}
EachFrom Is number (x ∷ xs) = Is number x × EachFrom Is (number + 1) xs

-- what sessions and ticker hand back: the ends, the ticker, the turns of each session, the database, and the status
pub record SessionsView (E : Type 0) : Type 0 where
  pub ends : List E
  pub ticker : TickerView
  pub turns : List (List Turn)
  pub database : DatabaseView
  pub status : ℕ

-- a database in which nothing had happened, and what came over it of the sessions of these ends and of the ticker; rights are
-- asked of each command, or aren't
pub record AreServed {E : Type 0} (view : E → EndView) (limit : ℕ) (access : Bool) (first : DatabaseView) (ends : List E)
    (ticker : TickerView) (after : SessionsView E) : Type 0 where
  pub leads : Leads (opened first) after.database.events after.database.state
  pub adds : AddsUp after.database.events first after.database
  pub noted : TurnsAreCounted after.database.events after.turns first after.database
  -- the sessions of callers 1, 2 and so on
  pub results : List (SessionResult E)
  pub old : map (λ result. result.old) results ≡ ends
  pub new : map (λ result. result.new) results ≡ after.ends
  pub turned : map (λ result. result.turns) results ≡ after.turns
  pub each : EachFrom (IsResult view (opened first) limit access after.database.events) 1 results
  -- the ticker, which is caller 0
  pub ticked : HasTicked (opened first) ticker after.ticker after.database.events
  pub callers : AllByRecursion (λ event. event.caller ≤ length ends) after.database.events
  pub is_status : after.status ≡ status_of_all (map (λ result. result.how) results)
