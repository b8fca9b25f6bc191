-- The session of one caller, before it and after it. This project's own.
use Rattle.std.specs.Prelude.{◌≡◌, ◌≢◌, ◌⊎◌, ◌+◌, ◌≤◌, ℕ, Bool, List, [], ◌++◌, length, count_by, Option, None, Some}
use mathlib.Core.List.{IsPrefix}
use Rattle.std.specs.List.{AllByRecursion}
use Rattle.atomic_table.specs.Seated.{TableId}
use Rattle.active_snapshot.specs.States.{ReaderView}
use Rattle.commit_ledger.specs.Kept.{Kept}
use Rattle.config_db.specs.View.{DatabaseView, opened}
use Rattle.session_history.specs.declared.history.Happened.{Happened}
use Rattle.session_shell.specs.declared.turn.How.TheVariants.{NoMemory}
use Rattle.session_shell.specs.declared.end.End.{End}
use Rattle.session_shell.specs.declared.turn.Turn.{Turn}
use Rattle.session_shell.specs.Transcript.{EndView, IsSession}
use Rattle.session_threads.specs.declared.seat.Seat.{Seat}
use Rattle.session_threads.specs.Access.{Asker, asks_of}
use Rattle.session_threads.specs.Adding.{is_unready}
use Rattle.session_threads.specs.Gates.{FollowsIn, GateView, StartsReading, TellsKept}
use Rattle.session_threads.specs.History.{FollowsAsked, Known, known_first}
use Rattle.session_threads.specs.Noted.{notes_of}
use Rattle.session_threads.specs.Passes.{CallerPass, IsReady, Waited, WentOn, events_seen}
use Rattle.session_threads.specs.Results.{SessionResult}
use Rattle.session_threads.specs.Syncs.{WithoutBackup}

-- no session began
pub record StaysOut {E : Type 0} (old new : CallerPass) (result : SessionResult E) : Type 0 where
  pub how : result.how ≡ NoMemory
  pub same : result.new ≡ result.old
  pub no_turns : result.turns ≡ []
  pub no_events : new.own ≡ old.own

-- the session ran over its pass and its reader
abbrev pub RunsOver : {E : Type 0} → (E → EndView) → ℕ → GateView → GateView → SessionResult E → Type 0
RunsOver view limit old new result =
    IsSession FollowsIn WithoutBackup limit result.how result.turns (view result.old) (view result.new) old new

-- the pass has a note for each turn of a session that found a disk not ready
abbrev pub CountsTurns : CallerPass → CallerPass → List Turn → Type 0
CountsTurns old new turns = length (notes_of old.own) + count_by is_unready turns ≤ length (notes_of new.own)

-- the session of a seat was run, or none began
pub record RunsOne {E : Type 0} (view : E → EndView) (limit : ℕ) (old new : GateView) (result : SessionResult E) : Type 0 where
  pub goes : WentOn old.pass new.pass
  pub noted : CountsTurns old.pass new.pass result.turns
  pub session : RunsOver view limit old new result ⊎ StaysOut old.pass new.pass result

-- all that a reader has was kept by the events that a pass has seen
pub record IsWithin (first : DatabaseView) (pass : CallerPass) (reader : ReaderView) : Type 0 where
  pub list : List Kept
  pub tells : TellsKept (opened first) (events_seen pass) list
  pub within : IsPrefix reader.list list

-- a pass took turns in which its caller made nothing, until all that its reader has was kept by what it has seen
pub record HasLeft (first : DatabaseView) (old new : CallerPass) (reader : ReaderView) : Type 0 where
  pub waited : Waited old new
  pub within : IsWithin first new reader

-- the caller of a pass over a database that began so, with the user of its end where rights are asked
abbrev pub asker_of : DatabaseView → CallerPass → Bool → EndView → Asker
asker_of first pass access end = record { opening = opened first; caller = pass.caller; asks = asks_of access end.user }

-- the session ran over a part of the events that its pass has seen, after which none is its caller's
pub record HasRun {E : Type 0} (view : E → EndView) (limit : ℕ) (access : Bool) (first : DatabaseView) (old new : CallerPass)
    (result : SessionResult E) : Type 0 where
  pub after : Known
  pub later : List Happened
  pub begins : events_seen new ≡ after.events ++ later
  pub none_later : AllByRecursion (λ event. event.caller ≢ old.caller) later
  pub session : IsSession (FollowsAsked (asker_of first old access (view result.old)) (events_seen new)) WithoutBackup limit result.how
      result.turns (view result.old) (view result.new) (known_first (opened first) (events_seen old)) after

-- the session of a pass's caller was served
pub record ServesOne {E : Type 0} (view : E → EndView) (limit : ℕ) (access : Bool) (first : DatabaseView) (old new : CallerPass)
    (result : SessionResult E) : Type 0 where
  pub goes : WentOn old new
  pub noted : CountsTurns old new result.turns
  pub session : HasRun view limit access first old new result ⊎ StaysOut old new result

-- what resulted from a seat's session
abbrev pub result_of : {S K C F J : Type 0} → Seat S K C F J → Seat S K C F J → SessionResult (End S K C)
result_of old new = record { how = new.how; old = old.end; new = new.end; turns = new.turns }

-- the pass and the reader of a seat, with the user of its end where rights are asked
abbrev pub gate_of : {S K C J : Type 0} → Bool → Seat S K C DatabaseView J → GateView
gate_of access seat = record { pass = seat.pass; reader = seat.reader; asks = asks_of access seat.end.user }

-- a pass and a reader with which a session can be served
pub record CanServe (lock : TableId) (first : DatabaseView) (pass : CallerPass) (reader : ReaderView) : Type 0 where
  pub ready : IsReady lock first pass
  pub starts : StartsReading first reader

-- a seat whose session can be served
abbrev pub IsSeated : {S K C J : Type 0} → TableId → DatabaseView → Option (Seat S K C DatabaseView J) → Type 0
IsSeated lock first None = ⊥
IsSeated lock first (Some seat) = CanServe lock first seat.pass seat.reader

-- the session of a seat was served
abbrev pub ServesSeat : {S K C J : Type 0} → (End S K C → EndView) → ℕ → Bool → DatabaseView → Option (Seat S K C DatabaseView J)
    → Option (Seat S K C DatabaseView J) → Type 0
ServesSeat view limit access first (Some old) (Some new) = ServesOne view limit access first old.pass new.pass (result_of old new)
ServesSeat view limit access first None now = ⊥
ServesSeat view limit access first (Some old) None = ⊥
