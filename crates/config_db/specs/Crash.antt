-- What a crash at any moment of a run may leave on the two disks. This project's own.
pub use Rattle.commit_journal.specs.Held.{BothCalled, CallsOn}
use Rattle.std.specs.Prelude.{◌≡◌, ◌⊎◌, ℕ, List, [], ◌∷◌, length, Option, Some, None}
use Rattle.cfg_base.specs.declared.calls.Calls.{Calls}
use Rattle.disk_model.specs.Disk.{Call, DiskGoesOn, History}
use Rattle.disk_model.specs.Pair.{DiskPair}
use Rattle.commit_ledger.specs.Kept.{append_entry}
use Rattle.commit_journal.specs.Spans.{AreSafe, IsReckoned, AreSpansSafe as SpansAreSafe, last_calls as last_calls_by}
use Rattle.config_core.specs.Machine.{Steps}
use Rattle.config_core.specs.Serving.{Turned}
use Rattle.config_core.specs.State.{State, Made}
use Rattle.session_history.specs.declared.history.Happened.{Happened}
use Rattle.session_history.specs.Events.{Leads}
use Rattle.stored_ledger.specs.Stored.{SpellsAgreeing, SpellsKept}
use Rattle.config_db.specs.Numbers.{AreRising, calls_in, none_called}

-- the numbers of the last event, or those given
abbrev pub last_calls : Calls → List Happened → Calls
last_calls from events = last_calls_by calls_in from events

-- the event that comes next
abbrev pub next_event : List Happened → Option Happened
next_event [] = None
next_event (event ∷ events) = Some event

-- the next event makes that entry
abbrev pub NextMakes : State → Option Happened → Made → Type 0
NextMakes s None made = ⊥
NextMakes s (Some event) made =
    (turned : Turned) × Steps s event.caller event.moment event.event event.outcome turned × (turned.made ≡ Some made)

-- two files spell what is kept in a state, or a list that agrees with it, or that with the entry in flight or the one that the next
-- event makes
abbrev pub Spelt : State → Option Happened → List ℕ → List ℕ → Type 0
Spelt s next a b =
    SpellsAgreeing a b s.kept
    ⊎ ((made : Made) × ((s.flight ≡ Some made) ⊎ NextMakes s next made) × SpellsKept a b (append_entry s.kept made.entry))

-- two files spell what each state says to which the events before lead, with the event that comes next
abbrev pub SpeltBetween : State → List Happened → List Happened → List ℕ → List ℕ → Type 0
SpeltBetween first before after a b = (s : State) → Leads first before s → Spelt s (next_event after) a b

-- between any two events, before the first and after the last: each pair of images of that span, one of each disk, of whatever
-- moments of it, spells what the state there says
abbrev pub AreSpansSafe : State → List Happened → Calls → History → History → Type 0
AreSpansSafe first events made a b = SpansAreSafe calls_in (SpeltBetween first) events made a b

-- a crash at any moment of a run leaves the list as it was reported by then, with the entry of that moment or without
pub record IsCrashSafe (first : State) (events : List Happened) (made : Calls) (a b : History) : Type 0 where
  -- the numbers of calls don't fall
  pub rising : AreRising none_called events made
  -- a disk whose own count stands at its end can't be reckoned back
  pub safe : IsReckoned a → IsReckoned b → AreSpansSafe first events made a b

-- what holds of the disks as they are now
abbrev pub IsSafeWhile : State → List Happened → Calls → History → History → Type 0
IsSafeWhile first events made a b = AreSafe calls_in (SpeltBetween first) events made a b

-- a disk made so many calls since, where its own count doesn't stand at its end
abbrev pub HasCalled : History → History → ℕ → Type 0
HasCalled h h' number = (more : List Call) × DiskGoesOn h more h' × (IsReckoned h' → number ≡ length more)

-- two disks made so many calls since
pub record HaveCalled (start now : DiskPair) (made : Calls) : Type 0 where
  pub a : HasCalled start.a.history now.a.history made.a
  pub b : HasCalled start.b.history now.b.history made.b
