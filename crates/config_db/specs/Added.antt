-- Which entries the events of a run add to the list of commits, one by one. This project's own.
use Rattle.std.specs.Prelude.{◌≡◌, ◌+◌, ℕ, true, List, [], ◌∷◌, ◌++◌, length, take, Option, None, Some}
use Rattle.commit_ledger.specs.declared.entry.Entry.{Entry}
use Rattle.commit_ledger.specs.Kept.{Kept, append_entry, after_entries}
use Rattle.config_core.specs.declared.event.Event.{Event}
use Rattle.config_core.specs.declared.event.Event.TheVariants.{Settle}
use Rattle.config_core.specs.declared.event.Outcome.{Outcome}
use Rattle.config_core.specs.declared.event.Outcome.TheVariants.{Done, Fault}
use Rattle.config_core.specs.Machine.{Fits, Steps}
use Rattle.config_core.specs.Serving.{Turned}
use Rattle.config_core.specs.State.{State, Made}
use Rattle.session_history.specs.declared.history.Happened.{Happened}
use Rattle.stored_ledger.specs.Stored.{IsNext}
use Rattle.config_db.specs.Writing.{entry_in}

-- the entry that an event adds: with nothing in flight the one that it makes, where that is done; else the one in flight, where it is
-- found to be kept
abbrev pub added_by : Option Made → Event → Outcome → Option Made → Option Entry
added_by None event Done made = entry_in made
added_by None event Fault made = None
added_by (Some flying) (Settle true) outcome made = Some flying.entry
added_by (Some flying) event outcome made = None

abbrev pub entries_in : Option Entry → List Entry
entries_in None = []
entries_in (Some entry) = entry ∷ []

-- it may be the next one of the list, and is the last one from then on; without one the list stays as it was
abbrev pub AddsOne : Kept → Option Entry → Kept → Type 0
AddsOne kept None after = after ≡ kept
AddsOne kept (Some entry) after = IsNext kept entry × (after ≡ append_entry kept entry)

-- one event, from one state to the next, which adds one entry or none
pub record AddsAt (s : State) (event : Happened) (after : State) (own : List Entry) : Type 0 where
  pub fits : Fits s event.caller event.moment event.event
  pub turned : Turned
  pub steps : Steps s event.caller event.moment event.event event.outcome turned
  pub state : after ≡ turned.state
  pub one : AddsOne s.kept (added_by s.flight event.event event.outcome turned.made) after.kept
  pub own_is : own ≡ entries_in (added_by s.flight event.event event.outcome turned.made)

-- the events lead from one state to the other, and these are the entries that they add, in order. It is a relation, as a step is one;
-- of the events of a run at most one list of entries meets it (`events_add_one_list`)
abbrev pub Adds : State → List Happened → State → List Entry → Type 0
Adds s [] last entries = (last ≡ s) × (entries ≡ [])
Adds s (event ∷ events) last entries =
    (after : State) × (own : List Entry) × AddsAt s event after own
    × (rest : List Entry) × (entries ≡ own ++ rest) × Adds after events last rest

-- the events lead from one state to the other, and add some entries
abbrev pub AddsSome : State → List Happened → State → Type 0
AddsSome s events last = (entries : List Entry) × Adds s events last entries

-- each of these entries may be the next one behind those before it
abbrev pub AllFollow : Kept → List Entry → Type 0
AllFollow kept [] = Unit {0}
AllFollow kept (entry ∷ entries) = IsNext kept entry × AllFollow (append_entry kept entry) entries

-- so many of the first events add these entries
pub record AddsFirst (s : State) (events : List Happened) (count : ℕ) (front : List Entry) : Type 0 where
  pub last : State
  pub adds : Adds s (take count events) last front
  pub is : last.kept ≡ after_entries s.kept front

-- so many of the first events add a front of these entries
pub record AddsFront (s : State) (events : List Happened) (entries : List Entry) (count : ℕ) : Type 0 where
  pub front : List Entry
  pub rest : List Entry
  pub cut : entries ≡ front ++ rest
  pub first : AddsFirst s events count front
