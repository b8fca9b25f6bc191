-- What readers are shown of a database: the list that is kept, and never the entry in flight. This project's own.
use Rattle.std.specs.Prelude.{◌≡◌, ◌≤◌, ◌⊎◌, Bool, true, false, List, ◌∷◌, length, Option, Some, None}
use Rattle.std.specs.List.{AllByRecursion}
use Rattle.commit_check.specs.Accepts.{Accepts}
use Rattle.commit_ledger.specs.declared.entry.Entry.{Entry}
use Rattle.commit_ledger.specs.Kept.{Kept, append_entry, BringsMap, HasOneWaiting, NumberFits, RoomFor}
use Rattle.config_core.specs.declared.event.Outcome.{Outcome}
use Rattle.config_core.specs.declared.event.Outcome.TheVariants.{Done, Fault}
use Rattle.config_core.specs.State.{State, Made}
use Rattle.session_history.specs.declared.history.Happened.{Happened}
use Rattle.session_history.specs.Kept.{WasKept}
use Rattle.active_snapshot.specs.States.{WriterView}
use Rattle.active_snapshot.specs.Views.{IsLast, with_proposal}

-- the view that waits to be kept: that after the entry in flight
abbrev pub waiting_view : Kept → Option Made → Option Kept
waiting_view kept None = None
waiting_view kept (Some made) = Some (append_entry kept made.entry)

-- a writer shows a run that began in the first state, with these events and this state after them
pub record Shows (first : State) (events : List Happened) (s : State) (shown : WriterView) : Type 0 where
  -- its views begin with the opening's, and the last one is what is kept
  pub more : List Kept
  pub begins : shown.list ≡ first.kept ∷ more
  pub last : IsLast shown.list s.kept
  -- each of them was kept at some moment of the run
  pub all : AllByRecursion (WasKept first events) shown.list
  -- the view after the entry in flight waits, and none where nothing is in flight
  pub proposed : shown.proposal ≡ waiting_view s.kept s.flight
  -- a writer that is late has nothing in flight
  pub late : shown.late ≡ true → s.flight ≡ None

-- an entry may follow a view: the list has room for it, its number fits, its configuration is accepted, and not both wait
-- afterwards, a run and a scheduled commit
pub record CanFollow (view : Kept) (entry : Entry) : Type 0 where
  pub room : RoomFor view entry
  pub number : NumberFits view entry
  pub accepted : BringsMap Accepts entry
  pub one : HasOneWaiting (append_entry view entry)

-- an entry may follow the last one of these views
abbrev pub CanFollowLast : List Kept → Entry → Type 0
CanFollowLast views entry = (view : Kept) → IsLast views view → CanFollow view entry

-- the view after an entry waits to be kept
pub record ProposesNext (entry : Entry) (w w' : WriterView) : Type 0 where
  pub on_time : w.late ≡ false
  pub view : Kept
  pub last : IsLast w.list view
  pub is : w' ≡ record w { proposal = Some (append_entry view entry) }

-- the view after the entry that an event makes, if it makes one, waits to be kept
abbrev pub Proposes : Option Made → WriterView → WriterView → Type 0
Proposes None w w' = w' ≡ w
Proposes (Some made) w w' = ProposesNext made.entry w w'

-- the view that waits is kept, and all are published, or none more than before
pub record Keeps (w w' : WriterView) : Type 0 where
  pub list : w'.list ≡ with_proposal w.list w.proposal
  pub proposal : w'.proposal ≡ None
  pub published : (w'.published ≡ w.published) ⊎ (w'.published ≡ length w'.list)

-- what waits is kept once the entry is written, and waits on where a disk failed
abbrev pub Publishes : Option Made → Outcome → WriterView → WriterView → Type 0
Publishes None outcome w w' = w' ≡ w
Publishes (Some made) Done w w' = Keeps w w'
Publishes (Some made) Fault w w' = w' ≡ w

-- the entry that an event makes, if it makes one, is shown by the outcome of its writing
pub record IsShown (made : Option Made) (outcome : Outcome) (w w' : WriterView) : Type 0 where
  pub ready : WriterView
  pub proposes : Proposes made w ready
  pub publishes : Publishes made outcome ready w'

-- what waited is kept with the entry that was in flight, or withdrawn with it
abbrev pub ShowsSettled : Bool → WriterView → WriterView → Type 0
ShowsSettled true w w' = Keeps w w'
ShowsSettled false w w' = w' ≡ record w { proposal = None }

-- no view is lost, and none that was published is taken back: as many are published as before, or at least all that were kept then
pub record ShowsOn (w w' : WriterView) : Type 0 where
  pub longer : length w.list ≤ length w'.list
  pub published : (w'.published ≡ w.published) ⊎ (length w.list ≤ w'.published)
