-- How a database goes on by one event, and by several of one caller at one moment.
use Rattle.std.specs.Prelude.{◌≡◌, ℕ, Bool, List, [], ◌∷◌, ◌++◌, None, IfSome, IsSome}
use Rattle.disk_model.specs.Pair.{FaultOnEither}
use Rattle.std.specs.List.{AllByRecursion}
use Rattle.cfg_base.specs.declared.calls.Calls.{Calls}
use Rattle.commit_journal.specs.Journal.{Tell, JournalView, disks_of}
use Rattle.config_core.specs.declared.event.Event.{Event}
use Rattle.config_core.specs.declared.event.Event.TheVariants.{Settle}
use Rattle.config_core.specs.declared.event.Outcome.{Outcome}
use Rattle.config_core.specs.declared.event.Outcome.TheVariants.{Done, Fault}
use Rattle.config_core.specs.declared.reply.Reply.{Reply}
use Rattle.config_core.specs.Machine.{Fits, Steps}
use Rattle.config_core.specs.Plan.{PreparedView}
use Rattle.config_core.specs.Prepared.{IsPrepared, applied}
use Rattle.config_core.specs.Serving.{Turned}
use Rattle.config_core.specs.State.{State}
use Rattle.session_history.specs.declared.history.Happened.{Happened}
use Rattle.session_history.specs.Events.{Leads, IsEventOf}
use Rattle.config_db.specs.declared.answer.Before.{Before}
use Rattle.config_db.specs.declared.answer.Before.TheVariants.{Settled, PutOff}
use Rattle.config_db.specs.View.{DatabaseView, IsSameRun}
use Rattle.config_db.specs.Added.{AddsOne, AddsSome, added_by}
use Rattle.config_db.specs.Numbers.{calls_of}
use Rattle.config_db.specs.Crash.{BothCalled}
use Rattle.config_db.specs.Disks.{GoesOn}
use Rattle.config_db.specs.Faults.{FaultsAreCounted}
use Rattle.config_db.specs.Shown.{ShowsOn}
use Rattle.stored_ledger.specs.Growing.{KeepsLimit}

-- an event with its outcome is a step of the machine, with that reply
pub record Turns (s : State) (caller moment : ℕ) (event : Event) (outcome : Outcome) (reply : Reply) (s' : State) : Type 0 where
  pub fits : Fits s caller moment event
  pub turned : Turned
  pub steps : Steps s caller moment event outcome turned
  pub state : s' ≡ turned.state
  pub replied : reply ≡ turned.reply

-- an event as it is noted
abbrev pub noted : ℕ → ℕ → Event → Outcome → Calls → Happened
noted caller moment event outcome calls =
    record { caller = caller; moment = moment; event = event; outcome = outcome; calls = calls }

-- one event came, and was noted with the numbers of calls that the journal reports by then
pub record Happens (caller moment : ℕ) (event : Event) (outcome : Outcome) (reply : Reply)
    (v v' : DatabaseView) : Type 0 where
  pub turns : Turns v.state caller moment event outcome reply v'.state
  pub grown : v'.events ≡ v.events ++ noted caller moment event outcome (calls_of v'.journal) ∷ []
  pub same : IsSameRun v v'
  pub goes : GoesOn v.journal v'.journal
  pub called : Tell v.journal → BothCalled v.journal v'.journal
  -- nothing is in flight where it was done, and an entry where it was not
  pub done : outcome ≡ Done → v'.state.flight ≡ None
  pub failed : outcome ≡ Fault → IsSome v'.state.flight
  pub shown : ShowsOn v.shown v'.shown
  -- the list gets the entry that the event adds, which may be its next one, or stays
  pub adds : AddsOne v.state.kept (added_by v.state.flight event outcome turns.turned.made) v'.state.kept
  -- an entry that was written leaves the file within its limit, where a checkpoint and the entry fit in it
  pub trims : outcome ≡ Done → IfSome turns.turned.made (λ made. KeepsLimit v.state.kept made.entry v'.journal)

-- a disk failed before the entry in flight was settled: the journal was called, and all else is as before
pub record IsUnsettled (v v' : DatabaseView) : Type 0 where
  pub state : v'.state ≡ v.state
  pub events : v'.events ≡ v.events
  pub same : IsSameRun v v'
  pub goes : GoesOn v.journal v'.journal
  pub called : Tell v.journal → BothCalled v.journal v'.journal
  pub rose : FaultOnEither (disks_of v.journal) (disks_of v'.journal)
  pub shown : v'.shown ≡ v.shown

-- what was in flight was settled in the state, as it was found out
pub record IsSettledBy (caller moment : ℕ) (is_kept : Bool) (s s' : State) : Type 0 where
  pub plan : PreparedView
  pub prepared : IsPrepared s caller moment (Settle is_kept) plan
  pub is : s' ≡ applied plan Done s

-- the entry in flight was settled, or it was not
abbrev pub Settles : ℕ → ℕ → Outcome → DatabaseView → DatabaseView → Type 0
Settles caller moment Done v v' =
    (is_kept : Bool) × (reply : Reply) × Happens caller moment (Settle is_kept) Done reply v v'
Settles caller moment Fault v v' = IsUnsettled v v'

-- what resulted from a settling before a command: it was settled, or a disk failed and the command, which is asked by that event, is put
-- off
abbrev pub SettlesBefore : ℕ → ℕ → Event → Before → DatabaseView → DatabaseView → Type 0
SettlesBefore caller moment event (Settled back) v v' = (back ≡ event) × Settles caller moment Done v v'
SettlesBefore caller moment event (PutOff reply) v v' =
    (failed : DatabaseView) × IsUnsettled v failed × Happens caller moment event Fault reply failed v'

-- an event has the outcome of a fault only where a disk's count of faults rose
abbrev pub HasCause : JournalView → JournalView → Happened → Type 0
HasCause j j' event = event.outcome ≡ Fault → FaultOnEither (disks_of j) (disks_of j')

-- events of a caller at a moment came after those that were there, and lead on from the state
pub record Extends (caller moment : ℕ) (own : List Happened) (v v' : DatabaseView)
    : Type 0 where
  pub leads : Leads v.state own v'.state
  pub grown : v'.events ≡ v.events ++ own
  -- the entries that the events add come behind those that were there
  pub added : AddsSome v.state own v'.state
  pub made : AllByRecursion (IsEventOf caller moment) own
  pub causes : AllByRecursion (HasCause v.journal v'.journal) own
  -- and no more of them have it than the counts rose by
  pub counted : FaultsAreCounted own (disks_of v.journal) (disks_of v'.journal)
  pub same : IsSameRun v v'
  pub goes : GoesOn v.journal v'.journal
  -- the disks made the calls that are reported, where they tell what they hold
  pub called : Tell v.journal → BothCalled v.journal v'.journal
  pub shown : ShowsOn v.shown v'.shown
