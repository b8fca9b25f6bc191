-- What comes before a command, and what is answered.
use Rattle.std.specs.Prelude.{◌≡◌, ◌≤◌, ◌⊎◌, ℕ, ◌+◌, List, [], ◌∷◌, ◌++◌, length, max, IfSome, IsSome}
use Rattle.commit_journal.specs.Journal.{JournalView, disks_of}
use Rattle.disk_model.specs.Pair.{FaultOnEither}
use Rattle.commands.specs.declared.command.Command.{Command}
use Rattle.config_core.specs.declared.event.Event.{Event}
use Rattle.config_core.specs.declared.event.Event.TheVariants.{Revert, Carry, Command as CommandOf}
use Rattle.config_core.specs.declared.event.Outcome.{Outcome}
use Rattle.config_core.specs.declared.event.Outcome.TheVariants.{Done, Fault}
use Rattle.config_core.specs.declared.reply.Reply.{Reply}
use Rattle.config_core.specs.Machine.{Waiting, InFlight, Missed, Ready, Free, Steps, waiting_of}
use Rattle.config_core.specs.Prepared.{IsSettling}
use Rattle.config_core.specs.Serving.{Turned}
use Rattle.config_core.specs.State.{State}
use Rattle.session_history.specs.declared.history.Happened.{Happened}
use Rattle.session_history.specs.Events.{Leads, NoCommand}
use Rattle.config_db.specs.declared.answer.Answered.{Answered}
use Rattle.config_db.specs.declared.answer.Answered.TheVariants.{Kept, NoMemory}
use Rattle.config_db.specs.declared.answer.Ticked.{Ticked}
use Rattle.config_db.specs.declared.answer.Ticked.TheVariants.{Nothing, Settled, Reverted, Carried, DiskFault, NoMemory as TickedNoMemory}
use Rattle.config_db.specs.View.{DatabaseView}
use Rattle.config_db.specs.Numbers.{calls_of}
use Rattle.config_db.specs.Crash.{last_calls}
use Rattle.stored_ledger.specs.Growing.{KeepsLimit}
use Rattle.config_db.specs.Moves.{Extends, Happens}

-- nothing comes before a command at that moment
abbrev pub IsClear : ℕ → DatabaseView → Type 0
IsClear moment v = waiting_of v.state moment ≡ Free

-- what is due with nothing in flight: the revert of a missed deadline, or the scheduled commit whose time has come
abbrev pub IsDue : Event → Waiting → Type 0
IsDue event (InFlight made) = ⊥
IsDue event Missed = event ≡ Revert
IsDue event (Ready waiting) = event ≡ Carry
IsDue event Free = ⊥

-- the last of the events did what was due, by this event; its entry leaves the file within its limit, where a checkpoint and the entry
-- fit in it
pub record EndsDue (event : Event) (own : List Happened) (v v' : DatabaseView) : Type 0 where
  pub front : List Happened
  pub last : Happened
  pub is_own : own ≡ front ++ last ∷ []
  pub does : last.event ≡ event
  pub done : last.outcome ≡ Done
  pub before : State
  pub leads : Leads v.state front before
  pub turned : Turned
  pub steps : Steps before last.caller last.moment event Done turned
  pub trims : IfSome turned.made (λ made. KeepsLimit before.kept made.entry v'.journal)

-- one event, which settles what was in flight
pub record IsOneSettling (own : List Happened) : Type 0 where
  pub one : Happened
  pub is_own : own ≡ one ∷ []
  pub settles : IsSettling one.event
  pub done : one.outcome ≡ Done

-- no disk was called after these events, and none at all where there are none
pub record NoneCalledBehind (own : List Happened) (j j' : JournalView) : Type 0 where
  pub none : own ≡ [] → j' ≡ j
  pub calls : last_calls (calls_of j) own ≡ calls_of j'

-- all that was kept before is published now, or memory ran out for that and nothing was done
abbrev pub PublishesFirst : Type 0 → DatabaseView → DatabaseView → Type 0
PublishesFirst wanting v v' = (length v.shown.list ≤ v'.shown.published) ⊎ (wanting × (v' ≡ v))

-- what was needed before a command, and what resulted
abbrev pub Clears : ℕ → Ticked → List Happened → DatabaseView → DatabaseView → Type 0
Clears moment Nothing own v v' = (own ≡ []) × IsClear moment v'
Clears moment Settled own v v' = IsOneSettling own × IsClear moment v'
Clears moment Reverted own v v' = EndsDue Revert own v v' × IsClear moment v'
Clears moment Carried own v v' = EndsDue Carry own v v' × IsClear moment v'
Clears moment DiskFault own v v' = IsSome v'.state.flight × FaultOnEither (disks_of v.journal) (disks_of v'.journal)
Clears moment TickedNoMemory own v v' = NoneCalledBehind own v.journal v'.journal

-- what was needed before a command at that moment was done, in the name of that caller
pub record MakesWay (caller moment : ℕ) (ticked : Ticked) (v v' : DatabaseView) : Type 0 where
  pub own : List Happened
  pub extends : Extends caller moment own v v'
  pub no_command : NoCommand own
  pub clears : Clears moment ticked own v v'
  -- the greatest moment doesn't fall, and isn't a later one than that
  pub since : v.state.greatest ≤ v'.state.greatest
  pub no_later : v'.state.greatest ≤ moment

-- what is reported of what was due, by its event
abbrev pub due_as : Event → Outcome → Ticked
due_as Carry Done = Carried
due_as event Done = Reverted
due_as event Fault = DiskFault

-- what was due is done, or it is in flight
abbrev pub DoesDue : ℕ → ℕ → Event → Ticked → DatabaseView → DatabaseView → Type 0
DoesDue caller moment event Reverted v v' = (event ≡ Revert) × (reply : Reply) × Happens caller moment event Done reply v v'
DoesDue caller moment event Carried v v' = (event ≡ Carry) × (reply : Reply) × Happens caller moment event Done reply v v'
DoesDue caller moment event DiskFault v v' =
    (reply : Reply) × Happens caller moment event Fault reply v v' × FaultOnEither (disks_of v.journal) (disks_of v'.journal)
DoesDue caller moment event TickedNoMemory v v' = v' ≡ v
DoesDue caller moment event Nothing v v' = ⊥
DoesDue caller moment event Settled v v' = ⊥

-- a command is the next event; with a fault it ends only for this cause
pub record IsTaken (caller moment : ℕ) (command : Command) (place : ℕ) (reply : Reply)
    (why : Type 0) (v v' : DatabaseView) : Type 0 where
  pub outcome : Outcome
  pub happens : Happens caller moment (CommandOf command) outcome reply v v'
  pub at_end : place ≡ length v.events
  pub cause : outcome ≡ Fault → why

abbrev pub Takes : ℕ → ℕ → Command → Answered → Type 0 → DatabaseView → DatabaseView → Type 0
Takes caller moment command (Kept place reply) why v v' = IsTaken caller moment command place reply why v v'
Takes caller moment command NoMemory why v v' = v' ≡ v

-- what is needed after a settling: what is due is done, or nothing is needed
abbrev pub ClearsBehind : ℕ → Ticked → List Happened → DatabaseView → DatabaseView → Type 0
ClearsBehind moment Nothing own v v' = ⊥
ClearsBehind moment Settled own v v' = (own ≡ []) × IsClear moment v'
ClearsBehind moment Reverted own v v' = EndsDue Revert own v v' × IsClear moment v'
ClearsBehind moment Carried own v v' = EndsDue Carry own v v' × IsClear moment v'
ClearsBehind moment DiskFault own v v' = IsSome v'.state.flight × FaultOnEither (disks_of v.journal) (disks_of v'.journal)
ClearsBehind moment TickedNoMemory own v v' = Unit {0}

pub record CatchesUp (caller moment : ℕ) (ticked : Ticked) (v v' : DatabaseView) : Type 0 where
  pub own : List Happened
  pub extends : Extends caller moment own v v'
  pub no_command : NoCommand own
  pub clears : ClearsBehind moment ticked own v v'
  pub quiet : NoneCalledBehind own v.journal v'.journal
  -- the greatest moment doesn't fall, and isn't a later one than that
  pub since : v.state.greatest ≤ v'.state.greatest
  pub no_later : v'.state.greatest ≤ moment

-- the moment of what is asked: the answer of the clock, or the greatest moment so far
abbrev pub moment_at : ℕ → DatabaseView → ℕ
moment_at answer v = max answer v.state.greatest

-- the command is the last of the events, at that place, and that is its reply
pub record IsAnswered (caller moment : ℕ) (command : Command) (place : ℕ) (reply : Reply) (own : List Happened) (v v' : DatabaseView)
    : Type 0 where
  pub front : List Happened
  pub last : Happened
  pub is_own : own ≡ front ++ last ∷ []
  pub no_command : NoCommand front
  pub asks : last.event ≡ CommandOf command
  pub at_end : place ≡ length (v.events ++ front)
  pub before : State
  pub leads : Leads v.state front before
  pub since : v.state.greatest ≤ before.greatest
  pub no_later : before.greatest ≤ moment
  pub turned : Turned
  pub steps : Steps before caller moment (CommandOf command) last.outcome turned
  pub replied : reply ≡ turned.reply
  -- it has the numbers of calls that the journal reports
  pub calls : last.calls ≡ calls_of v'.journal
  -- where it made an entry, and that is done, the file keeps to its limit, if a checkpoint and the entry fit in it
  pub trims : last.outcome ≡ Done → IfSome turned.made (λ made. KeepsLimit before.kept made.entry v'.journal)

-- a command for which memory ran out is no event, and no disk was called since the last event of the call: what resulted from a
-- disk's call is reported by an event
pub record IsUnasked (own : List Happened) (v v' : DatabaseView) : Type 0 where
  pub no_command : NoCommand own
  pub quiet : NoneCalledBehind own v.journal v'.journal

abbrev pub IsAnswer : ℕ → ℕ → Command → Answered → List Happened → DatabaseView → DatabaseView → Type 0
IsAnswer caller moment command (Kept place reply) own v v' = IsAnswered caller moment command place reply own v v'
IsAnswer caller moment command NoMemory own v v' = IsUnasked own v v'

-- a command was asked
pub record Answers (caller moment : ℕ) (command : Command) (answered : Answered)
    (v v' : DatabaseView) : Type 0 where
  pub own : List Happened
  pub extends : Extends caller moment own v v'
  pub answer : IsAnswer caller moment command answered own v v'

-- an answered command is the next event, and the last one; one for which memory ran out adds none
abbrev pub IsNext : Answered → List Happened → List Happened → Type 0
IsNext (Kept place reply) events events' = (place ≡ length events) × (length events' ≡ place + 1)
IsNext NoMemory events events' = events' ≡ events
