-- A step that is prepared and not yet carried out.
use Rattle.std.specs.Prelude.{◌≡◌, ℕ, Bool, true, if◌then◌else◌, Option, Some, None}
use Rattle.std.specs.Option.{option_map}
use Rattle.candidate.specs.Edits.{CandidateView}
use Rattle.commands.specs.declared.command.Command.{Command}
use Rattle.commit_ledger.specs.Kept.{Kept, append_entry, target_for, HasOneWaiting, NumberFits, RoomFor}
use Rattle.config_core.specs.declared.effect.Appending.{Appending}
use Rattle.config_core.specs.declared.effect.Fresh.{Fresh}
use Rattle.config_core.specs.declared.effect.Effect.{Effect}
use Rattle.config_core.specs.declared.effect.Effect.TheVariants.{Stay, Leave, Enter, Move, Edit, Settle, Append}
use Rattle.config_core.specs.declared.effect.Maker.{Maker}
use Rattle.config_core.specs.declared.effect.Maker.TheVariants.{Command as CommandBy}
use Rattle.config_core.specs.declared.event.Event.{Event}
use Rattle.config_core.specs.declared.event.Event.TheVariants.{Settle as SettleOf, Revert, Carry, Command as CommandOf}
use Rattle.config_core.specs.declared.event.Need.{Need}
use Rattle.config_core.specs.declared.event.Need.TheVariants as need
use Rattle.config_core.specs.declared.event.Outcome.{Outcome}
use Rattle.config_core.specs.declared.event.Outcome.TheVariants.{Done, Fault}
use Rattle.config_core.specs.declared.reply.Refusal.TheVariants.{DiskFault}
use Rattle.config_core.specs.declared.reply.Reply.{Reply}
use Rattle.config_core.specs.declared.reply.Reply.TheVariants.{Refused}
use Rattle.config_core.specs.Plan.{PreparedView, made_of, made_in}
use Rattle.config_core.specs.State.{State, Made, fresh_of}
use Rattle.config_core.specs.Callers.{IsCaller, holds, own_for, with_candidate, with_position, entered, without_mode}
use Rattle.config_core.specs.Entries.{fresh_in, shared_after, own_after, taken}
use Rattle.config_core.specs.Serving.{Turned, left_if}
use Rattle.config_core.specs.Machine.{Waiting, InFlight, Missed, Ready, Free, waiting_of, is_logout, settled, later, Steps}

-- the entry in flight is settled so
abbrev pub settled_in : Option Made → Bool → State → State
settled_in None is_kept s = s
settled_in (Some made) is_kept s = settled s made is_kept

-- what an effect makes of the state, by the outcome
abbrev pub effected : Effect → ℕ → Outcome → State → State
effected Stay caller outcome s = s
effected (Leave fresh) caller outcome s = without_mode s caller
effected (Enter mode own) caller outcome s = entered s caller mode
effected (Move position) caller outcome s = with_position s caller position
effected (Edit next) caller outcome s = with_candidate s caller next
effected (Settle is_kept) caller outcome s = settled_in s.flight is_kept s
effected (Append a) caller Done s = left_if a.quit caller (taken s (made_of a))
effected (Append a) caller Fault s = record s { flight = Some (made_of a) }

-- the state after the prepared step
abbrev pub applied : PreparedView → Outcome → State → State
applied plan outcome s = effected plan.effect plan.caller outcome (later s plan.moment)

-- the reply to it: an entry that isn't known to be kept is a fault of the disk
abbrev pub replied : Effect → Reply → Outcome → Reply
replied (Append a) reply Fault = Refused DiskFault
replied effect reply outcome = reply

-- what the prepared step leaves
abbrev pub ended : PreparedView → Outcome → State → Turned
ended plan outcome s = record { state = applied plan outcome s; reply = replied plan.effect plan.reply outcome; made = made_in plan.effect }

-- what it leaves where it is done
abbrev pub turned_by : PreparedView → State → Turned
turned_by plan s = record { state = applied plan Done s; reply = plan.reply; made = made_in plan.effect }

-- one candidate twice: for the sessions that share theirs, and for the one that is committed
abbrev pub twice : CandidateView → Fresh
twice new = record { shared = new; own = new }

-- what is to be appended was made ready over that value, the list has room for it, and not both wait afterwards, a run and a
-- scheduled commit
pub record IsReady (kept : Kept) (a : Appending) : Type 0 where
  pub target : a.ready.target ≡ target_for kept a.ready.entry
  pub number : NumberFits kept a.ready.entry
  pub room : RoomFor kept a.ready.entry
  pub one : HasOneWaiting (append_entry kept a.ready.entry)
  pub fresh : a.fresh ≡ option_map twice (fresh_in a.ready.entry)

-- the shared candidate when a caller leaves the mode, where what it changed is discarded
abbrev pub fresh_for : State → ℕ → Option CandidateView
fresh_for s caller = if holds s.exclusive caller then Some (fresh_of s.kept.last) else None

-- the step was prepared of such a state
abbrev pub CanApply : Effect → ℕ → State → Type 0
CanApply Stay caller s = Unit {0}
CanApply (Leave fresh) caller s = IsCaller s caller × (fresh ≡ fresh_for s caller)
CanApply (Enter mode own) caller s = IsCaller s caller × (own ≡ own_for mode s.kept)
CanApply (Move position) caller s = IsCaller s caller
CanApply (Edit next) caller s = Unit {0}
CanApply (Settle is_kept) caller s = Unit {0}
CanApply (Append a) caller s = IsReady s.kept a × (a.quit ≡ true → IsCaller s caller)

abbrev pub Follows : PreparedView → State → Type 0
Follows plan s = CanApply plan.effect plan.caller s

-- the prepared step is one of a command, where nothing comes before it
pub record Prepares (s : State) (moment : ℕ) (Step : Turned → Type 0) (plan : PreparedView) : Type 0 where
  pub at_moment : plan.moment ≡ moment
  pub follows : Follows plan s
  pub steps : Step (turned_by plan s)

-- which outcomes an event may have, by what stands before the next command and by the entry that it makes
abbrev pub CanEnd : Waiting → Event → Option Made → Outcome → Type 0
CanEnd (InFlight made) (SettleOf is_kept) entry Done = Unit {0}
CanEnd (InFlight made) (CommandOf command) entry Fault = Unit {0}
CanEnd Missed Revert entry outcome = Unit {0}
CanEnd (Ready waiting) Carry entry outcome = Unit {0}
CanEnd Free (CommandOf command) entry Done = Unit {0}
CanEnd Free (CommandOf command) (Some made) Fault = Unit {0}
CanEnd waiting event entry outcome = ⊥

-- the prepared step is one of the machine, with each outcome that the event may have
pub record IsPrepared (s : State) (caller moment : ℕ) (event : Event) (plan : PreparedView) : Type 0 where
  pub follows : Follows plan s
  pub steps : (outcome : Outcome) → CanEnd (waiting_of s moment) event (made_in plan.effect) outcome → Steps s caller moment event outcome (ended plan outcome s)

-- what comes before the next command, as it is reported
abbrev pub need_in : Waiting → Need
need_in (InFlight made) = need.Settle
need_in Missed = need.Revert
need_in (Ready waiting) = need.Carry
need_in Free = need.Nothing

-- the plan of a command that isn't done because an entry is in flight
abbrev pub put_off : State → ℕ → ℕ → Command → PreparedView
put_off s caller moment command = record {
  caller = caller;
  moment = moment;
  effect = if is_logout command then Leave (fresh_for s caller) else Stay;
  reply = Refused DiskFault;
}

-- an event settles the entry in flight
abbrev pub IsSettling : Event → Type 0
IsSettling (SettleOf is_kept) = Unit {0}
IsSettling Revert = ⊥
IsSettling Carry = ⊥
IsSettling (CommandOf command) = ⊥

-- the candidate of a commit that is to be appended
abbrev pub new_in : Option Fresh → Option CandidateView
new_in None = None
new_in (Some fresh) = Some fresh.own

-- the candidate that a caller commits is this one
abbrev pub committed_by : State → Maker → CandidateView → State
committed_by s (CommandBy caller) new = with_candidate s caller new
committed_by s maker new = s

-- the candidates after an entry
abbrev pub with_new : State → Maker → Option CandidateView → State
with_new s maker new = record s { shared = shared_after s maker new; own = own_after s maker new }

-- the shared candidate becomes another one, where there is one
abbrev pub discarded : State → Option CandidateView → State
discarded s None = s
discarded s (Some fresh) = record s { shared = fresh }
