-- One step of the machine: what an event makes of the state by its outcome, and the reply to it.
-- That a command waits for the entry in flight, for a missed deadline and for a scheduled commit, and what a fault leaves, is this
-- project's own; Junos OS CLI User Guide, on commit confirmed and commit at, says what a missed deadline and a scheduled commit do.
use Rattle.std.specs.Prelude.{◌≡◌, ◌≢◌, ℕ, ◌≤◌, ◌<◌, Bool, true, false, if◌then◌else◌, Decides, Option, None, Some}
use Rattle.commands.specs.Sound.{IsSound}
use Rattle.commands.specs.declared.command.Command.{Command}
use Rattle.commands.specs.declared.command.Command.TheVariants.{Logout}
use Rattle.commit_ledger.specs.declared.entry.Scheduled.{Scheduled}
use Rattle.commit_ledger.specs.Kept.{is_revert_due, ready_in}
use Rattle.config_core.specs.declared.event.Event.{Event}
use Rattle.config_core.specs.declared.event.Event.TheVariants.{Settle, Revert, Carry, Command as CommandOf}
use Rattle.config_core.specs.declared.event.Outcome.{Outcome}
use Rattle.config_core.specs.declared.event.Outcome.TheVariants.{Done, Fault}
use Rattle.config_core.specs.declared.reply.Refusal.TheVariants.{DiskFault}
use Rattle.config_core.specs.declared.reply.Reply.TheVariants.{Done as SaysDone, Refused}
use Rattle.config_core.specs.State.{State, Made}
use Rattle.config_core.specs.Callers.{IsCaller, without_mode}
use Rattle.config_core.specs.Entries.{carry_made, revert_made, taken}
use Rattle.config_core.specs.Serving.{Turned, answered, refused, Serves}

abbrev pub is_logout : Command → Bool
is_logout Logout = true
is_logout command = false

-- what stands before the next command: an entry in flight; or, with none, a missed deadline; or a scheduled commit whose time has
-- come; or nothing
pub data Waiting : Type 0 where
  InFlight : Made → Waiting
  Missed : Waiting
  Ready : Scheduled → Waiting
  Free : Waiting

abbrev pub ready_or_free : Option Scheduled → Waiting
ready_or_free None = Free
ready_or_free (Some waiting) = Ready waiting

abbrev pub waiting_for : Option Made → Bool → Option Scheduled → Waiting
waiting_for (Some made) missed ready = InFlight made
waiting_for None missed ready = if missed then Missed else ready_or_free ready

abbrev pub waiting_of : State → ℕ → Waiting
waiting_of s moment = waiting_for s.flight (is_revert_due s.kept moment) (ready_in s.kept moment)

-- the entry in flight is kept, and has all its effects but for leaving the mode; or it is dropped
abbrev pub settled : State → Made → Bool → State
settled s made is_kept = if is_kept then taken s made else record s { flight = None }

-- a missed deadline commits the map from before the unconfirmed run
abbrev pub reverted : State → Turned
reverted s = record { state = taken s (revert_made s); reply = SaysDone; made = Some (revert_made s) }

-- a scheduled commit becomes one, of the map that it was scheduled with
abbrev pub carried : State → Scheduled → Bool → Turned
carried s waiting same = record { state = taken s (carry_made s waiting same); reply = SaysDone; made = Some (carry_made s waiting same) }

-- the state of a command that isn't done: a logout leaves the mode all the same
abbrev pub left_by : State → ℕ → Command → State
left_by s caller command = if is_logout command then without_mode s caller else s

-- the entry that would have been appended is in flight, and nothing else happened
pub record IsPutInFlight (s : State) (done turned : Turned) : Type 0 where
  pub made : Made
  pub makes : done.made ≡ Some made
  pub is : turned ≡ record { state = record s { flight = Some made }; reply = Refused DiskFault; made = Some made }

-- what is left of what was to be done, by the outcome
abbrev pub Ends : Outcome → State → Turned → Turned → Type 0
Ends Done s done turned = turned ≡ done
Ends Fault s done turned = IsPutInFlight s done turned

-- a scheduled commit becomes one, and so ends; it is told whether the shared candidate has its map
pub record Carries (s : State) (waiting : Scheduled) (outcome : Outcome) (turned : Turned) : Type 0 where
  pub same : Bool
  pub told : Decides same (s.shared.map ≡ waiting.tree)
  pub ends : Ends outcome s (carried s waiting same) turned

-- a command ends so
pub record Completes (s : State) (caller : ℕ) (command : Command) (outcome : Outcome) (turned : Turned) : Type 0 where
  pub done : Turned
  pub serves : Serves s caller command done
  pub ends : Ends outcome s done turned

-- one step, by what stands before the next command, by the event and by its outcome; no other event fits
abbrev pub StepsFrom : Waiting → State → ℕ → Event → Outcome → Turned → Type 0
StepsFrom (InFlight made) s caller (Settle is_kept) Done turned = turned ≡ answered (settled s made is_kept) SaysDone
StepsFrom (InFlight made) s caller (CommandOf command) Fault turned = turned ≡ refused (left_by s caller command) DiskFault
StepsFrom Missed s caller Revert outcome turned = Ends outcome s (reverted s) turned
StepsFrom (Ready waiting) s caller Carry outcome turned = Carries s waiting outcome turned
StepsFrom Free s caller (CommandOf command) outcome turned = Completes s caller command outcome turned
StepsFrom waiting s caller event outcome turned = ⊥

-- the state at a later moment
abbrev pub later : State → ℕ → State
later s moment = record s { greatest = moment }

-- one step: the event is made at a moment, which is the state's greatest from then on
abbrev pub Steps : State → ℕ → ℕ → Event → Outcome → Turned → Type 0
Steps s caller moment event outcome turned = StepsFrom (waiting_of s moment) (later s moment) caller event outcome turned

-- which events fit what stands before the next command, with some outcome
abbrev pub FitsIn : Waiting → Event → Type 0
FitsIn (InFlight made) (Settle is_kept) = Unit {0}
FitsIn (InFlight made) (CommandOf command) = Unit {0}
FitsIn Missed Revert = Unit {0}
FitsIn (Ready waiting) Carry = Unit {0}
FitsIn Free (CommandOf command) = Unit {0}
FitsIn waiting event = ⊥

-- a command is a caller's, and one that a session may ask
abbrev pub IsAskable : State → ℕ → Event → Type 0
IsAskable s caller (CommandOf command) = IsCaller s caller × IsSound command
IsAskable s caller (Settle is_kept) = Unit {0}
IsAskable s caller Revert = Unit {0}
IsAskable s caller Carry = Unit {0}

-- an event is no command of a caller: it is one of another caller, and they are numbered from 1, or it is a settling, a revert or
-- a scheduled commit, in whoever's turn it comes
abbrev pub IsNotAskedBy : ℕ → ℕ → Event → Type 0
IsNotAskedBy other caller (CommandOf command) = (0 < caller) × (other ≢ caller)
IsNotAskedBy other caller (Settle is_kept) = Unit {0}
IsNotAskedBy other caller Revert = Unit {0}
IsNotAskedBy other caller Carry = Unit {0}

-- which events fit: at no earlier moment than the last
pub record Fits (s : State) (caller moment : ℕ) (event : Event) : Type 0 where
  pub no_earlier : s.greatest ≤ moment
  pub askable : IsAskable s caller event
  pub fits : FitsIn (waiting_of s moment) event
