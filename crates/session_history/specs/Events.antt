-- The events of a run, as the machine takes them one by one. This project's own.
use Rattle.std.specs.Prelude.{◌≡◌, ℕ, ◌+◌, ◌==◌, ◌<◌, ◌&&◌, Bool, true, false, List, [], ◌∷◌, length, take, if◌then◌else◌, Some, slice_get, max}
use Rattle.std.specs.List.{AllByRecursion}
use Rattle.commands.specs.declared.command.Command.{Command}
use Rattle.config_core.specs.declared.event.Event.{Event}
use Rattle.config_core.specs.declared.event.Event.TheVariants.{Settle, Revert, Carry, Command as CommandOf}
use Rattle.config_core.specs.declared.reply.Reply.{Reply}
use Rattle.config_core.specs.State.{State, IsActiveAccepted}
use Rattle.config_core.specs.Serving.{Turned}
use Rattle.config_core.specs.Machine.{Fits, Steps}
use Rattle.session_history.specs.declared.history.Happened.{Happened}

-- the events lead from one state to the other: each fits the state before it and is a step of the machine with its outcome
abbrev pub Leads : State → List Happened → State → Type 0
Leads s [] last = last ≡ s
Leads s (event ∷ events) last =
    Fits s event.caller event.moment event.event × (turned : Turned)
    × Steps s event.caller event.moment event.event event.outcome turned × Leads turned.state events last

-- the events lead to some state
abbrev pub IsLegal : State → List Happened → Type 0
IsLegal s events = (last : State) × Leads s events last

-- the event at that place is this one; the events before it lead to this state, and this is its reply there
pub record IsAt (s : State) (events : List Happened) (place : ℕ) (before : State) (event : Happened) (reply : Reply) : Type 0 where
  pub within : place < length events
  pub is : slice_get events place ≡ Some event
  pub leads : Leads s (take place events) before
  pub turned : Turned
  pub steps : Steps before event.caller event.moment event.event event.outcome turned
  pub replied : reply ≡ turned.reply

-- the event at that place is the caller's command, made at the greater of the clock's answer and the greatest moment before it,
-- and this is its reply
pub record IsAskedAt (s : State) (events : List Happened) (place caller answer : ℕ) (command : Command) (reply : Reply) : Type 0 where
  pub before : State
  pub event : Happened
  pub is_at : IsAt s events place before event reply
  pub own : event.caller ≡ caller
  pub when : event.moment ≡ max answer before.greatest
  pub asks : event.event ≡ CommandOf command

-- an event is a command; a settling, a revert or a scheduled commit isn't
abbrev pub is_command : Event → Bool
is_command (CommandOf command) = true
is_command (Settle is_kept) = false
is_command Revert = false
is_command Carry = false

-- no event is a command
abbrev pub NoCommand : List Happened → Type 0
NoCommand events = AllByRecursion (λ event. is_command event.event ≡ false) events

-- an event is a caller's, at that moment
abbrev pub IsEventOf : ℕ → ℕ → Happened → Type 0
IsEventOf caller moment event = (event.caller ≡ caller) × (event.moment ≡ moment)

-- an event is a command of that caller
abbrev pub is_asked_by : ℕ → Happened → Bool
is_asked_by caller event = is_command event.event && (event.caller == caller)

-- the places of a caller's commands, of the events that stand from a place on
abbrev pub places_from : ℕ → ℕ → List Happened → List ℕ
places_from place caller [] = []
places_from place caller (event ∷ events) =
    if is_asked_by caller event
    then place ∷ places_from (place + 1) caller events
    else places_from (place + 1) caller events

-- the places of a caller's commands
abbrev pub places_of : ℕ → List Happened → List ℕ
places_of caller events = places_from 0 caller events

-- the events lead to a state whose active configuration is accepted
pub record LeadsAccepted (s : State) (events : List Happened) : Type 0 where
  pub last : State
  pub leads : Leads s events last
  pub accepted : IsActiveAccepted last

-- the active configuration is accepted at the opening and after every event: the first events lead to such a state, however
-- many they are
abbrev pub StaysAccepted : State → List Happened → Type 0
StaysAccepted s events = (count : ℕ) → LeadsAccepted s (take count events)
