-- One event of the machine in memory, where it is done while no disk is called. This project's own.
use Rattle.std.specs.Prelude.{◌≡◌, ℕ, List, [], ◌∷◌, ◌++◌, length, None}
use Rattle.config_core.specs.declared.event.Event.{Event}
use Rattle.config_core.specs.declared.event.Outcome.TheVariants.{Done}
use Rattle.config_core.specs.declared.reply.Reply.{Reply}
use Rattle.config_core.specs.State.{State}
use Rattle.config_core.specs.Serving.{Turned}
use Rattle.config_core.specs.Machine.{Fits, Steps}
use Rattle.session_history.specs.declared.history.Happened.{Happened}

-- an event that is done while no disk is called
abbrev pub done_event : ℕ → ℕ → Event → Happened
done_event caller moment event =
    record { caller = caller; moment = moment; event = event; outcome = Done; calls = record { a = 0; b = 0 } }

-- an event was carried out, and put after the events
pub record Happens (caller moment : ℕ) (event : Event) (reply : Reply) (s s' : State)
    (events events' : List Happened) : Type 0 where
  pub turned : Turned
  pub fits : Fits s caller moment event
  pub steps : Steps s caller moment event Done turned
  pub state : s' ≡ turned.state
  pub replied : reply ≡ turned.reply
  pub grown : events' ≡ events ++ done_event caller moment event ∷ []
  pub free : s'.flight ≡ None
  pub callers : length s'.callers ≡ length s.callers
