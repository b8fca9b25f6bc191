-- Histories that one caller made alone, in which no disk failed. This project's own.
use Rattle.std.specs.Prelude.{◌≡◌, ℕ, List, map, Bool, true, false, None}
use Rattle.std.specs.List.{AllByRecursion}
use Rattle.config_core.specs.declared.event.Event.{Event}
use Rattle.config_core.specs.declared.event.Event.TheVariants.{Settle, Revert, Carry, Command as CommandOf}
use Rattle.config_core.specs.declared.event.Outcome.TheVariants.{Done}
use Rattle.config_core.specs.State.{State}
use Rattle.session_history.specs.declared.history.Happened.{Happened}
use Rattle.session_history.specs.Events.{IsLegal}
use Rattle.session_threads.specs.Access.{Asker}

-- a caller of a run whose words ask for nobody's rights
abbrev pub unasked : State → ℕ → Asker
unasked opening caller = record { opening = opening; caller = caller; asks = None }

-- an event settles what is in flight
abbrev pub is_settling : Event → Bool
is_settling (Settle is_kept) = true
is_settling Revert = false
is_settling Carry = false
is_settling (CommandOf command) = false

-- an event is done, and settles nothing: no entry was in flight
abbrev pub IsCalm : Happened → Type 0
IsCalm event = (event.outcome ≡ Done) × (is_settling event.event ≡ false)

-- a legal history that one caller made alone, and in which no disk failed
pub record IsAlone (opening : State) (caller : ℕ) (events : List Happened) : Type 0 where
  pub legal : IsLegal opening events
  pub own : AllByRecursion (λ event. event.caller ≡ caller) events
  pub calm : AllByRecursion IsCalm events

-- an event but for the numbers of calls
abbrev pub uncounted : Happened → Happened
uncounted event = record event { calls = record { a = 0; b = 0 } }

-- two histories have the same events but for the numbers of calls
abbrev pub AreAlike : List Happened → List Happened → Type 0
AreAlike events events' = map uncounted events ≡ map uncounted events'
