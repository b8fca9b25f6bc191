-- The ticker, which looks at the time at each beat. This project's own.
use Rattle.std.specs.Prelude.{◌≡◌, ◌≢◌, ◌⊎◌, ℕ, Bool, true, false, Option}
use Rattle.session_history.specs.Events.{NoCommand}
use Rattle.std.specs.Prelude.{List, [], ◌∷◌, ◌++◌, length, replicate}
use Rattle.std.specs.List.{AllByRecursion}
use Rattle.config_core.specs.State.{State}
use Rattle.io_edge.specs.Ends.{TakesAnswer}
use Rattle.session_history.specs.declared.history.Happened.{Happened}
use Rattle.session_threads.specs.declared.ticking.Ticker.{Ticker}
use Rattle.session_threads.specs.History.{Grows}

-- these are the next answers of a beat or of a clock, in order
abbrev pub TakesLook : {A : Type 0} → Option (ℕ → A) → List A → Option (ℕ → A) → Type 0
TakesLook before [] now = now ≡ before
TakesLook {A} before (answer ∷ answers) now = (next : Option (ℕ → A)) × TakesAnswer before next answer × TakesLook next answers now

-- one look at the time: others' events came, and then what was due at the clock's answer, none of it a command
pub record LooksOnce (opening : State) (answer : ℕ) (events events' : List Happened) : Type 0 where
  pub grows : Grows opening 0 answer events events'
  pub no_command : NoCommand grows.own

-- a look that came after nobody else's events
pub record LooksAlone (opening : State) (answer : ℕ) (events events' : List Happened) : Type 0 where
  pub looks : LooksOnce opening answer events events'
  pub alone : looks.grows.others ≡ []

-- looks at these answers of the clock, one after another
abbrev pub Looks : State → List ℕ → List Happened → List Happened → Type 0
Looks opening [] events events' = events' ≡ events
Looks opening (answer ∷ answers) events events' =
    (next : List Happened) × LooksOnce opening answer events next × Looks opening answers next events'

-- each look had a beat that called for it; one more may have said that none is due
abbrev pub CallFor : List Bool → ℕ → Type 0
CallFor beats looks = (beats ≡ replicate looks true) ⊎ (beats ≡ replicate looks true ++ false ∷ [])

-- what is told of a ticker: the answers to come of its beat and of its clock
pub record TickerView : Type 0 where
  pub due : Option (ℕ → Bool)
  pub coming : Option (ℕ → ℕ)

abbrev pub ticker_view : {B C : Type 0} → (B → Option (ℕ → Bool)) → (C → Option (ℕ → ℕ)) → Ticker B C → TickerView
ticker_view due coming ticker = record { due = due ticker.beat; coming = coming ticker.clock }

-- a ticker's beat and its clock gave these answers, and it looked at the time at those of the clock
pub record AreLooks (opening : State) (beats : List Bool) (answers : List ℕ) (old new : TickerView) (events events' : List Happened)
    : Type 0 where
  pub beat_told : TakesLook old.due beats new.due
  pub clock_told : TakesLook old.coming answers new.coming
  pub looks : Looks opening answers events events'

-- a ticker looked at the time, as often as its beat called for it
pub record HasLooked (opening : State) (old new : TickerView) (events events' : List Happened) : Type 0 where
  pub beats : List Bool
  pub answers : List ℕ
  pub called : CallFor beats (length answers)
  pub are_looks : AreLooks opening beats answers old new events events'

-- the ticker's looks, over a part of the events of a run, which has all events of caller 0
pub record HasTicked (opening : State) (old new : TickerView) (events : List Happened) : Type 0 where
  pub seen : List Happened
  pub later : List Happened
  pub begins : events ≡ seen ++ later
  pub none_later : AllByRecursion (λ event. event.caller ≢ 0) later
  pub looked : HasLooked opening old new [] seen
