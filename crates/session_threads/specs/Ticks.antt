-- The pass of the ticker, before and after its looks. This project's own.
use Rattle.std.specs.Prelude.{◌≡◌, ◌⊎◌, ℕ, Bool, true, false, List, [], ◌∷◌, Some}
use Rattle.atomic_table.specs.Seated.{TableId}
use Rattle.config_core.specs.State.{State}
use Rattle.config_db.specs.View.{DatabaseView, opened}
use Rattle.session_history.specs.declared.history.Happened.{Happened}
use Rattle.session_threads.specs.Looks.{AreLooks, HasLooked, TickerView}
use Rattle.session_threads.specs.Passes.{CallerPass, KnowsOwn, WentOn, events_seen}

-- the pass of the ticker, which is caller 0
pub record IsTickersPass (lock : TableId) (first : DatabaseView) (pass : CallerPass) : Type 0 where
  pub here : pass.lock ≡ lock
  pub fixed : pass.fixed ≡ Some first
  pub nobodys : pass.caller ≡ 0
  pub own : KnowsOwn pass

-- one look, which the beat called for
abbrev pub IsLook : State → TickerView → TickerView → List Happened → List Happened → Type 0
IsLook opening old new events events' = (answer : ℕ) × AreLooks opening (true ∷ []) (answer ∷ []) old new events events'

-- one round of the ticker: it looked at the time, or, where it is the last one, its beat may have said that no look is due
abbrev pub IsRound : State → Bool → TickerView → TickerView → List Happened → List Happened → Type 0
IsRound opening true old new events events' = IsLook opening old new events events'
IsRound opening false old new events events' =
    IsLook opening old new events events' ⊎ AreLooks opening (false ∷ []) [] old new events events'

-- the ticker took at most one turn
pub record Ticks (goes_on : Bool) (first : DatabaseView) (old new : CallerPass) (ticker ticker' : TickerView) : Type 0 where
  pub goes : WentOn old new
  pub round : IsRound (opened first) goes_on ticker ticker' (events_seen old) (events_seen new)

-- the ticker took turns
pub record TicksOn (first : DatabaseView) (old new : CallerPass) (ticker ticker' : TickerView) : Type 0 where
  pub goes : WentOn old new
  pub looked : HasLooked (opened first) ticker ticker' (events_seen old) (events_seen new)
