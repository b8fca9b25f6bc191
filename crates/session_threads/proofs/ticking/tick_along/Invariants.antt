use Rattle.config_db.specs.View.{DatabaseView}
use Rattle.session_threads.specs.Ticks.{IsTickersPass}
use Rattle.session_threads.specs.Looks.{ticker_view}
use Rattle.session_threads.proofs.TickLemmas.{TicksSoFar}
use Rattle.session_threads.proofs.ticking.tick_along.Given as goal

abbrev pub invariant-loop : goal.invariant-loop
invariant-loop g l = (first : DatabaseView) → IsTickersPass l.lock first l.initial.pass
    → TicksSoFar first l.initial.pass l.pass (ticker_view g.B.Beat.coming g.C.Clock.coming l.initial.ticker)
    (ticker_view g.B.Beat.coming g.C.Clock.coming l.ticker)
