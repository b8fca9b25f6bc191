use Rattle.session_threads.specs.Looks.{ticker_view}
use Rattle.session_threads.proofs.TickLemmas.{Ticks-look}
use Rattle.session_threads.proofs.ticking.look.Goals as goal

pub returns : goal.returns
returns g c first is =
    Ticks-look c.args.lock.now first c.args.pass.now c.turn.new.pass (ticker_view g.B.Beat.coming g.C.Clock.coming c.args.ticker.now)
    (record { due = g.B.Beat.coming c.beat.new.self; coming = g.C.Clock.coming c.now-moment.new.self }) c.now-moment.result c.turn.result is
    c.if-not-beat.ensures c.now-moment.ensures c.turn.ensures
