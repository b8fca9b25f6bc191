use Rattle.session_threads.specs.Looks.{ticker_view}
use Rattle.session_threads.proofs.TickLemmas.{IsFirst-then, TicksOn-then, TicksSoFar-none, TicksSoFar-then}
use Rattle.session_threads.proofs.ticking.tick_along.Goals as goal

pub loop-init : goal.loop-init
loop-init g c first is =
    TicksSoFar-none first c.args.pass.now (ticker_view g.B.Beat.coming g.C.Clock.coming c.args.ticker.now) is.own

pub look-requires : goal.look-requires
look-requires g c =
    let start = c.requires in (
      start.0,
      IsFirst-then c.args.lock.now start.0 c.args.pass.now c.loop.pass start.1 (c.loop.invariant start.0 start.1).goes,
    )

pub returns-then-not-look : goal.returns-then-not-look
returns-then-not-look g c first is =
    let see = ticker_view g.B.Beat.coming g.C.Clock.coming in
    let far = c.loop.invariant first is in
    TicksOn-then first c.args.pass.now c.loop.pass c.look.new.pass (see c.args.ticker.now) (see c.loop.ticker) (see c.look.new.ticker) far
    (c.if-not-look.ensures first (IsFirst-then c.args.lock.now first c.args.pass.now c.loop.pass is far.goes))

pub loop-preserved : goal.loop-preserved
loop-preserved g c first is =
    let see = ticker_view g.B.Beat.coming g.C.Clock.coming in
    let far = c.loop.invariant first is in
    TicksSoFar-then first c.args.pass.now c.loop.pass c.look.new.pass (see c.args.ticker.now) (see c.loop.ticker) (see c.look.new.ticker) far
    (c.if-not-look.ensures first (IsFirst-then c.args.lock.now first c.args.pass.now c.loop.pass is far.goes))
