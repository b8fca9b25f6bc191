use Rattle.std.proofs.Common.{◌∙◌, refl}
use Rattle.session_threads.proofs.SeatLemmas.{Waited-same}
use Rattle.session_threads.proofs.seat.leave.Goals as goal

pub loop-init : goal.loop-init
loop-init g c = Waited-same c.args.pass.now c.requires.1

pub ask_leave-requires : goal.ask_leave-requires
ask_leave-requires g c = c.loop.invariant.goes.lock ∙ c.requires.0

pub returns-then-ask_leave : goal.returns-then-ask_leave
returns-then-ask_leave g c = λ first fixed. record {
  waited = c.if-ask_leave.ensures.waited c.args.pass.now c.loop.invariant;
  within = c.if-ask_leave.ensures.within first (c.loop.invariant.goes.fixed ∙ fixed) refl;
}

pub loop-preserved : goal.loop-preserved
loop-preserved g c = c.if-ask_leave.ensures.waited c.args.pass.now c.loop.invariant
