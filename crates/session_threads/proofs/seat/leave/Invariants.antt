use Rattle.session_threads.specs.Passes.{Waited}
use Rattle.session_threads.proofs.seat.leave.Given as goal

abbrev pub invariant-loop : goal.invariant-loop
invariant-loop g l = Waited l.initial.pass l.pass
