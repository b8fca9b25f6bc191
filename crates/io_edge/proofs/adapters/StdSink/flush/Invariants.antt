use Rattle.std.proofs.Common.{◌≡◌}
use Rattle.io_edge.proofs.adapters.StdSink.flush.Given as goal

abbrev pub invariant-loop : goal.invariant-loop
invariant-loop g l = l.self.faults ≡ l.fn.self.faults
