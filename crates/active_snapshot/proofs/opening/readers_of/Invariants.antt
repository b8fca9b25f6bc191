use Rattle.std.proofs.Common.{◌≡◌, replicate}
use Rattle.active_snapshot.proofs.opening.readers_of.Given as goal

abbrev pub invariant-loop : goal.invariant-loop
invariant-loop g l = l.made.items ≡ replicate l.counter (record { list = l.slot.list; told = l.slot.list })
