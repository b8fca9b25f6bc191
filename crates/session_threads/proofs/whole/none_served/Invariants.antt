use Rattle.std.proofs.Common.{◌≡◌, ◌≤◌, [], length, replicate, vec_capacity}
use Rattle.session_threads.proofs.whole.none_served.Given as goal

abbrev pub invariant-loop : goal.invariant-loop
invariant-loop g l = (l.turns.items ≡ replicate l.counter []) × (length l.ends.items ≤ vec_capacity l.turns)
