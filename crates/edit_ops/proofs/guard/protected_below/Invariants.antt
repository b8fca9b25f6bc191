use Rattle.edit_ops.proofs.GuardLemmas.{Passed, count_after}
use Rattle.edit_ops.proofs.guard.protected_below.Given as goal

abbrev pub invariant-loop-next : goal.invariant-loop-next
invariant-loop-next l = Passed l.tree l.path l.before

abbrev pub decreases-loop-next : goal.decreases-loop-next
decreases-loop-next l = count_after l.tree l.before
