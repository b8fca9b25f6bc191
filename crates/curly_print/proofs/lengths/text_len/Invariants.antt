use Rattle.std.proofs.Common.{length}
use Rattle.curly_print.proofs.WalkLemmas.{IsWalk, pending}
use Rattle.curly_print.proofs.lengths.text_len.Given as goal

-- so much is counted, and what is left of the walk is the end of the tree's entries
abbrev pub invariant-loop-last : goal.invariant-loop-last
invariant-loop-last l = IsWalk l.tree l.total (pending l.last l.left)

abbrev pub decreases-loop-last : goal.decreases-loop-last
decreases-loop-last l = length (pending l.last l.left)
