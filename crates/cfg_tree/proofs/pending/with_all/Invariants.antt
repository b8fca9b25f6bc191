use Rattle.std.proofs.Common.{◌≡◌, ◌++◌, length}
use Rattle.cfg_tree.proofs.pending.with_all.Given as goal

abbrev pub invariant-loop-word : goal.invariant-loop-word
invariant-loop-word l = l.all.items ++ l.left ≡ l.fn.words.items ++ l.given

abbrev pub decreases-loop-word : goal.decreases-loop-word
decreases-loop-word l = length l.left
