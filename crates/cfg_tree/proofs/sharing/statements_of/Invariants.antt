use Rattle.std.proofs.Common.{◌≡◌, ◌++◌, length}
use Rattle.cfg_tree.proofs.sharing.statements_of.Given as goal

abbrev pub invariant-loop-path : goal.invariant-loop-path
invariant-loop-path l = l.items.items ++ l.left ≡ l.initial.left

abbrev pub decreases-loop-path : goal.decreases-loop-path
decreases-loop-path l = length l.left
