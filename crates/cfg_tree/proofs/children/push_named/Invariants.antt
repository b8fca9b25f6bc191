use Rattle.std.proofs.Common.{◌≡◌, ◌++◌, length, map}
use Rattle.cfg_tree.specs.Tree.{step_of}
use Rattle.cfg_tree.proofs.children.push_named.Given as goal

abbrev pub invariant-loop-name : goal.invariant-loop-name
invariant-loop-name l = l.steps.items ++ map (step_of l.head) l.left ≡ l.initial.steps.items ++ map (step_of l.head) l.names

abbrev pub decreases-loop-name : goal.decreases-loop-name
decreases-loop-name l = length l.left
