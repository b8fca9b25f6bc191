use Rattle.std.proofs.Common.{◌≡◌, ◌++◌, ◌∷◌, [], filter, not, length}
use Rattle.cfg_tree.specs.Tree.{step_of}
use Rattle.load_ops.specs.Left.{is_tagged}
use Rattle.load_ops.proofs.left.untagged.Given as goal

abbrev pub invariant-loop-name : goal.invariant-loop-name
invariant-loop-name l =
    l.order ++ filter (λ name. not (is_tagged l.tags (l.path ++ step_of l.head name ∷ []))) l.left
    ≡ filter (λ name. not (is_tagged l.tags (l.path ++ step_of l.head name ∷ []))) l.names

abbrev pub decreases-loop-name : goal.decreases-loop-name
decreases-loop-name l = length l.left
