use Rattle.std.proofs.Common.{◌≡◌, ◌++◌, length}
use Rattle.cfg_tree.specs.Change.{without}
use Rattle.edit_ops.specs.Change.{with_beside}
use Rattle.edit_ops.proofs.insert.moved_beside.Given as goal

abbrev pub invariant-loop-other : goal.invariant-loop-other
invariant-loop-other l =
    l.moved ++ with_beside l.before l.name l.anchor (without l.name l.left) ≡ with_beside l.before l.name l.anchor (without l.name l.names)

abbrev pub decreases-loop-other : goal.decreases-loop-other
decreases-loop-other l = length l.left
