use Rattle.std.proofs.Common.{◌≡◌, ◌++◌, length}
use Rattle.std.specs.FinMap as map
use Rattle.std.specs.Option.{option_copied}
use Rattle.load_ops.specs.Parts.{entries_left}
use Rattle.load_ops.proofs.LeftLemmas.{Passed}
use Rattle.load_ops.proofs.left.statements_left.Given as goal

abbrev pub invariant-loop-path : goal.invariant-loop-path
invariant-loop-path l =
    Passed l.tags (option_copied l.gone) l.left
    × (l.items.items ++ entries_left l.tags l.left ≡ entries_left l.tags (map.entries l.tree))

abbrev pub decreases-loop-path : goal.decreases-loop-path
decreases-loop-path l = length l.left
