use Rattle.std.proofs.Common.{◌≡◌, ◌++◌, length}
use Rattle.std.specs.FinMap as map
use Rattle.group_expand.specs.Row.{pairs_of}
use Rattle.group_expand.proofs.row.gathered.Given as goal

abbrev pub invariant-loop-path : goal.invariant-loop-path
invariant-loop-path l = pairs_of l.row.items ++ l.walk ≡ map.entries l.tree

abbrev pub decreases-loop-path : goal.decreases-loop-path
decreases-loop-path l = length l.walk
