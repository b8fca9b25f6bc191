use Rattle.std.proofs.Common.{◌≡◌, ◌≤◌, length, drop}
use Rattle.group_expand.specs.Row.{Counted, Ordered, AreToldByDepth, pairs_of}
use Rattle.group_expand.proofs.row.size_all.Given as goal

abbrev pub invariant-loop-at : goal.invariant-loop-at
invariant-loop-at l =
    (l.at ≤ length l.row.items) × Counted (drop l.at l.row.items) × Ordered l.row.items × (pairs_of l.row.items ≡ pairs_of l.initial.row.items)
    × AreToldByDepth l.row.items

abbrev pub decreases-loop-at : goal.decreases-loop-at
decreases-loop-at l = l.at
