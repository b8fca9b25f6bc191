use Rattle.std.proofs.Common.{◌+◌, ◌≤◌, length}
use Rattle.std.specs.FinMap as map
use Rattle.std.specs.List.{sum_by}
use Rattle.curly_print.specs.Length.{entry_len}
use Rattle.curly_print.proofs.lengths.is_surely_within.Given as goal

abbrev pub invariant-loop-path : goal.invariant-loop-path
invariant-loop-path l = l.free + sum_by (entry_len l.tree) (map.entries l.tree) ≤ l.most + sum_by (entry_len l.tree) l.left

abbrev pub decreases-loop-path : goal.decreases-loop-path
decreases-loop-path l = length l.left
