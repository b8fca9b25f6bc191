use Rattle.std.proofs.Common.{◌≡◌, ◌++◌, length, filter}
use Rattle.std.specs.FinMap as map
use Rattle.kept_expansion.specs.Part.{in_part}
use Rattle.kept_expansion.proofs.part.statements_of.Given as goal

abbrev pub invariant-loop-path : goal.invariant-loop-path
invariant-loop-path l = l.items.items ++ filter (λ e. in_part l.roots e.0) l.left ≡ filter (λ e. in_part l.roots e.0) (map.entries l.tree)

abbrev pub decreases-loop-path : goal.decreases-loop-path
decreases-loop-path l = length l.left
