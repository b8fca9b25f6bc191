use Rattle.std.proofs.Common.{◌≡◌, length, Some}
use Rattle.std.specs.FinMap as map
use Rattle.std.specs.List.{AllByRecursion}
use Rattle.commit_check.specs.Groups.{names_no_group}
use Rattle.commit_check.specs.First.{first_of}
use Rattle.commit_check.proofs.groups.first_unknown.Given as goal

-- what is left to be found is what was to be found, and what is left stands in the tree
abbrev pub invariant-loop-path : goal.invariant-loop-path
invariant-loop-path l =
    (first_of (λ e. names_no_group l.tree e.0) l.left ≡ first_of (λ e. names_no_group l.tree e.0) (map.entries l.tree))
    × AllByRecursion (λ e. map.get l.tree e.0 ≡ Some e.1) l.left

abbrev pub decreases-loop-path : goal.decreases-loop-path
decreases-loop-path l = length l.left
