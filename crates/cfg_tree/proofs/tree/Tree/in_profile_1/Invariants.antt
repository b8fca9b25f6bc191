use Rattle.std.proofs.Common.{length}
use Rattle.std.specs.FinMap as map
use Rattle.std.specs.List.{AllByRecursion}
use Rattle.cfg_tree.proofs.FirstLemmas.{is_first_entry}
use Rattle.cfg_tree.proofs.tree.Tree.in_profile_1.Given as goal

-- the statements are of the first profile where those that are left are
abbrev pub invariant-loop-path : goal.invariant-loop-path
invariant-loop-path l =
    (AllByRecursion is_first_entry l.left → AllByRecursion is_first_entry (map.entries l.self))
    × (AllByRecursion is_first_entry (map.entries l.self) → AllByRecursion is_first_entry l.left)

abbrev pub decreases-loop-path : goal.decreases-loop-path
decreases-loop-path l = length l.left
