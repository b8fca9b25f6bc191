use Rattle.std.proofs.Common.{length}
use Rattle.std.specs.Prelude.{Contains}
use Rattle.std.specs.List.{AllByRecursion}
use Rattle.cfg_tree.specs.FirstProfile.{first_permissions}
use Rattle.cfg_tree.proofs.first_profile.are_first_permissions.Given as goal

-- the words are permissions of the first profile where those that are left are
abbrev pub invariant-loop-word : goal.invariant-loop-word
invariant-loop-word l =
    (AllByRecursion (Contains first_permissions) l.left → AllByRecursion (Contains first_permissions) l.words)
    × (AllByRecursion (Contains first_permissions) l.words → AllByRecursion (Contains first_permissions) l.left)

abbrev pub decreases-loop-word : goal.decreases-loop-word
decreases-loop-word l = length l.left
