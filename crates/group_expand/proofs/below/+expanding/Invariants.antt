use Rattle.std.proofs.Common.{◌≡◌, ◌++◌, ◌+◌, ◌-◌, ◌*◌, length}
use Rattle.std.specs.Prelude.{flat_map}
use Rattle.group_expand.specs.Runs.{steps_of}
use Rattle.group_expand.specs.Placed.{given_for}
use Rattle.group_expand.proofs.StepsLemmas.{IsRunWay}
use Rattle.group_expand.proofs.below.+expanding.Given as goal

abbrev pub decreases-expand_level : goal.decreases-expand_level
decreases-expand_level l = 3 * l.levels

abbrev pub decreases-expand_run : goal.decreases-expand_run
decreases-expand_run l = 3 * l.levels + 2

abbrev pub decreases-expand_path : goal.decreases-expand_path
decreases-expand_path l = 3 * l.levels + 1

abbrev pub invariant-expand_level-loop-left : goal.invariant-expand_level-loop-left
invariant-expand_level-loop-left l =
    (l.maker ++ flat_map (given_for l.plan (l.levels - 1) l.path) (steps_of l.left) ≡ l.fn.made ++ flat_map (given_for l.plan (l.levels - 1) l.path) (steps_of l.level.plain))
    × IsRunWay l.level.plain l.left

abbrev pub decreases-expand_level-loop-left : goal.decreases-expand_level-loop-left
decreases-expand_level-loop-left l = length l.left
