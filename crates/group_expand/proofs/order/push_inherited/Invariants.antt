use Rattle.std.proofs.Common.{◌≡◌, ◌++◌, filter, map, length}
use Rattle.cfg_base.specs.declared.path.Step.{Step}
use Rattle.group_expand.specs.Level.{is_at}
use Rattle.group_expand.specs.Runs.{is_inherited, inherited_in, steps_of}
use Rattle.group_expand.proofs.StepsLemmas.{IsRunWay}
use Rattle.group_expand.proofs.order.push_inherited.Given as goal

abbrev pub invariant-loop-left : goal.invariant-loop-left
invariant-loop-left l =
    (l.order ++ map (λ (s : Step). s.name) (filter (λ s. is_inherited l.head s l.level.wild (filter (is_at s) l.level.plain)) (steps_of l.left)) ≡ l.initial.order ++ inherited_in l.head l.level)
    × IsRunWay l.level.plain l.left

abbrev pub decreases-loop-left : goal.decreases-loop-left
decreases-loop-left l = length l.left
