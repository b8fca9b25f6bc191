use Rattle.std.proofs.Common.{◌≡◌, ◌++◌, length}
use Rattle.std.specs.Prelude.{flat_map}
use Rattle.group_expand.specs.Fronts.{brought_unless}
use Rattle.group_expand.proofs.front.push_applied.Given as goal

abbrev pub invariant-loop-group : goal.invariant-loop-group
invariant-loop-group l =
    l.front.items ++ flat_map (brought_unless l.groups l.path l.gone) l.left ≡ l.initial.front.items ++ flat_map (brought_unless l.groups l.path l.gone) l.words

abbrev pub decreases-loop-group : goal.decreases-loop-group
decreases-loop-group l = length l.left
