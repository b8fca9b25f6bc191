use Rattle.std.proofs.Common.{◌≡◌, ◌++◌, length}
use Rattle.cfg_tree.specs.Relaid.{kept}
use Rattle.cfg_tree.proofs.relaid.lay_rest.Given as goal

abbrev pub invariant-loop-entry : goal.invariant-loop-entry
invariant-loop-entry l = l.made ++ kept l.stays l.from l.left ≡ l.initial.made ++ kept l.stays l.from l.initial.left

abbrev pub decreases-loop-entry : goal.decreases-loop-entry
decreases-loop-entry l = length l.left
