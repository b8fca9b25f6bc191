use Rattle.std.proofs.Common.{◌≡◌, ◌++◌, length}
use Rattle.cfg_tree.specs.Moving.{in_place}
use Rattle.cfg_tree.proofs.moving.in_place.Given as goal

abbrev pub invariant-loop-name : goal.invariant-loop-name
invariant-loop-name l = l.changed ++ in_place l.old l.new l.left ≡ in_place l.old l.new l.names

abbrev pub decreases-loop-name : goal.decreases-loop-name
decreases-loop-name l = length l.left
