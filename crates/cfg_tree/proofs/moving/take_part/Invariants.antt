use Rattle.std.proofs.Common.{◌≡◌, drop}
use Rattle.std.specs.Map.{keys_of}
use Rattle.cfg_tree.specs.Shown.{shown, without_all}
use Rattle.cfg_tree.proofs.moving.take_part.Given as goal

abbrev pub invariant-loop-item : goal.invariant-loop-item
invariant-loop-item l = without_all (shown l.entries) (keys_of (drop l.item-index l.part)) ≡ without_all (shown l.initial.entries) (keys_of l.part)
