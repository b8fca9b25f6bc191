use Rattle.std.proofs.Common.{◌≡◌, drop}
use Rattle.cfg_tree.specs.Shown.{shown, without_all}
use Rattle.cfg_tree.proofs.change.take_all.Given as goal

abbrev pub invariant-loop-key : goal.invariant-loop-key
invariant-loop-key l = without_all (shown l.entries) (drop l.key-index l.keys) ≡ without_all (shown l.initial.entries) l.keys
