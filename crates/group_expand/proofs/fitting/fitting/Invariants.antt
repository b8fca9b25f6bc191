use Rattle.std.proofs.Common.{◌≡◌, [], take}
use Rattle.cfg_tree.specs.Tree.{step_of}
use Rattle.group_expand.specs.Fitting.{exact, down}
use Rattle.group_expand.proofs.fitting.fitting.Given as goal

abbrev pub invariant-loop-step : goal.invariant-loop-step
invariant-loop-step l = l.found.items ≡ down (exact (step_of [] l.group) l.groups) (take l.step-index l.path)
