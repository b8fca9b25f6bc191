use Rattle.std.proofs.Common.{◌≡◌, take, length}
use Rattle.cfg_tree.proofs.reorder.path_of.Given as goal

abbrev pub invariant-loop-step : goal.invariant-loop-step
invariant-loop-step l = (l.path ≡ take l.step-index l.steps) × (length l.path ≡ l.step-index)
