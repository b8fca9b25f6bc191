use Rattle.std.proofs.Common.{◌≡◌, ◌++◌, take, filter}
use Rattle.cfg_schema.specs.Profile.{is_step_of}
use Rattle.cfg_tree.proofs.children.push_own.Given as goal

abbrev pub invariant-loop-step : goal.invariant-loop-step
invariant-loop-step l = l.steps.items ≡ l.initial.steps.items ++ filter (is_step_of l.words) (take l.step-index l.below)
