use Rattle.std.proofs.Common.{take}
use Rattle.set_text.specs.Trail.{IsTrail}
use Rattle.set_text.proofs.trail.Trail.of.Given as goal

abbrev pub invariant-loop-step : goal.invariant-loop-step
invariant-loop-step l = IsTrail (take l.step-index l.path) l.text.items l.marks.items
