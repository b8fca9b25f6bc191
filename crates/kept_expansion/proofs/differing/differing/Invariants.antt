use Rattle.std.proofs.Common.{◌-◌, length}
use Rattle.kept_expansion.specs.Differences.{AgreeWhere}
use Rattle.kept_expansion.specs.declared.differing.TheConstants.{MOST}
use Rattle.kept_expansion.proofs.differing.differing.Given as goal

abbrev pub invariant-loop-path : goal.invariant-loop-path
invariant-loop-path l = AgreeWhere l.initial.before l.initial.after l.before l.after l.paths.items

abbrev pub decreases-loop-path : goal.decreases-loop-path
decreases-loop-path l = MOST - length l.paths.items
