use Rattle.std.proofs.Common.{length, List}
use Rattle.cfg_base.specs.declared.path.Step.{Step}
use Rattle.kept_expansion.specs.Differences.{AgreeAt}
use Rattle.kept_expansion.proofs.differing.next_apart.Given as goal

abbrev pub invariant-loop-old : goal.invariant-loop-old
invariant-loop-old l = (q : List Step) → AgreeAt l.old l.new q → AgreeAt l.initial.old l.initial.new q

abbrev pub decreases-loop-old : goal.decreases-loop-old
decreases-loop-old l = length l.old
