use Rattle.std.proofs.Common.{length}
use Rattle.commit_check.proofs.kinds.+begin_alike.Given as goal

abbrev pub decreases-begin_alike : goal.decreases-begin_alike
decreases-begin_alike l = length l.steps.now
