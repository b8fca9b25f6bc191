use Rattle.std.proofs.Common.{length}
use Rattle.kept_expansion.proofs.roots.+root_length.Given as goal

abbrev pub decreases-root_length : goal.decreases-root_length
decreases-root_length l = length l.steps.now
