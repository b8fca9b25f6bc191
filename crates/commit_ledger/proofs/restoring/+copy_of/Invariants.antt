use Rattle.std.proofs.Common.{length}
use Rattle.commit_ledger.proofs.restoring.+copy_of.Given as goal

abbrev pub decreases-copy_of : goal.decreases-copy_of
decreases-copy_of l = length l.commits.now
