use Rattle.std.proofs.Common.{length}
use Rattle.commit_ledger.proofs.image.+with_commits.Given as goal

abbrev pub decreases-with_commits : goal.decreases-with_commits
decreases-with_commits l = length l.commits.now
