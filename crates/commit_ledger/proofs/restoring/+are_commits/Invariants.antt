use Rattle.std.proofs.Common.{length}
use Rattle.commit_ledger.proofs.restoring.+are_commits.Given as goal

abbrev pub decreases-are_commits : goal.decreases-are_commits
decreases-are_commits l = length l.records.now
