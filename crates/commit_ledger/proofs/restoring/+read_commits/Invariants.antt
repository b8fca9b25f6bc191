use Rattle.std.proofs.Common.{length}
use Rattle.commit_ledger.proofs.restoring.+read_commits.Given as goal

abbrev pub decreases-read_commits : goal.decreases-read_commits
decreases-read_commits g l = length l.records.now
