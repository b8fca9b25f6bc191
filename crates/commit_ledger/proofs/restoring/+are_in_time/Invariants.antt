use Rattle.std.proofs.Common.{length}
use Rattle.commit_ledger.proofs.restoring.+are_in_time.Given as goal

abbrev pub decreases-are_in_time : goal.decreases-are_in_time
decreases-are_in_time l = length l.commits.now
