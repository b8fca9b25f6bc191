use Rattle.std.proofs.Common.{length}
use Rattle.commit_ledger.proofs.restoring.+are_consecutive.Given as goal

abbrev pub decreases-are_consecutive : goal.decreases-are_consecutive
decreases-are_consecutive l = length l.commits.now
