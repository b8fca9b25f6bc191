use Rattle.std.proofs.Common.{length}
use Rattle.commit_ledger.proofs.reading.+new_after.Given as goal

abbrev pub decreases-new_after : goal.decreases-new_after
decreases-new_after l = length l.records.now
