use Rattle.std.proofs.Common.{length}
use Rattle.commit_ledger.proofs.copying.+copy_behind.Given as goal

abbrev pub decreases-copy_behind : goal.decreases-copy_behind
decreases-copy_behind l = length l.commits.now
