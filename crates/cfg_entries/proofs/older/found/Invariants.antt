use Rattle.std.proofs.Common.{length}
use Rattle.cfg_entries.proofs.older.found.Given as goal

abbrev pub decreases-loop-entry : goal.decreases-loop-entry
decreases-loop-entry g l = length l.rest
