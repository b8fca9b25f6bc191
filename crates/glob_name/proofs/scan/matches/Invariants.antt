use Rattle.std.proofs.Common.{◌+◌, ◌*◌, length}
use Rattle.glob_name.proofs.ScanLemmas.{Scans}
use Rattle.glob_name.proofs.scan.matches.Given as goal

abbrev pub invariant-loop-left : goal.invariant-loop-left
invariant-loop-left l = Scans l.tail l.pattern l.name l.rest l.left l.star l.after l.tried

-- at most a reading of the pattern for each byte of the name
abbrev pub decreases-loop-left : goal.decreases-loop-left
decreases-loop-left l = length l.tried * (length l.pattern + 1) + length l.rest
