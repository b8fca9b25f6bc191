use Rattle.std.proofs.Common.{◌≡◌, length}
use Rattle.std.specs.List.{list_any}
use Rattle.glob_name.specs.Glob.{in_range, in_class, ranges_from}
use Rattle.glob_name.proofs.class.in_class.Given as goal

-- the ranges that are left give what all ranges give
abbrev pub invariant-loop-rest : goal.invariant-loop-rest
invariant-loop-rest l = list_any (in_range l.byte) (ranges_from l.rest 0) ≡ in_class l.inner l.byte

abbrev pub decreases-loop-rest : goal.decreases-loop-rest
decreases-loop-rest l = length l.rest
