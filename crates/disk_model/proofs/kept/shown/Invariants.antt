use Rattle.std.proofs.Common.{◌≡◌, ◌≤◌, ◌++◌, length, map}
use Rattle.disk_model.specs.Kept.{calls_of, total_of}
use Rattle.disk_model.specs.Made.{call_of}
use Rattle.disk_model.proofs.kept.shown.Given as goal

abbrev pub invariant-loop-rest : goal.invariant-loop-rest
invariant-loop-rest l = record {
  calls : map call_of l.made.items ++ calls_of l.rest l.bytes ≡ calls_of l.fn.kept l.fn.written;
  fits : total_of l.rest ≤ length l.bytes;
}

abbrev pub decreases-loop-rest : goal.decreases-loop-rest
decreases-loop-rest l = length l.rest
