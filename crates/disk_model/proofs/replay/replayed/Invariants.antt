use Rattle.std.proofs.Common.{◌≡◌, ◌≤◌, length}
use Rattle.disk_model.specs.Disk.{DiskState, after, at_first}
use Rattle.disk_model.specs.Kept.{calls_of, total_of}
use Rattle.disk_model.specs.Marks.{Knows}
use Rattle.disk_model.proofs.replay.replayed.Given as goal

abbrev pub invariant-loop-rest : goal.invariant-loop-rest
invariant-loop-rest l =
    (s : DiskState)
    × Knows l.replay.bytes.items l.replay.marks.items l.replay.synced s
    × (after s (calls_of l.rest l.bytes) ≡ after (at_first l.fn.first) (calls_of l.fn.kept l.fn.written))
    × (total_of l.rest ≤ length l.bytes)

abbrev pub decreases-loop-rest : goal.decreases-loop-rest
decreases-loop-rest l = length l.rest
