use Rattle.std.proofs.Common.{◌≡◌, ◌<◌, ◌≤◌, ◌-◌, take, get_or}
use Rattle.glob_name.specs.Front.{IsTail}
use Rattle.glob_name.proofs.front.tail_of.Given as goal

abbrev pub invariant-loop-byte : goal.invariant-loop-byte
invariant-loop-byte l =
    IsTail l.tail (take l.byte-index l.pattern)
    × (l.tail ≤ l.byte-index)
    × (l.tail < l.byte-index → get_or l.pattern (l.byte-index - l.tail - 1) 0 ≡ 93)
