use Rattle.std.proofs.Common.{length, drop, ◌+◌, ◌*◌, ◌≡◌, ◌≤◌}
use Rattle.std.specs.List.{flat_map}
use Rattle.cfg_lex.specs.Printed.{escaped}
use Rattle.cfg_lex.proofs.printing.escaped_len.Given as goal

abbrev pub invariant-loop-byte : goal.invariant-loop-byte
invariant-loop-byte l =
    (l.count + length (flat_map escaped (drop l.byte-index l.word)) ≡ length (flat_map escaped l.word)) × (l.count ≤ 2 * l.byte-index)
