use Rattle.std.proofs.Common.{length, drop, ◌≡◌, ◌≤◌, ◌+◌, false, cond}
use Rattle.cfg_lex.specs.Bytes.{unescaped}
use Rattle.cfg_lex.proofs.bytes.unescaped_len.Given as goal

abbrev pub invariant-loop-byte : goal.invariant-loop-byte
invariant-loop-byte l =
    (l.count + length (unescaped l.backslash (drop l.byte-index l.inside)) ≡ length (unescaped false l.inside))
    × (l.count + cond l.backslash 1 0 ≤ l.byte-index)
