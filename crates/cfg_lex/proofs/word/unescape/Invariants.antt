use Rattle.std.proofs.Common.{drop, ◌++◌, ◌≡◌, false}
use Rattle.cfg_lex.specs.Bytes.{unescaped}
use Rattle.cfg_lex.proofs.word.unescape.Given as goal

abbrev pub invariant-loop-byte : goal.invariant-loop-byte
invariant-loop-byte l = l.word.items ++ unescaped l.backslash (drop l.byte-index l.inside) ≡ unescaped false l.inside
