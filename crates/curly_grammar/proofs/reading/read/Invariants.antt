use Rattle.std.proofs.Common.{take, map}
use Rattle.cfg_lex.specs.Lexed.{lexed_in}
use Rattle.curly_grammar.specs.Held.{run_in}
use Rattle.curly_grammar.specs.Reading.{start, Goes}
use Rattle.curly_grammar.proofs.reading.read.Given as goal

abbrev pub invariant-loop-at : goal.invariant-loop-at
invariant-loop-at l = Goes start (take l.at (map (lexed_in l.text) l.tokens)) (run_in l.reader)
