use Rattle.std.proofs.Common.{map, arith}
use Rattle.std.proofs.lemmas.List.{length-map}
use Rattle.cfg_lex.specs.Lexed.{lexed_in}
use Rattle.curly_grammar.specs.Held.{run_in}
use Rattle.curly_grammar.proofs.ParseLemmas.{reader_placed, read_more, read_whole}
use Rattle.curly_grammar.proofs.reading.read.Goals as goal

pub take_token-requires-clause-placed : goal.take_token-requires-clause-placed
take_token-requires-clause-placed c = reader_placed _ c.loop-at.reader c.loop-at.invariant

pub loop-at-preserved : goal.loop-at-preserved
loop-at-preserved c =
    read_more c.args.text.now c.args.tokens.now c.loop-at.at _ c.loop-at.reader c.take_token.new.reader c.loop-at-test.true c.loop-at.invariant c.in-Ok.ensures

pub returns : goal.returns
returns c =
    read_whole (map (lexed_in c.args.text.now) c.args.tokens.now) c.loop-at.at (run_in c.loop-at.reader)
    (omega (arith, length-map c.args.tokens.now (lexed_in c.args.text.now))) c.loop-at.invariant
