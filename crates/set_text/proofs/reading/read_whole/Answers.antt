use Rattle.std.proofs.Common.{subst, Option, drop}
use Rattle.cfg_lex.specs.declared.fault.LexFault.{LexFault}
use Rattle.cfg_lex.specs.Tokens.{IsCut}
use Rattle.set_text.specs.Form.{parts_in, words_among}
use Rattle.commands.specs.Verb.{op_of}
use Rattle.set_text.proofs.ReadLemmas.{refused_at_fault, whole_begun}
use Rattle.set_text.proofs.reading.read_whole.Goals as goal

pub returns-in-Some : goal.returns-in-Some
returns-in-Some c =
    refused_at_fault c.args.line.now c.args.tokens.now c.in-Some.fault c.stop_of.result
    (subst (λ (f : Option LexFault). IsCut c.args.line.now c.args.tokens.now f) c.in-Some.is c.requires.cut)
    (whole_begun (parts_in c.args.line.now c.args.tokens.now) (op_of c.args.verb (words_among (parts_in c.args.line.now (drop 1 c.args.tokens.now)))) c.requires.whole.1)
    c.stop_of.ensures
