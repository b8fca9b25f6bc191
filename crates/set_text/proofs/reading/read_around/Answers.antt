use Rattle.std.proofs.Common.{subst, Option}
use Rattle.cfg_lex.specs.declared.fault.LexFault.{LexFault}
use Rattle.cfg_lex.specs.Tokens.{IsCut}
use Rattle.set_text.specs.Form.{parts_in}
use Rattle.set_text.proofs.ReadLemmas.{refused_at_fault, whole_begun}
use Rattle.set_text.proofs.reading.read_around.Goals as goal

pub returns-in-Some : goal.returns-in-Some
returns-in-Some c =
    refused_at_fault c.args.line.now c.args.tokens.now c.in-Some.fault c.stop_of.result
    (subst (λ (f : Option LexFault). IsCut c.args.line.now c.args.tokens.now f) c.in-Some.is c.requires.cut)
    (whole_begun (parts_in c.args.line.now c.args.tokens.now) _ c.requires.around.spelled)
    c.stop_of.ensures
