use Rattle.std.proofs.Common.{subst, sym, Option}
use Rattle.cfg_lex.specs.declared.fault.LexFault.{LexFault}
use Rattle.cfg_lex.specs.Tokens.{IsCut}
use Rattle.set_text.proofs.ReadLemmas.{refused_at_fault, refused_at_end}
use Rattle.set_text.proofs.reading.read_more.Goals as goal

pub returns-in-Some : goal.returns-in-Some
returns-in-Some c =
    refused_at_fault c.args.line.now c.args.tokens.now c.in-Some.fault c.stop_of.result
    (subst (λ (f : Option LexFault). IsCut c.args.line.now c.args.tokens.now f) c.in-Some.is c.requires.cut) c.requires.more.0 c.stop_of.ensures

pub returns-else-is_empty : goal.returns-else-is_empty
returns-else-is_empty c =
    refused_at_end c.args.line.now c.args.tokens.now c.capped.result
    (subst (λ (f : Option LexFault). IsCut c.args.line.now c.args.tokens.now f) c.in-None.is c.requires.cut) c.requires.more (sym c.if-is_empty.ensures) c.capped.ensures
