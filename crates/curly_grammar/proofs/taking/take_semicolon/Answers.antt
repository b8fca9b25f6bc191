use Rattle.curly_grammar.proofs.TakingLemmas.{semicolon_taken}
use Rattle.curly_grammar.proofs.taking.take_semicolon.Goals as goal

pub returns-in-After : goal.returns-in-After
returns-in-After c = semicolon_taken c.args.reader.now c.in-After.field-0 c.in-After.is
