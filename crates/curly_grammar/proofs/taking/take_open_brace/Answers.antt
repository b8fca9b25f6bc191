use Rattle.curly_grammar.proofs.TakingLemmas.{open_taken}
use Rattle.curly_grammar.proofs.taking.take_open_brace.Goals as goal

pub returns-in_ok-enter-in-After : goal.returns-in_ok-enter-in-After
returns-in_ok-enter-in-After c =
    open_taken c.args.reader.now c.enter.new.reader c.in-After.level c.in_ok-level-in-After.level c.in-After.is c.if-is_open.ensures
    c.in_ok-level-in-After.ensures c.in_ok-enter-in-After.ensures
