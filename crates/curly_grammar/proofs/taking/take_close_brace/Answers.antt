use Rattle.curly_grammar.proofs.TakingLemmas.{brace_refused, close_taken}
use Rattle.curly_grammar.proofs.taking.take_close_brace.Goals as goal

pub returns-then-not-is_between : goal.returns-then-not-is_between
returns-then-not-is_between c =
    brace_refused c.args.reader.now (λ e. let between = c.is_between.ensures.1 e in let not_between = c.if-not-is_between.true in cc)

pub returns : goal.returns
returns c =
    close_taken c.args.reader.now c.leave.new.reader (c.is_between.ensures.0 c.if-not-is_between.false) c.leave.result c.leave.ensures
