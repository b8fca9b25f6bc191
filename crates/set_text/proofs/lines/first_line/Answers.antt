use Rattle.std.proofs.Common.{◌<◌, ◌∙◌, sym, length, arith}
use Rattle.set_text.proofs.CutLemmas.{last_line, ended_line}
use Rattle.set_text.proofs.lines.first_line.Goals as goal

pub returns-then-count-text-clause-first : goal.returns-then-count-text-clause-first
returns-then-count-text-clause-first c =
    last_line c.args.text.now (sym c.line_len-count.ensures.length ∙ c.if-count-text.true) c.requires

pub returns-else-count-text-clause-first : goal.returns-else-count-text-clause-first
returns-else-count-text-clause-first c =
    let within : c.line_len-count.result < length c.args.text.now = omega (arith, c.line_len-count.ensures.within, c.if-count-text.false) in
    ended_line c.args.text.now c.line_len-count.result c.without_last_cr.result.now (sym c.line_len-count.ensures.length) within c.without_last_cr.ensures
