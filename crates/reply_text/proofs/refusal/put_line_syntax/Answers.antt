use Rattle.std.proofs.Common.{◌++◌, ℕ, codes, decimal, subst}
use Rattle.io_edge.specs.Wrote.{Wrote}
use Rattle.io_edge.proofs.WroteLemmas.{wrote_then, wrote_part_of}
use Rattle.reply_text.specs.Texts.{in_line}
use Rattle.reply_text.proofs.refusal.put_line_syntax.Goals as goal

pub returns-in-Ok-clause-wrote : goal.returns-in-Ok-clause-wrote
returns-in-Ok-clause-wrote g c =
    wrote_then _ (in_line c.args.line) (codes "syntax error at byte " ++ decimal c.args.place) _ _ _ c.in-Ok.ensures.wrote
    (subst (λ (n : ℕ). Wrote c.put_number_behind.result (codes "syntax error at byte " ++ decimal n) (g.K.Sink.view c.put_number_between.new.sink).held (g.K.Sink.view c.put_number_behind.new.sink).held)
    c.from.ensures c.put_number_behind.ensures.wrote)

pub returns-in-Err-clause-wrote : goal.returns-in-Err-clause-wrote
returns-in-Err-clause-wrote g c =
    wrote_part_of (in_line c.args.line) (codes "syntax error at byte " ++ decimal c.args.place) _ _ c.in-Err.ensures.wrote
