use Rattle.std.proofs.Common.{◌++◌, subst}
use Rattle.commit_ledger.specs.Date.{date_text_at}
use Rattle.io_edge.specs.Wrote.{Wrote}
use Rattle.io_edge.proofs.WroteLemmas.{wrote_then, wrote_part_of}
use Rattle.reply_text.proofs.writing.put_date_between.Goals as goal

pub returns-in-Ok-clause-wrote : goal.returns-in-Ok-clause-wrote
returns-in-Ok-clause-wrote g c =
    wrote_then _ c.args.front.now (date_text_at c.args.moment ++ c.args.back.now) _ _ _ c.in-Ok.ensures.wrote
    (subst (λ date. Wrote c.put_both.result (date ++ c.args.back.now) (g.K.Sink.view c.put_all.new.sink).held (g.K.Sink.view c.put_both.new.sink).held)
    c.date_bytes_at.ensures c.put_both.ensures.wrote)

pub returns-in-Err-clause-wrote : goal.returns-in-Err-clause-wrote
returns-in-Err-clause-wrote g c = wrote_part_of c.args.front.now (date_text_at c.args.moment ++ c.args.back.now) _ _ c.in-Err.ensures.wrote
