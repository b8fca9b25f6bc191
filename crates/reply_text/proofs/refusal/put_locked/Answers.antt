use Rattle.std.proofs.Common.{◌≡◌, ◌++◌, codes, subst, rules}
use Rattle.io_edge.specs.Wrote.{Wrote}
use Rattle.reply_text.proofs.refusal.put_locked.Goals as goal

pub returns-clause-wrote : goal.returns-clause-wrote
returns-clause-wrote g c =
    let named : c.as_bytes.result.now ≡ c.args.user.now = search rules in
    subst (λ bytes. Wrote c.put_both.result (codes "configuration database locked by: " ++ bytes) (g.K.Sink.view c.args.sink.now).held (g.K.Sink.view c.put_both.new.sink).held)
    named c.put_both.ensures.wrote
