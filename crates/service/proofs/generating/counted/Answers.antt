use Rattle.std.proofs.lemmas.Result.{IfOk-weaker}
use Rattle.service.proofs.GeneratingLemmas.{counted_by}
use Rattle.service.proofs.generating.counted.Goals as goal

pub returns : goal.returns
returns c = IfOk-weaker c.gen_text.result _ _ (λ text told.
    counted_by c.args.ledger.now c.active-tree.result.now c.in-Ok.full text c.count.result c.count-2.result c.text_len.result c.kept.result c.active-tree.ensures c.in-Ok.ensures.ok
    (c.accepted_configurations_fit.ensures.text c.active-tree.result.now (c.in-Ok.full, c.in-Ok.ensures.ok)).1 c.count.ensures.count c.count-2.ensures c.text_len.ensures c.kept.ensures.number told) c.gen_text.ensures
