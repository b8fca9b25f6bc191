use Rattle.std.proofs.lemmas.Result.{IfOk-weaker}
use Rattle.service.proofs.GeneratingLemmas.{made_for}
use Rattle.service.proofs.generating.told.Goals as goal

pub returns : goal.returns
returns c = IfOk-weaker c.counted.result _ _ (λ text counted.
    made_for c.args.count c.args.users.now c.args.events.now.items c.make.new.events.items text c.in_ok-ledger.ledger c.ledger.result.now c.in_ok-core.core c.make.new.core
    c.in_ok-core.ensures c.in_ok-ledger.ensures c.requires.none c.in_ok-make.ensures c.ledger.ensures counted) c.counted.ensures
