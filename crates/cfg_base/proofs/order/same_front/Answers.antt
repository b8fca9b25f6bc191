use Rattle.cfg_base.proofs.OrderLemmas.{eight_same}
use Rattle.cfg_base.proofs.order.same_front.Goals as goal

pub returns-then-front_of-clause-same : goal.returns-then-front_of-clause-same
returns-then-front_of-clause-same c =
    eight_same c.args.one.now c.args.other.now c.if-one-lt8.false c.if-other-lt8.false c.type_inv.one c.type_inv.other c.front_of.result c.front_of-2.result
    c.front_of.ensures c.front_of-2.ensures c.if-front_of.true
