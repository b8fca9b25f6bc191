use Rattle.load_ops.proofs.DifferLemmas.{fronts_decide}
use Rattle.load_ops.proofs.same.differs_below.Goals as goal

pub returns : goal.returns
returns c =
    fronts_decide c.args.old.now c.args.new.now c.args.path.now c.walk_from.result c.walk_from-2.result c.same_front.result
    c.walk_from.ensures c.walk_from-2.ensures c.same_front.ensures
