use Rattle.cfg_base.proofs.OrderLemmas.{steps_tie}
use Rattle.cfg_base.proofs.path.PathPartialEq.eq.Goals as goal

pub returns : goal.returns
returns c = steps_tie c.args.self.now c.args.other.now _ _ c.eq.result c.steps.ensures.steps c.steps-2.ensures.steps c.eq.ensures
