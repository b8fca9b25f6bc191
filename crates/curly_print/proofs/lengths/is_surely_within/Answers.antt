use Rattle.curly_print.proofs.MostLemmas.{all_fit}
use Rattle.curly_print.proofs.lengths.is_surely_within.Goals as goal

pub returns : goal.returns
returns c = λ told. all_fit c.args.tree.now c.count-count.ensures.tree c.args.most c.loop-path.free c.loop-path.left c.in_default.ensures c.loop-path.invariant
