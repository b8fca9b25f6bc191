use Rattle.cfg_tree.proofs.OrderLemmas.{top_is_unordered, none_there}
use Rattle.cfg_tree.proofs.reorder.is_ordered.Goals as goal

pub returns-then-is_empty-clause-is : goal.returns-then-is_empty-clause-is
returns-then-is_empty-clause-is c = top_is_unordered c.args.path.now (none_there _ _ c.steps-steps.ensures.steps c.if-is_empty.ensures)
