use Rattle.cfg_tree.proofs.TreeLemmas.{nothing_is_tree}
use Rattle.cfg_tree.proofs.tree.Tree.empty.Goals as goal

pub invariant_of-result : goal.invariant_of-result
invariant_of-result c = nothing_is_tree _ c.new.ensures.empty
