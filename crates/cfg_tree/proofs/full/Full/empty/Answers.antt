use Rattle.cfg_tree.proofs.FullLemmas.{nothing_within}
use Rattle.cfg_tree.proofs.full.Full.empty.Goals as goal

pub invariant_of-result : goal.invariant_of-result
invariant_of-result c = nothing_within _ c.new.ensures.empty
