use Rattle.cfg_tree.specs.Limit.{paths_of}
use Rattle.cfg_tree.proofs.ExcessLemmas.{Counts}
use Rattle.cfg_tree.proofs.excess.path_past.Given as goal

abbrev pub invariant-loop-at : goal.invariant-loop-at
invariant-loop-at l = Counts (paths_of l.items) l.at l.known l.count
