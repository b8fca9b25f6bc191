use Rattle.std.specs.Vec.Iter.{into_iter_items}
use Rattle.cfg_tree.proofs.GatherLemmas.{IsWay}
use Rattle.cfg_tree.proofs.gather.of_sorted.Given as goal

abbrev pub invariant-loop-path : goal.invariant-loop-path
invariant-loop-path l = IsWay l.fn.items.items l.gatherer (into_iter_items l.path-iterator)
