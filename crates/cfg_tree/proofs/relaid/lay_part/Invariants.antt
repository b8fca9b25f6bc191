use Rattle.std.proofs.Common.{◌≡◌, ◌++◌}
use Rattle.std.specs.Vec.Iter.{into_iter_items}
use Rattle.cfg_tree.specs.Relaid.{moved}
use Rattle.cfg_tree.proofs.relaid.lay_part.Given as goal

abbrev pub invariant-loop-path : goal.invariant-loop-path
invariant-loop-path l = l.made ++ moved l.from l.to (into_iter_items l.path-iterator) ≡ l.initial.made ++ moved l.from l.to l.fn.part.items
