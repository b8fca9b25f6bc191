use Rattle.std.proofs.Common.{◌≡◌, ◌++◌}
use Rattle.std.specs.Vec.Iter.{into_iter_items}
use Rattle.cfg_tree.specs.Naming.{with_child_names}
use Rattle.cfg_tree.proofs.naming.with_child_names.Given as goal

abbrev pub invariant-loop-path : goal.invariant-loop-path
invariant-loop-path l = l.all.items ++ with_child_names (into_iter_items l.path-iterator) ≡ with_child_names l.fn.items.items
