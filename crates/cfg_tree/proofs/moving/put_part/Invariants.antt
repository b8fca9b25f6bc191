use Rattle.std.proofs.Common.{◌≡◌}
use Rattle.std.specs.Vec.Iter.{into_iter_items}
use Rattle.cfg_tree.specs.Shown.{shown}
use Rattle.cfg_tree.specs.Moving.{with_part}
use Rattle.cfg_tree.proofs.moving.put_part.Given as goal

abbrev pub invariant-loop-path : goal.invariant-loop-path
invariant-loop-path l = with_part l.from l.to (shown l.entries) (into_iter_items l.path-iterator) ≡ with_part l.from l.to (shown l.fn.entries) l.fn.part.items
