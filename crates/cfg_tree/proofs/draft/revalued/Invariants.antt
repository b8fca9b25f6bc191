use Rattle.std.proofs.Common.{◌≡◌}
use Rattle.std.specs.Vec.Iter.{into_iter_items}
use Rattle.cfg_tree.specs.Shown.{shown}
use Rattle.cfg_tree.specs.Values.{with_values}
use Rattle.cfg_tree.proofs.draft.revalued.Given as goal

abbrev pub invariant-loop-path : goal.invariant-loop-path
invariant-loop-path l = with_values (shown l.made) (into_iter_items l.path-iterator) ≡ with_values (shown l.fn.entries) l.fn.values.items
