use Rattle.std.proofs.Common.{◌≡◌, take, ℕ, flat_map}
use Rattle.cfg_tree.specs.Children.{row_steps}
use Rattle.cfg_tree.proofs.children.by_rows.Given as goal

abbrev pub invariant-loop-id : goal.invariant-loop-id
invariant-loop-id l = l.steps.items ≡ flat_map (λ (id : ℕ). row_steps id l.names l.below) (take l.id-index l.rows)
