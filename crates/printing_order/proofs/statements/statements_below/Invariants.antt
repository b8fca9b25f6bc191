use Rattle.std.proofs.Common.{◌≡◌, ◌++◌, length}
use Rattle.cfg_tree.specs.Children.{is_inside}
use Rattle.printing_order.specs.Inside.{statements_inside}
use Rattle.printing_order.proofs.EntriesLemmas.{ahead}
use Rattle.printing_order.proofs.statements.statements_below.Given as goal

abbrev pub invariant-loop-at : goal.invariant-loop-at
invariant-loop-at l = l.statements.items ++ ahead l.path (is_inside l.path) l.walk ≡ statements_inside l.tree l.path

abbrev pub decreases-loop-at : goal.decreases-loop-at
decreases-loop-at l = length l.walk
