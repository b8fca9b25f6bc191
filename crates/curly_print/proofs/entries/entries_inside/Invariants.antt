use Rattle.std.proofs.Common.{◌≡◌, ◌++◌, length}
use Rattle.cfg_tree.specs.Children.{is_inside}
use Rattle.curly_print.specs.Inheriting.{given_inside}
use Rattle.printing_order.proofs.EntriesLemmas.{ahead}
use Rattle.curly_print.proofs.entries.entries_inside.Given as goal

abbrev pub invariant-loop-at : goal.invariant-loop-at
invariant-loop-at l = l.entries.items ++ ahead l.path (is_inside l.path) l.walk ≡ given_inside l.full l.path

abbrev pub decreases-loop-at : goal.decreases-loop-at
decreases-loop-at l = length l.walk
