use Rattle.std.proofs.Common.{◌≡◌, ◌+◌, ◌-◌, ◌*◌, ◌++◌, length, map, take}
use Rattle.std.specs.List.{flat_map}
use Rattle.std.specs.FinMap as finite
use Rattle.cfg_tree.specs.Children.{order_in}
use Rattle.cfg_tree.specs.Tree.{step_of}
use Rattle.curly_print.specs.Printing.{child_text, own_if_of_row, own_row}
use Rattle.curly_print.proofs.tree_printer.TreePrinter.+printing.Given as goal

abbrev pub decreases-push_rows : goal.decreases-push_rows
decreases-push_rows l = 8 * l.levels + 7

abbrev pub decreases-push_row : goal.decreases-push_row
decreases-push_row l = 8 * l.levels + 6

abbrev pub decreases-push_named : goal.decreases-push_named
decreases-push_named l = 8 * l.levels + 5

abbrev pub decreases-push_child : goal.decreases-push_child
decreases-push_child l = 8 * l.levels + 4

abbrev pub decreases-push_unordered : goal.decreases-push_unordered
decreases-push_unordered l = 8 * l.levels + 5

abbrev pub decreases-push_if_of_row : goal.decreases-push_if_of_row
decreases-push_if_of_row l = 8 * l.levels + 4

abbrev pub decreases-push_statement : goal.decreases-push_statement
decreases-push_statement l = 8 * l.levels + 3

abbrev pub decreases-push_end : goal.decreases-push_end
decreases-push_end l = 8 * l.levels + 2

abbrev pub decreases-push_within : goal.decreases-push_within
decreases-push_within l = 8 * l.levels + 1

abbrev pub decreases-push_below : goal.decreases-push_below
decreases-push_below l = 8 * l.levels

abbrev pub invariant-push_rows-loop-id : goal.invariant-push_rows-loop-id
invariant-push_rows-loop-id l =
    l.text.items ≡ l.fn.text.items ++ flat_map (own_row l.levels l.self.tree.now l.path l.indent) (take l.id-index l.rows)

abbrev pub invariant-push_named-loop-name : goal.invariant-push_named-loop-name
invariant-push_named-loop-name l =
    l.text.items ++ flat_map (child_text l.levels l.self.tree.now l.path l.indent) (map (step_of l.head) l.left)
    ≡ l.fn.text.items
    ++ flat_map (child_text l.levels l.self.tree.now l.path l.indent)
    (map (step_of l.head) (order_in (finite.get l.self.tree.now l.path)))

abbrev pub decreases-push_named-loop-name : goal.decreases-push_named-loop-name
decreases-push_named-loop-name l = length l.left

abbrev pub invariant-push_unordered-loop-at : goal.invariant-push_unordered-loop-at
invariant-push_unordered-loop-at l =
    l.text.items
    ≡ l.fn.text.items ++ flat_map (own_if_of_row l.words (length l.path + 1) l.levels l.self.tree.now l.indent) (take l.at l.inside)

abbrev pub decreases-push_unordered-loop-at : goal.decreases-push_unordered-loop-at
decreases-push_unordered-loop-at l = length l.inside - l.at
