use Rattle.std.proofs.Common.{◌≡◌, ◌+◌, ◌*◌, ◌++◌, length, map, take}
use Rattle.std.specs.List.{flat_map}
use Rattle.std.specs.FinMap as finite
use Rattle.cfg_tree.specs.Children.{order_in}
use Rattle.cfg_tree.specs.Tree.{step_of}
use Rattle.printing_order.specs.Listing.{child_items, items_if_of_row, row_items}
use Rattle.printing_order.proofs.lister.Lister.+listing.Given as goal

abbrev pub decreases-push_rows : goal.decreases-push_rows
decreases-push_rows l = 8 * l.levels + 7

abbrev pub decreases-push_row : goal.decreases-push_row
decreases-push_row l = 8 * l.levels + 6

abbrev pub decreases-push_named : goal.decreases-push_named
decreases-push_named l = 8 * l.levels + 5

abbrev pub decreases-push_child : goal.decreases-push_child
decreases-push_child l = 8 * l.levels + 4

abbrev pub decreases-push_unordered : goal.decreases-push_unordered
decreases-push_unordered l = 8 * l.levels + 5

abbrev pub decreases-push_if_of_row : goal.decreases-push_if_of_row
decreases-push_if_of_row l = 8 * l.levels + 4

abbrev pub decreases-push_statement : goal.decreases-push_statement
decreases-push_statement l = 8 * l.levels + 3

abbrev pub decreases-push_below : goal.decreases-push_below
decreases-push_below l = 8 * l.levels

abbrev pub invariant-push_rows-loop-id : goal.invariant-push_rows-loop-id
invariant-push_rows-loop-id l = l.items.items ≡ l.fn.items.items ++ flat_map (row_items l.levels l.self.tree.now l.path) (take l.id-index l.rows)

abbrev pub invariant-push_named-loop-name : goal.invariant-push_named-loop-name
invariant-push_named-loop-name l =
    l.items.items ++ flat_map (child_items l.levels l.self.tree.now l.path) (map (step_of l.head) l.left)
    ≡ l.fn.items.items
    ++ flat_map (child_items l.levels l.self.tree.now l.path) (map (step_of l.head) (order_in (finite.get l.self.tree.now l.path)))

abbrev pub decreases-push_named-loop-name : goal.decreases-push_named-loop-name
decreases-push_named-loop-name l = length l.left

abbrev pub invariant-push_unordered-loop-at : goal.invariant-push_unordered-loop-at
invariant-push_unordered-loop-at l =
    l.items.items ≡ l.fn.items.items ++ flat_map (items_if_of_row l.words (length l.path + 1) l.levels l.self.tree.now) (take l.at l.inside)
