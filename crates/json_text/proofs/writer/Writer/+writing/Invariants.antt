use Rattle.std.proofs.Common.{◌≡◌, ◌+◌, ◌-◌, ◌*◌, ◌++◌, length, map, take, flat_map}
use Rattle.std.specs.FinMap as finite
use Rattle.cfg_tree.specs.Children.{order_in}
use Rattle.cfg_tree.specs.Tree.{step_of}
use Rattle.serde_json.specs.View.{view, members_view}
use Rattle.json_text.specs.Written.{put_all}
use Rattle.json_text.specs.Writing.{alone_if_of_row, named_child, object_if_of_row, own_row}
use Rattle.json_text.proofs.writer.Writer.+writing.Given as goal

abbrev pub decreases-put_rows : goal.decreases-put_rows
decreases-put_rows l = 9 * l.levels + 8

abbrev pub decreases-put_row : goal.decreases-put_row
decreases-put_row l = 9 * l.levels + 7

abbrev pub decreases-push_row : goal.decreases-push_row
decreases-push_row l = 9 * l.levels + 6

abbrev pub decreases-push_named : goal.decreases-push_named
decreases-push_named l = 9 * l.levels + 5

abbrev pub decreases-push_child : goal.decreases-push_child
decreases-push_child l = 9 * l.levels + 4

abbrev pub decreases-push_unordered : goal.decreases-push_unordered
decreases-push_unordered l = 9 * l.levels + 5

abbrev pub decreases-push_if_of_row : goal.decreases-push_if_of_row
decreases-push_if_of_row l = 9 * l.levels + 4

abbrev pub decreases-push_object : goal.decreases-push_object
decreases-push_object l = 9 * l.levels + 3

abbrev pub decreases-put_single : goal.decreases-put_single
decreases-put_single l = 9 * l.levels + 5

abbrev pub decreases-put_if_of_row : goal.decreases-put_if_of_row
decreases-put_if_of_row l = 9 * l.levels + 4

abbrev pub decreases-put_alone : goal.decreases-put_alone
decreases-put_alone l = 9 * l.levels + 3

abbrev pub decreases-level : goal.decreases-level
decreases-level l = 9 * l.levels + 2

abbrev pub decreases-put_within : goal.decreases-put_within
decreases-put_within l = 9 * l.levels + 1

abbrev pub decreases-put_below : goal.decreases-put_below
decreases-put_below l = 9 * l.levels

abbrev pub invariant-put_rows-loop-id : goal.invariant-put_rows-loop-id
invariant-put_rows-loop-id l =
    members_view l.members.entries
    ≡ put_all (members_view l.fn.members.entries) (flat_map (own_row l.levels l.self.tree.now l.path) (take l.id-index l.rows))

abbrev pub invariant-push_named-loop-name : goal.invariant-push_named-loop-name
invariant-push_named-loop-name l =
    map view l.objects.items ++ flat_map (named_child l.levels l.self.tree.now l.path) (map (step_of l.head) l.left)
    ≡ map view l.fn.objects.items
    ++ flat_map (named_child l.levels l.self.tree.now l.path) (map (step_of l.head) (order_in (finite.get l.self.tree.now l.path)))

abbrev pub decreases-push_named-loop-name : goal.decreases-push_named-loop-name
decreases-push_named-loop-name l = length l.left

abbrev pub invariant-push_unordered-loop-at : goal.invariant-push_unordered-loop-at
invariant-push_unordered-loop-at l =
    map view l.objects.items
    ≡ map view l.fn.objects.items
    ++ flat_map (object_if_of_row l.words (length l.path + 1) l.levels l.self.tree.now) (take l.at l.inside)

abbrev pub decreases-push_unordered-loop-at : goal.decreases-push_unordered-loop-at
decreases-push_unordered-loop-at l = length l.inside - l.at

abbrev pub invariant-put_single-loop-at : goal.invariant-put_single-loop-at
invariant-put_single-loop-at l =
    members_view l.members.entries
    ≡ put_all (members_view l.fn.members.entries)
    (flat_map (alone_if_of_row l.id (length l.path + 1) l.levels l.self.tree.now) (take l.at l.inside))

abbrev pub decreases-put_single-loop-at : goal.decreases-put_single-loop-at
decreases-put_single-loop-at l = length l.inside - l.at
