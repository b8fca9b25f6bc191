use Rattle.std.proofs.Common.{◌≡◌, ◌+◌, ◌*◌, ◌++◌, List, drop}
use Rattle.serde_json.specs.View.{items_view, members_view}
use Rattle.json_text.specs.Checking.{spot}
use Rattle.json_text.specs.Faults.{FaultInside}
use Rattle.json_text.specs.Said.{SaysInside}
use Rattle.json_text.proofs.WalkLemmas.{Entry, MembersLeft, ItemsLeft}
use Rattle.json_text.proofs.checker.+checking.Given as goal

abbrev pub decreases-check_inside : goal.decreases-check_inside
decreases-check_inside l = 8 * l.levels

abbrev pub decreases-check_members : goal.decreases-check_members
decreases-check_members l = 8 * l.levels + 7

abbrev pub decreases-check_member : goal.decreases-check_member
decreases-check_member l = 8 * l.levels + 6

abbrev pub decreases-check_row : goal.decreases-check_row
decreases-check_row l = 8 * l.levels + 5

abbrev pub decreases-check_list : goal.decreases-check_list
decreases-check_list l = 8 * l.levels + 4

abbrev pub decreases-check_items : goal.decreases-check_items
decreases-check_items l = 8 * l.levels + 3

abbrev pub decreases-check_item : goal.decreases-check_item
decreases-check_item l = 8 * l.levels + 2

abbrev pub decreases-check_object : goal.decreases-check_object
decreases-check_object l = 8 * l.levels + 2

abbrev pub decreases-check_level : goal.decreases-check_level
decreases-check_level l = 8 * l.levels + 1

abbrev pub invariant-check_members-loop-key : goal.invariant-check_members-loop-key
invariant-check_members-loop-key l =
    MembersLeft (SaysInside l.levels) (FaultInside l.levels) (spot l.path l.here) (members_view l.members.entries) (members_view l.key-iterator)
    × ((done : List Entry) × (l.members.entries ≡ done ++ l.key-iterator))

abbrev pub invariant-check_items-loop-value : goal.invariant-check_items-loop-value
invariant-check_items-loop-value l =
    ItemsLeft (SaysInside l.levels) (FaultInside l.levels) (spot l.path l.here) l.id (items_view l.values) (items_view (drop l.value-index l.values)) l.names
