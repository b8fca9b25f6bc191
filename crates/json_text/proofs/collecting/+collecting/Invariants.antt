use Rattle.std.proofs.Common.{◌+◌, ◌*◌, drop}
use Rattle.serde_json.specs.View.{view, items_view}
use Rattle.json_text.specs.Collecting.{TellsEach, members_in, spot_in}
use Rattle.json_text.specs.Said.{SaysInside, SaysRows}
use Rattle.json_text.proofs.CollectingLemmas.{Goes}
use Rattle.json_text.proofs.collecting.+collecting.Given as goal

abbrev pub decreases-collect_rows : goal.decreases-collect_rows
decreases-collect_rows l = 7 * l.levels + 6

abbrev pub decreases-collect_row : goal.decreases-collect_row
decreases-collect_row l = 7 * l.levels + 5

abbrev pub decreases-collect_list : goal.decreases-collect_list
decreases-collect_list l = 7 * l.levels + 4

abbrev pub decreases-collect_each : goal.decreases-collect_each
decreases-collect_each l = 7 * l.levels + 3

abbrev pub decreases-collect_named : goal.decreases-collect_named
decreases-collect_named l = 7 * l.levels + 2

abbrev pub decreases-collect_level : goal.decreases-collect_level
decreases-collect_level l = 7 * l.levels + 1

abbrev pub decreases-collect_inside : goal.decreases-collect_inside
decreases-collect_inside l = 7 * l.levels

abbrev pub invariant-collect_rows-loop-id : goal.invariant-collect_rows-loop-id
invariant-collect_rows-loop-id l =
    Goes (SaysRows (SaysInside l.levels) (spot_in l.here) (members_in (view l.value)) l.rows)
    (SaysRows (SaysInside l.levels) (spot_in l.here) (members_in (view l.value)) (drop l.id-index l.rows)) l.fn.items l.items

abbrev pub invariant-collect_each-loop-object : goal.invariant-collect_each-loop-object
invariant-collect_each-loop-object l =
    Goes (TellsEach l.levels (spot_in l.here) l.id (items_view l.objects.items))
    (TellsEach l.levels (spot_in l.here) l.id (items_view (drop l.object-index l.objects.items))) l.fn.items l.items
