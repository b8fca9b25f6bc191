use Rattle.std.proofs.Common.{◌≡◌, ◌≤◌, ◌<◌, ◌+◌, ◌-◌, ◌*◌, ℕ, suc, List, length, sym, ap, ap₂, string_bytes, vec_len, ◌∙◌, arith}
use Rattle.std.proofs.Math.ListN.{drop_of_length-le}
use Rattle.cfg_base.specs.declared.path.TheConstants.{MAX_STEPS}
use Rattle.cfg_schema.specs.Profile.{row_of, is_level, is_named}
use Rattle.serde_json.specs.Data.{array, object}
use Rattle.serde_json.specs.View.{view, items_view, members_view}
use Rattle.serde_json.specs.declared.value.Value.{Value}
use Rattle.serde_json.proofs.Views.{view-Array, view-Object}
use Rattle.cfg_schema.specs.declared.rows.Row.{Row}
use Rattle.json_text.specs.declared.key.KeyKind.TheVariants.{NoKey}
use Rattle.json_text.specs.Keys.{own_keys}
use Rattle.json_text.specs.declared.fault.JsonFault.TheVariants.{Form}
use Rattle.json_text.specs.Checking.{spot}
use Rattle.json_text.specs.Faults.{FaultInside, MembersFault, MembersFit, key_kind, kind_among}
use Rattle.json_text.specs.Said.{SaysInside, Item}
use Rattle.json_text.proofs.CheckedLemmas.{each_fault, checked_as, items_at}
use Rattle.json_text.proofs.WalkLemmas.{inside_says, inside_fault, no_levels, list_checked, item_checked, items_start, items_step, items_end, leaf_checked, level_shape, members_more, members_stop, no_key, single_checked, some_of}
use Rattle.json_text.proofs.checker.+checking.Goals as goal

pub check_inside-returns-then-levels-eq0 : goal.check_inside-returns-then-levels-eq0
check_inside-returns-then-levels-eq0 t c =
    each_fault (λ f. f ≡ Form c.args.path.now) (FaultInside c.args.levels (members_view c.args.members.now.entries) (spot c.args.path.now c.args.here.now))
    (λ f e. no_levels c.args.levels (spot c.args.path.now c.args.here.now) (members_view c.args.members.now.entries) f c.if-levels-eq0.true e) c.form.result c.form.ensures

pub check_inside-returns : goal.check_inside-returns
check_inside-returns t c =
    let here = spot c.args.path.now c.args.here.now
    in let ms = members_view c.args.members.now.entries
    in let less = c.args.levels - 1
    in let levels : c.args.levels ≡ suc less = omega (arith, c.if-levels-eq0.false)
    in checked_as (MembersFit (SaysInside less) here ms ms) ((items : List Item) × SaysInside c.args.levels ms here items)
    (MembersFault (SaysInside less) (FaultInside less) here ms ms) (FaultInside c.args.levels ms here)
    (inside_says c.args.levels less here ms levels c.rows_at.ensures.within) (λ f x. inside_fault c.args.levels less here ms f levels x)
    c.check_members.result c.check_members.ensures

pub check_item-check_level-requires : goal.check_item-check_level-requires
check_item-check_level-requires t c =
    let room : length c.in-Ok.child + c.args.levels ≤ MAX_STEPS = omega (arith, c.in-Ok.ensures.longer, c.requires)
    in let fewer : 8 * c.args.levels + 1 < t = omega (arith, c.decreases)
    in (fewer, room)

pub check_item-returns : goal.check_item-returns
check_item-returns t c = λ seen tracks.
    let is : view c.args.value.now ≡ object (members_view c.in-Object.members.entries) = ap view c.in-Object.is ∙ view-Object c.in-Object.members
    in item_checked (SaysInside c.args.levels) (FaultInside c.args.levels) c.args.path.now c.args.here.now c.args.id (view c.args.value.now)
    (members_view c.in-Object.members.entries) seen c.in-Ok.child c.entered.result c.next_child.new.names c.check_level.result is c.entered.ensures
    (c.in-Ok.ensures.next seen tracks) c.check_level.ensures

pub check_items-loop-value-init : goal.check_items-loop-value-init
check_items-loop-value-init t c =
    items_start (SaysInside c.args.levels) (FaultInside c.args.levels) (spot c.args.path.now c.args.here.now) c.args.id (items_view c.args.values.now)
    c.no_names-names.result (c.no_names-names.ensures (row_of c.args.id).ordered)

pub check_items-loop-value-preserved : goal.check_items-loop-value-preserved
check_items-loop-value-preserved t c =
    items_step (SaysInside c.args.levels) (FaultInside c.args.levels) (spot c.args.path.now c.args.here.now) c.args.id (items_view c.args.values.now) _ _
    (view c.value-item.result) c.loop-value.names c.check_item.new.names c.loop-value.invariant
    (items_at c.args.values.now c.loop-value.value-index c.value-item.result c.loop-value-test.true c.value-item.is)
    (c.in-Ok.ensures c.loop-value.invariant.seen c.loop-value.invariant.tracks)

pub check_items-returns : goal.check_items-returns
check_items-returns t c =
    items_end (SaysInside c.args.levels) (FaultInside c.args.levels) (spot c.args.path.now c.args.here.now) c.args.id (items_view c.args.values.now) _
    c.loop-value.names (ap items_view (drop_of_length-le c.args.values.now c.loop-value-test.false)) c.loop-value.invariant

pub check_list-returns-else-is_empty : goal.check_list-returns-else-is_empty
check_list-returns-else-is_empty t c =
    let is : view c.args.value.now ≡ array (items_view c.deref.result.now) =
    ap view c.in-Array.is ∙ view-Array c.in-Array.values ∙ ap (λ (vs : List Value). array (items_view vs)) (sym c.deref.ensures.value)
    in let some = some_of (vec_len c.in-Array.values) (length c.deref.result.now) c.is_empty.result c.is_empty.ensures c.if-is_empty.false c.deref.ensures.len
    in list_checked (SaysInside c.args.levels) (FaultInside c.args.levels) (spot c.args.path.now c.args.here.now) c.args.id c.deref.result.now
    (view c.args.value.now) c.check_items.result is some c.check_items.ensures

pub check_member-returns-in-NoKey : goal.check_member-returns-in-NoKey
check_member-returns-in-NoKey t c =
    let kind : key_kind c.args.here.now (string_bytes c.args.key.now) ≡ NoKey =
    sym (ap₂ (λ (ids : List ℕ) (key : List ℕ). kind_among ids (own_keys c.args.here.now.row) key) c.requires.rows c.as_bytes.ensures.value)
    ∙ sym c.key_kind.ensures ∙ c.in-NoKey.is
    in no_key (SaysInside c.args.levels) (FaultInside c.args.levels) (spot c.args.path.now c.args.here.now) (members_view c.args.members.now.entries)
    (string_bytes c.args.key.now) c.as_bytes-in-NoKey.result.now (view c.args.value.now) c.key_fault.result c.as_bytes-in-NoKey.ensures.value kind
    c.key_fault.ensures

pub check_members-returns-in-Err : goal.check_members-returns-in-Err
check_members-returns-in-Err t c =
    members_stop (SaysInside c.args.levels) (FaultInside c.args.levels) (spot c.args.path.now c.args.here.now) c.args.members.now.entries
    c.loop-key.key-iterator c.next.new.self (c.in-Some.key.now, c.in-Some.value.now) c.in-Some.ensures.steps c.loop-key.invariant.0 c.loop-key.invariant.1
    c.iter-key-items.ensures.ordered c.in-Err.fault c.in-Err.ensures

pub check_members-loop-key-preserved : goal.check_members-loop-key-preserved
check_members-loop-key-preserved t c =
    members_more (SaysInside c.args.levels) (FaultInside c.args.levels) (spot c.args.path.now c.args.here.now) c.args.members.now.entries
    c.loop-key.key-iterator c.next.new.self (c.in-Some.key.now, c.in-Some.value.now) c.in-Some.ensures.steps c.loop-key.invariant.0 c.loop-key.invariant.1
    c.in-Ok.ensures

pub check_row-returns-in-Leaf : goal.check_row-returns-in-Leaf
check_row-returns-in-Leaf t c =
    leaf_checked (SaysInside c.args.levels) (FaultInside c.args.levels) (spot c.args.path.now c.args.here.now) c.args.id (row_of c.args.id).shape
    c.row-row.result.value_kind c.in_ok-single.single (view c.args.value.now) c.check_leaf.result
    (ap (λ (r : Row). r.shape) (sym c.row-row.ensures) ∙ c.in-Leaf.is) (ap (λ (r : Row). r.value_kind) c.row-row.ensures) c.in_ok-single.ensures c.check_leaf.ensures

pub check_row-returns : goal.check_row-returns
check_row-returns t c =
    let shape = ap (λ (r : Row). r.shape) (sym c.row-row.ensures)
    in single_checked (SaysInside c.args.levels) (FaultInside c.args.levels) c.args.path.now c.args.here.now c.args.id (row_of c.args.id).shape
    (view c.args.value.now) c.in_ok-single.single c.entered.result c.check_object.result
    (ap is_named shape ∙ sym c.is_named.ensures ∙ c.if-is_named.false)
    (ap is_level shape ∙ level_shape c.row-row.result.shape c.in-Container.is) c.in_ok-single.ensures c.entered.ensures c.check_object.ensures
