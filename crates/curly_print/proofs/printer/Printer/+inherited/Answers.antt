use Rattle.std.proofs.Common.{rules, ◌≡◌, ◌+◌, ◌-◌, ◌*◌, ◌<◌, List, length, None, Some, arith, sym, ap, subst, ◌∙◌, flat_map}
use Rattle.cfg_base.specs.declared.path.Step.{Step}
use Rattle.cfg_schema.specs.Place.{place_of}
use Rattle.cfg_tree.proofs.FollowLemmas.{room_below}
use Rattle.curly_print.specs.Inheriting.{FullEntry, HasInside, entry_if, row_text}
use Rattle.printing_order.proofs.NumberLemmas.{no_length, some_levels}
use Rattle.printing_order.proofs.PutLemmas.{put_nothing, put_same}
use Rattle.curly_print.proofs.EntryLemmas.{at_place, none_below, row_printed, whole}
use Rattle.curly_print.proofs.InheritedLemmas.{no_levels, no_entries, no_place, by_rows}
use Rattle.curly_print.proofs.printer.Printer.+inherited.Goals as goal

pub push_below-returns-then-levels-eq0 : goal.push_below-returns-then-levels-eq0
push_below-returns-then-levels-eq0 t c =
    put_nothing c.args.text.now.items _ (no_levels c.args.levels c.args.self.now.full.now c.args.path.now c.args.indent c.if-levels-eq0.true)

pub push_below-returns-then-is_empty : goal.push_below-returns-then-is_empty
push_below-returns-then-is_empty t c =
    let none : length c.args.inside.now ≡ 0 = search rules
    in put_nothing c.args.text.now.items _
    (no_entries c.args.levels c.args.self.now.full.now c.args.path.now c.args.indent
    (none_below c.args.self.now.full.now c.args.path.now c.args.inside.now c.requires.inside (no_length c.args.inside.now none)))

pub push_below-returns-in-None : goal.push_below-returns-in-None
push_below-returns-in-None t c =
    let placed : place_of c.args.path.now ≡ None = ap (λ (p : List Step). place_of p) (sym c.steps.ensures.steps) ∙ sym c.of.ensures ∙ c.in-None.is
    in put_nothing c.args.text.now.items _ (no_place c.args.levels c.args.self.now.full.now c.args.path.now c.args.indent placed)

pub push_below-push_rows-requires : goal.push_below-push_rows-requires
push_below-push_rows-requires t c =
    let placed : place_of c.args.path.now ≡ Some c.in-Some.here =
    ap (λ (p : List Step). place_of p) (sym c.steps.ensures.steps) ∙ sym c.of.ensures ∙ c.in-Some.is
    in let some = some_levels c.args.levels c.if-levels-eq0.false
    in let fewer : 8 * (c.args.levels - 1) + 7 < t = omega (arith, some, c.decreases)
    in (fewer, (room_below c.args.path.now _ placed, (c.requires.inside, omega (arith, some, c.requires.near))))

pub push_below-returns : goal.push_below-returns
push_below-returns t c =
    let placed : place_of c.args.path.now ≡ Some c.in-Some.here =
    ap (λ (p : List Step). place_of p) (sym c.steps.ensures.steps) ∙ sym c.of.ensures ∙ c.in-Some.is
    in let rows = c.deref.ensures.value ∙ c.in_ok-rows.ensures
    in put_same c.push_rows.result c.args.text.now.items c.push_rows.new.text.items _ _ c.push_rows.ensures
    (ap (λ ids. flat_map (row_text (c.args.levels - 1) c.args.self.now.full.now c.args.path.now c.args.indent) ids) rows
    ∙ sym (by_rows c.args.levels c.args.self.now.full.now c.args.path.now c.args.indent c.in-Some.here (some_levels c.args.levels c.if-levels-eq0.false) placed))

pub push_row-returns-else-row : goal.push_row-returns-else-row
push_row-returns-else-row t c =
    put_same c.push_unordered.result c.args.text.now.items c.push_unordered.new.text.items _ _ c.push_unordered.ensures
    (ap (λ id. flat_map (entry_if c.args.path.now id c.args.levels c.args.self.now.full.now c.args.indent) c.args.inside.now) c.of.ensures
    ∙ row_printed c.args.levels c.args.self.now.full.now c.args.path.now c.args.indent c.args.id c.args.inside.now c.requires.inside
    (ap (λ r. r.ordered) (sym c.row.ensures) ∙ c.if-row.false))

pub push_unordered-push_if_of_row-requires : goal.push_unordered-push_if_of_row-requires
push_unordered-push_if_of_row-requires t c =
    let fewer : 8 * c.args.levels + 4 < t = omega (arith, c.decreases)
    in let each = at_place c.args.self.now.full.now c.args.path.now c.args.inside.now c.split_at.result.1.now c.loop-at.at c.index-inside-at.result
    c.requires.inside c.loop-at-test.true c.index-inside-at.is c.split_at.ensures.back
    in (fewer, (each, (ap (λ (p : List Step). length p + 1) c.steps.ensures.steps, c.requires.near)))

pub push_child-push_entry-requires : goal.push_child-push_entry-requires
push_child-push_entry-requires t c =
    let fewer : 8 * c.args.levels + 3 < t = omega (arith, c.decreases)
    in let child = ap (λ (e : FullEntry). e.0) c.of.ensures
    in let has = whole c.args.self.now.full.now c.in_ok-child.child c.deref.result.now (c.deref.ensures.value ∙ c.in_ok-inside-in-Some.ensures)
    in (fewer, (subst (λ (p : List Step). HasInside c.args.self.now.full.now p c.deref.result.now) (sym child) has, c.requires.near))
