use Rattle.std.proofs.Common.{rules, ◌≡◌, ◌+◌, ◌-◌, ◌*◌, ◌<◌, ℕ, List, [], ◌∷◌, ◌++◌, ◌==◌, eqb-true, true, IsUtf8, length, map, None, Some, false, arith, sym, ap, subst, ◌∙◌, flat_map}
use Rattle.std.specs.Prelude.{slice_index_or}
use Rattle.std.specs.Option.{option_copied}
use Rattle.std.specs.List.{AllByRecursion}
use Rattle.cfg_base.specs.declared.path.Step.{Step}
use Rattle.cfg_base.specs.declared.value.Value.{Value}
use Rattle.cfg_entries.specs.EntryMap.{Pair}
use Rattle.cfg_schema.specs.Profile.{row_of, is_named}
use Rattle.cfg_schema.specs.Place.{place_of, place_after}
use Rattle.cfg_schema.proofs.TestLemmas.{both}
use Rattle.cfg_tree.specs.Statements.{last_of}
use Rattle.cfg_tree.specs.Tree.{step_of}
use Rattle.cfg_tree.proofs.FollowLemmas.{room_below}
use Rattle.printing_order.specs.Inside.{statements_inside}
use Rattle.printing_order.proofs.NumberLemmas.{no_length, some_levels}
use Rattle.printing_order.proofs.PassLemmas.{at_inside, inside_longer, past_within, placed_child, placed_more}
use Rattle.printing_order.proofs.PutLemmas as put
use Rattle.printing_order.proofs.StatementsLemmas.{inside_at}
use Rattle.serde_json.specs.View.{view, members_view}
use Rattle.json_text.specs.Written.{put_all}
use Rattle.json_text.specs.Writing.{IsIn, IsText, alone_if_of_row, object_if_of_row, own_row}
use Rattle.json_text.proofs.TextLemmas.{text_in, first_text}
use Rattle.json_text.proofs.WritingLemmas.{put_nothing, put_same, put_more, no_levels, no_place, none_inside, by_rows, objects_unordered, single_row, inside_in, put_past, no_object, no_alone}
use Rattle.json_text.proofs.writer.Writer.+writing.Goals as goal

pub put_below-returns-then-levels-eq0 : goal.put_below-returns-then-levels-eq0
put_below-returns-then-levels-eq0 t c =
    put_nothing (members_view c.args.members.now.entries) _ (no_levels c.args.levels c.args.self.now.tree.now c.args.path.now c.if-levels-eq0.true)

pub put_below-put_rows-requires : goal.put_below-put_rows-requires
put_below-put_rows-requires t c =
    let some = some_levels c.args.levels c.if-levels-eq0.false
    in let fewer : 9 * (c.args.levels - 1) + 8 < t = omega (arith, some, c.decreases)
    in (fewer, (room_below c.args.path.now _ c.requires.here, (c.requires.here, (c.requires.inside, c.requires.tree))))

pub put_below-returns : goal.put_below-returns
put_below-returns t c =
    let rows = c.deref.ensures.value ∙ c.in_ok-rows.ensures
    in put_same c.put_rows.result (members_view c.args.members.now.entries) (members_view c.put_rows.new.members.entries) _ _ c.put_rows.ensures
    (ap (λ (ids : List ℕ). flat_map (own_row (c.args.levels - 1) c.args.self.now.tree.now c.args.path.now) ids) rows
    ∙ sym (by_rows c.args.levels c.args.self.now.tree.now c.args.path.now c.args.here.now (some_levels c.args.levels c.if-levels-eq0.false) c.requires.here))

pub put_within-returns-then-is_empty : goal.put_within-returns-then-is_empty
put_within-returns-then-is_empty t c =
    let none : length c.args.inside.now ≡ 0 = search rules
    in put_nothing (members_view c.args.members.now.entries) _
    (none_inside c.args.levels c.args.self.now.tree.now c.args.statement.now.0 (sym c.requires.inside ∙ no_length c.args.inside.now none))

pub put_within-returns-in-None : goal.put_within-returns-in-None
put_within-returns-in-None t c =
    let placed : place_of c.args.statement.now.0 ≡ None =
    c.requires.above ∙ ap (λ (s : Step). place_after c.args.above.now s) (sym c.step.ensures) ∙ sym c.after.ensures ∙ c.in-None.is
    in put_nothing (members_view c.args.members.now.entries) _ (no_place c.args.levels c.args.self.now.tree.now c.args.statement.now.0 placed)

pub put_within-put_below-requires : goal.put_within-put_below-requires
put_within-put_below-requires t c =
    let fewer : 9 * c.args.levels < t = omega (arith, c.decreases)
    in let placed : place_of c.path.result.now ≡ Some c.in-Some.here =
    ap (λ (p : List Step). place_of p) c.path.ensures
    ∙ c.requires.above
    ∙ ap (λ (s : Step). place_after c.args.above.now s) (sym c.step.ensures)
    ∙ sym c.after.ensures
    ∙ c.in-Some.is
    in let inside = c.requires.inside ∙ ap (λ (p : List Step). statements_inside c.args.self.now.tree.now p) (sym c.path.ensures)
    in (fewer, (placed, (inside, c.requires.tree)))

pub put_rows-loop-id-preserved : goal.put_rows-loop-id-preserved
put_rows-loop-id-preserved t c =
    put_more (own_row c.args.levels c.args.self.now.tree.now c.args.path.now) (members_view c.args.members.now.entries) (members_view c.loop-id.members.entries) _
    c.args.rows.now c.loop-id.id-index _ c.loop-id.invariant c.in_ok-put_row.ensures c.loop-id-test.true c.id-item.is

pub put_row-returns-else-is_named : goal.put_row-returns-else-is_named
put_row-returns-else-is_named t c =
    let plain : is_named (row_of c.args.id).shape ≡ false =
    ap (λ r. is_named r.shape) (sym c.row.ensures) ∙ sym c.is_named.ensures ∙ c.if-is_named.false
    in put_same c.put_single.result (members_view c.args.members.now.entries) (members_view c.put_single.new.members.entries) _ _ c.put_single.ensures
    (single_row c.args.levels c.args.self.now.tree.now c.args.path.now c.args.id c.args.inside.now c.requires.inside plain)

pub push_row-returns-else-row : goal.push_row-returns-else-row
push_row-returns-else-row t c =
    put.put_same c.push_unordered.result (map view c.args.objects.now.items) (map view c.push_unordered.new.objects.items) _ _ c.push_unordered.ensures
    (ap (λ (id : ℕ). flat_map (object_if_of_row id (length c.args.path.now + 1) c.args.levels c.args.self.now.tree.now) c.args.inside.now) c.of.ensures
    ∙ objects_unordered c.args.levels c.args.self.now.tree.now c.args.path.now c.args.id c.args.inside.now c.requires.inside
    (ap (λ r. r.ordered) (sym c.row.ensures) ∙ c.if-row.false))

pub push_child-push_object-requires : goal.push_child-push_object-requires
push_child-push_object-requires t c =
    let fewer : 9 * c.args.levels + 3 < t = omega (arith, c.decreases)
    in let same = c.of-statement.ensures
    in let found : IsIn c.args.self.now.tree.now (c.in_ok-child.child, c.in-Some.value.now) = sym c.at.ensures.value ∙ ap option_copied c.in-Some.is
    in let inside = c.deref.ensures.value ∙ c.in_ok-inside-in-Some.ensures ∙ ap (λ (e : Pair Value). statements_inside c.args.self.now.tree.now e.0) (sym same)
    in let at : c.of-statement.result.0 ≡ c.args.path.now ++ step_of c.args.head.now c.args.name.now ∷ [] =
    ap (λ (e : Pair Value). e.0) same ∙ c.in_ok-child.ensures
    in let placed = ap (λ (p : List Step). place_of p) at
    ∙ placed_more c.args.path.now (step_of c.args.head.now c.args.name.now) c.args.here.now c.requires.here
    ∙ ap (λ (p : List Step). place_after c.args.here.now (last_of p)) (sym at)
    in (fewer, (subst (λ (e : Pair Value). IsIn c.args.self.now.tree.now e) (sym same) found, (placed, (inside, c.requires.tree))))

pub push_unordered-push_if_of_row-requires : goal.push_unordered-push_if_of_row-requires
push_unordered-push_if_of_row-requires t c =
    let fewer : 9 * c.args.levels + 4 < t = omega (arith, c.decreases)
    in let each = inside_at c.args.self.now.tree.now c.requires.tree c.args.path.now c.args.inside.now c.split_at.result.1.now c.loop-at.at c.index-inside-at.result
    c.requires.inside c.loop-at-test.true c.index-inside-at.is c.split_at.ensures.back
    in let found = inside_in c.args.self.now.tree.now c.args.path.now c.args.inside.now c.loop-at.at c.index-inside-at.result c.requires.inside c.loop-at-test.true c.index-inside-at.is
    in let inside = at_inside c.args.self.now.tree.now c.args.path.now c.args.inside.now c.loop-at.at c.index-inside-at.result c.requires.inside c.loop-at-test.true
    c.index-inside-at.is
    in let placed : length c.index-inside-at.result.0 ≡ length c.steps.result.now + 1
    → place_of c.index-inside-at.result.0 ≡ place_after c.args.here.now (last_of c.index-inside-at.result.0) =
    λ long.
    placed_child c.args.path.now c.index-inside-at.result.0 c.args.here.now c.requires.here inside
    (long ∙ ap (λ (steps : List Step). length steps + 1) c.steps.ensures.steps)
    in (fewer, (found, (placed, (c.front_inside-within.ensures ∙ each, c.requires.tree))))

pub push_unordered-loop-at-preserved : goal.push_unordered-loop-at-preserved
push_unordered-loop-at-preserved t c =
    let inside = at_inside c.args.self.now.tree.now c.args.path.now c.args.inside.now c.loop-at.at c.index-inside-at.result c.requires.inside c.loop-at-test.true
    c.index-inside-at.is
    in let counted = ap (λ (steps : List Step). map view c.loop-at.objects.items
    ++ object_if_of_row c.args.words.now (length steps + 1) c.args.levels c.args.self.now.tree.now c.index-inside-at.result) c.steps.ensures.steps
    in past_within (object_if_of_row c.args.words.now (length c.args.path.now + 1) c.args.levels c.args.self.now.tree.now) (length c.args.path.now + 1)
    (no_object c.args.words.now (length c.args.path.now + 1) c.args.levels c.args.self.now.tree.now) (map view c.args.objects.now.items)
    (map view c.loop-at.objects.items) (map view c.push_if_of_row.new.objects.items) c.args.inside.now c.split_at.result.1.now
    c.front_inside-within.result.now c.loop-at.at c.index-inside-at.result c.loop-at.invariant (c.in_ok-push_if_of_row.ensures ∙ counted)
    c.loop-at-test.true c.index-inside-at.is c.split_at.ensures.back c.front_inside-within.ensures
    (inside_longer c.args.path.now c.index-inside-at.result.0 inside)

pub push_if_of_row-push_object-requires : goal.push_if_of_row-push_object-requires
push_if_of_row-push_object-requires t c =
    let fewer : 9 * c.args.levels + 3 < t = omega (arith, c.decreases)
    in let yes : c.is_of_row.result ≡ true = search rules
    in let parts = both (length c.args.statement.now.0 == c.args.count) _ (sym c.is_of_row.ensures ∙ yes)
    in (fewer, (c.requires.found, (c.requires.above (eqb-true _ _ parts.0), (c.requires.inside, c.requires.tree))))

pub put_single-put_if_of_row-requires : goal.put_single-put_if_of_row-requires
put_single-put_if_of_row-requires t c =
    let fewer : 9 * c.args.levels + 4 < t = omega (arith, c.decreases)
    in let each = inside_at c.args.self.now.tree.now c.requires.tree c.args.path.now c.args.inside.now c.split_at.result.1.now c.loop-at.at c.index-inside-at.result
    c.requires.inside c.loop-at-test.true c.index-inside-at.is c.split_at.ensures.back
    in let found = inside_in c.args.self.now.tree.now c.args.path.now c.args.inside.now c.loop-at.at c.index-inside-at.result c.requires.inside c.loop-at-test.true c.index-inside-at.is
    in let inside = at_inside c.args.self.now.tree.now c.args.path.now c.args.inside.now c.loop-at.at c.index-inside-at.result c.requires.inside c.loop-at-test.true
    c.index-inside-at.is
    in let placed : length c.index-inside-at.result.0 ≡ length c.steps.result.now + 1
    → place_of c.index-inside-at.result.0 ≡ place_after c.args.here.now (last_of c.index-inside-at.result.0) =
    λ long.
    placed_child c.args.path.now c.index-inside-at.result.0 c.args.here.now c.requires.here inside
    (long ∙ ap (λ (steps : List Step). length steps + 1) c.steps.ensures.steps)
    in (fewer, (c.requires.words, (found, (placed, (c.front_inside-within.ensures ∙ each, c.requires.tree)))))

pub put_single-loop-at-preserved : goal.put_single-loop-at-preserved
put_single-loop-at-preserved t c =
    let inside = at_inside c.args.self.now.tree.now c.args.path.now c.args.inside.now c.loop-at.at c.index-inside-at.result c.requires.inside c.loop-at-test.true
    c.index-inside-at.is
    in let counted = ap (λ (steps : List Step). put_all (members_view c.loop-at.members.entries)
    (alone_if_of_row c.args.id (length steps + 1) c.args.levels c.args.self.now.tree.now c.index-inside-at.result)) c.steps.ensures.steps
    in put_past (alone_if_of_row c.args.id (length c.args.path.now + 1) c.args.levels c.args.self.now.tree.now) (length c.args.path.now + 1)
    (no_alone c.args.id (length c.args.path.now + 1) c.args.levels c.args.self.now.tree.now) (members_view c.args.members.now.entries)
    (members_view c.loop-at.members.entries) _ c.args.inside.now c.split_at.result.1.now c.front_inside-within.result.now c.loop-at.at
    c.index-inside-at.result c.loop-at.invariant (c.in_ok-put_if_of_row.ensures ∙ counted) c.loop-at-test.true c.index-inside-at.is
    c.split_at.ensures.back c.front_inside-within.ensures (inside_longer c.args.path.now c.index-inside-at.result.0 inside)

pub put_if_of_row-put_alone-requires : goal.put_if_of_row-put_alone-requires
put_if_of_row-put_alone-requires t c =
    let fewer : 9 * c.args.levels + 3 < t = omega (arith, c.decreases)
    in let yes : c.is_of_row.result ≡ true = search rules
    in let parts = both (length c.args.statement.now.0 == c.args.count) _ (sym c.is_of_row.ensures ∙ yes)
    in (fewer, (c.requires.found, (c.requires.above (eqb-true _ _ parts.0), (c.requires.inside, c.requires.tree))))

pub put_alone-string_of-requires : goal.put_alone-string_of-requires
put_alone-string_of-requires t c =
    let text = text_in c.args.self.now.tree.now c.requires.tree c.args.statement.now.0 c.args.statement.now.1 c.requires.found
    in let same : c.first_of.result.now ≡ slice_index_or c.args.statement.now.1.words 0 [] = c.first_of.ensures ∙ ap (λ (v : Value). slice_index_or v.words 0 []) c.value-value.ensures
    in subst (λ (w : List ℕ). IsUtf8 w) (sym same) (first_text c.args.statement.now.1.words text.words)

pub put_alone-strings_of-requires : goal.put_alone-strings_of-requires
put_alone-strings_of-requires t c =
    let text = text_in c.args.self.now.tree.now c.requires.tree c.args.statement.now.0 c.args.statement.now.1 c.requires.found
    in subst (λ (v : Value). AllByRecursion IsUtf8 v.words) (sym c.value-value.ensures) text.words

pub level-put_own-requires : goal.level-put_own-requires
level-put_own-requires t c =
    let text = text_in c.args.self.now.tree.now c.requires.tree c.args.statement.now.0 c.args.statement.now.1 c.requires.found
    in subst (λ (s : Step). IsText s c.value.result.now) (sym c.step.ensures)
    (subst (λ (v : Value). IsText (last_of c.args.statement.now.0) v) (sym c.value.ensures) text)
