use Rattle.std.proofs.Common.{rules, ◌≡◌, ◌+◌, ◌-◌, ◌*◌, ◌<◌, List, [], ◌∷◌, ◌++◌, length, None, Some, true, ◌==◌, eqb-true, arith, sym, ap, ◌∙◌, flat_map}
use Rattle.cfg_base.specs.declared.path.Step.{Step}
use Rattle.cfg_base.specs.declared.value.Value.{Value}
use Rattle.cfg_entries.specs.EntryMap.{Pair}
use Rattle.cfg_schema.specs.Place.{place_of, place_after}
use Rattle.cfg_schema.proofs.TestLemmas.{both}
use Rattle.cfg_tree.specs.Statements.{last_of}
use Rattle.cfg_tree.specs.Tree.{step_of}
use Rattle.printing_order.specs.Inside.{statements_inside}
use Rattle.cfg_tree.proofs.FollowLemmas.{room_below}
use Rattle.curly_print.specs.Printing.{own_if_of_row, own_row}
use Rattle.printing_order.proofs.NumberLemmas.{no_length, some_levels}
use Rattle.printing_order.proofs.PassLemmas.{at_inside, inside_longer, past_within, placed_child, placed_more}
use Rattle.printing_order.proofs.PutLemmas.{put_nothing, put_same}
use Rattle.printing_order.proofs.StatementsLemmas.{inside_at}
use Rattle.curly_print.proofs.TreeTextLemmas.{no_levels, none_inside, no_place, by_rows, row_unordered, no_child}
use Rattle.curly_print.proofs.tree_printer.TreePrinter.+printing.Goals as goal

pub push_below-returns-then-levels-eq0 : goal.push_below-returns-then-levels-eq0
push_below-returns-then-levels-eq0 t c =
    put_nothing c.args.text.now.items _ (no_levels c.args.levels c.args.self.now.tree.now c.args.path.now c.args.indent c.if-levels-eq0.true)

pub push_below-push_rows-requires : goal.push_below-push_rows-requires
push_below-push_rows-requires t c =
    let some = some_levels c.args.levels c.if-levels-eq0.false
    in let fewer : 8 * (c.args.levels - 1) + 7 < t = omega (arith, some, c.decreases)
    in (fewer, (room_below c.args.path.now _ c.requires.here, (c.requires.here, (c.requires.inside, (c.requires.tree, omega (arith, some, c.requires.near))))))

pub push_below-returns : goal.push_below-returns
push_below-returns t c =
    let rows = c.deref.ensures.value ∙ c.in_ok-rows.ensures
    in put_same c.push_rows.result c.args.text.now.items c.push_rows.new.text.items _ _ c.push_rows.ensures
    (ap (λ ids. flat_map (own_row (c.args.levels - 1) c.args.self.now.tree.now c.args.path.now c.args.indent) ids) rows
    ∙ sym (by_rows c.args.levels c.args.self.now.tree.now c.args.path.now c.args.indent c.args.here.now (some_levels c.args.levels c.if-levels-eq0.false) c.requires.here))

pub push_within-returns-then-is_empty : goal.push_within-returns-then-is_empty
push_within-returns-then-is_empty t c =
    let none : length c.args.inside.now ≡ 0 = search rules
    in put_nothing c.args.text.now.items _
    (none_inside c.args.levels c.args.self.now.tree.now c.args.statement.now.0 c.args.indent (sym c.requires.inside ∙ no_length c.args.inside.now none))

pub push_within-returns-in-None : goal.push_within-returns-in-None
push_within-returns-in-None t c =
    let placed : place_of c.args.statement.now.0 ≡ None =
    c.requires.above ∙ ap (λ (s : Step). place_after c.args.above.now s) (sym c.step.ensures) ∙ sym c.after.ensures ∙ c.in-None.is
    in put_nothing c.args.text.now.items _ (no_place c.args.levels c.args.self.now.tree.now c.args.statement.now.0 c.args.indent placed)

pub push_within-push_below-requires : goal.push_within-push_below-requires
push_within-push_below-requires t c =
    let fewer : 8 * c.args.levels < t = omega (arith, c.decreases)
    in let placed : place_of c.path.result.now ≡ Some c.in-Some.here =
    ap (λ (p : List Step). place_of p) c.path.ensures
    ∙ c.requires.above
    ∙ ap (λ (s : Step). place_after c.args.above.now s) (sym c.step.ensures)
    ∙ sym c.after.ensures
    ∙ c.in-Some.is
    in let inside = c.requires.inside ∙ ap (λ (p : List Step). statements_inside c.args.self.now.tree.now p) (sym c.path.ensures)
    in (fewer, (placed, (inside, (c.requires.tree, c.requires.near))))

pub push_row-returns-else-row : goal.push_row-returns-else-row
push_row-returns-else-row t c =
    put_same c.push_unordered.result c.args.text.now.items c.push_unordered.new.text.items _ _ c.push_unordered.ensures
    (ap (λ id. flat_map (own_if_of_row id (length c.args.path.now + 1) c.args.levels c.args.self.now.tree.now c.args.indent) c.args.inside.now) c.of.ensures
    ∙ row_unordered c.args.levels c.args.self.now.tree.now c.args.path.now c.args.indent c.args.id c.args.inside.now c.requires.inside
    (ap (λ r. r.ordered) (sym c.row.ensures) ∙ c.if-row.false))

pub push_child-push_statement-requires : goal.push_child-push_statement-requires
push_child-push_statement-requires t c =
    let fewer : 8 * c.args.levels + 3 < t = omega (arith, c.decreases)
    in let at : c.of-statement.result.0 ≡ c.args.path.now ++ step_of c.args.head.now c.args.name.now ∷ [] =
    ap (λ (e : Pair Value). e.0) c.of-statement.ensures ∙ c.in_ok-child.ensures
    in let placed = ap (λ (p : List Step). place_of p) at
    ∙ placed_more c.args.path.now (step_of c.args.head.now c.args.name.now) c.args.here.now c.requires.here
    ∙ ap (λ (p : List Step). place_after c.args.here.now (last_of p)) (sym at)
    in let inside = c.deref.ensures.value
    ∙ c.in_ok-inside-in-Some.ensures
    ∙ ap (λ (e : Pair Value). statements_inside c.args.self.now.tree.now e.0) (sym c.of-statement.ensures)
    in (fewer, (placed, (inside, (c.requires.tree, c.requires.near))))

pub push_unordered-push_if_of_row-requires : goal.push_unordered-push_if_of_row-requires
push_unordered-push_if_of_row-requires t c =
    let fewer : 8 * c.args.levels + 4 < t = omega (arith, c.decreases)
    in let inside = at_inside c.args.self.now.tree.now c.args.path.now c.args.inside.now c.loop-at.at c.index-inside-at.result c.requires.inside c.loop-at-test.true
    c.index-inside-at.is
    in let each = inside_at c.args.self.now.tree.now c.requires.tree c.args.path.now c.args.inside.now c.split_at.result.1.now c.loop-at.at c.index-inside-at.result
    c.requires.inside c.loop-at-test.true c.index-inside-at.is c.split_at.ensures.back
    in (
      fewer,
      (
        (λ long.
            placed_child c.args.path.now c.index-inside-at.result.0 c.args.here.now c.requires.here inside
            (long ∙ ap (λ (steps : List Step). length steps + 1) c.steps.ensures.steps)),
        (c.front_inside-within.ensures ∙ each, (c.requires.tree, c.requires.near)),
      ),
    )

pub push_unordered-loop-at-preserved : goal.push_unordered-loop-at-preserved
push_unordered-loop-at-preserved t c =
    let inside = at_inside c.args.self.now.tree.now c.args.path.now c.args.inside.now c.loop-at.at c.index-inside-at.result c.requires.inside c.loop-at-test.true
    c.index-inside-at.is
    in let counted = ap
    (λ (steps : List Step). c.loop-at.text.items
    ++ own_if_of_row c.args.words.now (length steps + 1) c.args.levels c.args.self.now.tree.now c.args.indent c.index-inside-at.result)
    c.steps.ensures.steps
    in past_within (own_if_of_row c.args.words.now (length c.args.path.now + 1) c.args.levels c.args.self.now.tree.now c.args.indent) (length c.args.path.now + 1)
    (no_child c.args.words.now (length c.args.path.now + 1) c.args.levels c.args.self.now.tree.now c.args.indent) c.args.text.now.items c.loop-at.text.items
    c.push_if_of_row.new.text.items c.args.inside.now c.split_at.result.1.now c.front_inside-within.result.now c.loop-at.at c.index-inside-at.result
    c.loop-at.invariant (c.in_ok-push_if_of_row.ensures ∙ counted) c.loop-at-test.true c.index-inside-at.is c.split_at.ensures.back
    c.front_inside-within.ensures (inside_longer c.args.path.now c.index-inside-at.result.0 inside)

pub push_if_of_row-push_statement-requires : goal.push_if_of_row-push_statement-requires
push_if_of_row-push_statement-requires t c =
    let fewer : 8 * c.args.levels + 3 < t = omega (arith, c.decreases)
    in let yes : c.is_of_row.result ≡ true = search rules
    in let parts = both (length c.args.statement.now.0 == c.args.count) _ (sym c.is_of_row.ensures ∙ yes)
    in (fewer, (c.requires.above (eqb-true _ _ parts.0), (c.requires.inside, (c.requires.tree, c.requires.near))))
