use Rattle.std.proofs.Common.{rules, arith, sym, ◌∙◌}
use Rattle.group_expand.proofs.RowLemmas.{so_far_more, so_far_ends, next_shorter}
use Rattle.group_expand.proofs.DepthLemmas.{told_first, told_next}
use Rattle.group_expand.proofs.row.count_below.Goals as goal

pub returns-then-not-begins_deeper : goal.returns-then-not-begins_deeper
returns-then-not-begins_deeper c = record {
  count = so_far_ends c.args.above.now.path c.args.rest.now c.loop-left.left.now c.loop-left.invariant.0 (search rules)
      (told_first c.args.above.now.path c.loop-left.left.now (search rules) c.loop-left.invariant.1 ∙ sym c.begins_deeper.ensures ∙ c.if-not-begins_deeper.true);
  within = omega arith;
}

pub loop-left-preserved : goal.loop-left-preserved
loop-left-preserved c =
    let i = c.loop-left.invariant.0
    in let below = told_first c.args.above.now.path c.loop-left.left.now (search rules) c.loop-left.invariant.1 ∙ sym c.begins_deeper.ensures ∙ c.if-not-begins_deeper.false
    in (
      so_far_more c.args.above.now.path c.args.rest.now c.loop-left.left.now c.beside-left.result.now i (search rules) below c.beside-left.ensures,
      told_next c.args.above.now.path c.loop-left.left.now c.beside-left.result.now (search rules) below i.2 c.loop-left.invariant.1 c.beside-left.ensures,
    )

pub loop-left-smaller : goal.loop-left-smaller
loop-left-smaller c =
    let i = c.loop-left.invariant.0 in next_shorter c.loop-left.left.now c.beside-left.result.now (search rules) i.1 i.2 c.beside-left.ensures
