use Rattle.std.proofs.Common.{◌≡◌, ap, ◌∙◌, cond, Some, None, List}
use Rattle.std.specs.Option.{option_copied}
use Rattle.cfg_entries.specs.EntryMap.{Pair}
use Rattle.cfg_base.specs.declared.path.Step.{Step}
use Rattle.cfg_base.specs.declared.value.Value.{Value}
use Rattle.load_ops.specs.Left.{is_tagged, value_left}
use Rattle.load_ops.specs.Parts.{entries_left}
use Rattle.load_ops.proofs.LeftLemmas.{covered_goes, tagged_goes, other_stays, past_covered, past_tagged, past_other, left_without, left_with, kept_on, kept_same, told, begun}
use Rattle.load_ops.proofs.LeftTreeLemmas.{walk_begins}
use Rattle.load_ops.proofs.left.statements_left.Goals as goal

pub loop-path-init : goal.loop-path-init
loop-path-init c = (
  walk_begins c.args.tree.now c.args.tags.now (option_copied c.top_if_tagged-gone.result) c.walk-left.result c.count.ensures.tree c.walk-left.ensures
      (c.top_if_tagged-gone.ensures ∙ ap (λ (p : List Step). cond (is_tagged c.args.tags.now p) (Some p) None) c.top-top.ensures),
  begun c.in_ok-items.items.items _ _ c.in_ok-items.ensures.items (ap (λ (xs : List (Pair Value)). entries_left c.args.tags.now xs) c.walk-left.ensures),
)

pub loop-path-preserved-then-has : goal.loop-path-preserved-then-has
loop-path-preserved-then-has c =
    let apart = told c.is_covered.result _ _ c.is_covered.ensures c.if-not-is_covered.true
    in let tagged = told c.has.result _ _ c.has.ensures c.if-has.true
    in (
      past_tagged c.args.tags.now (option_copied c.loop-path.gone) c.loop-path.left c.next.new.self c.in-Some.path.now c.in-Some.value.now
          c.loop-path.invariant.0 c.in-Some.ensures apart tagged,
      kept_same c.loop-path.items.items _ _ _ c.loop-path.invariant.1
          (left_without c.args.tags.now (option_copied c.loop-path.gone) c.loop-path.left c.next.new.self c.in-Some.path.now c.in-Some.value.now
          c.loop-path.invariant.0 c.in-Some.ensures
          (tagged_goes c.args.tags.now (option_copied c.loop-path.gone) c.loop-path.left c.next.new.self c.in-Some.path.now c.in-Some.value.now
          c.loop-path.invariant.0 c.in-Some.ensures tagged)),
    )

pub loop-path-preserved-in_ok-push : goal.loop-path-preserved-in_ok-push
loop-path-preserved-in_ok-push c =
    let apart = told c.is_covered.result _ _ c.is_covered.ensures c.if-not-is_covered.true
    in let other = told c.has.result _ _ c.has.ensures c.if-has.false
    in let same : ◌≡◌ {A = Pair Value} (c.in_ok-clone.field-0, c.in_ok-value_left.field-0) (c.in-Some.path.now, value_left c.args.tags.now c.in-Some.path.now c.in-Some.value.now) =
    λ i. (c.in_ok-clone.ensures.cases i, c.in_ok-value_left.ensures i)
    in (
      past_other c.args.tags.now (option_copied c.loop-path.gone) c.loop-path.left c.next.new.self c.in-Some.path.now c.in-Some.value.now
          c.loop-path.invariant.0 c.in-Some.ensures other,
      kept_on c.loop-path.items.items _ _ _ _ (c.in-Some.path.now, value_left c.args.tags.now c.in-Some.path.now c.in-Some.value.now) _
          c.loop-path.invariant.1
          (left_with c.args.tags.now (option_copied c.loop-path.gone) c.loop-path.left c.next.new.self c.in-Some.path.now c.in-Some.value.now
          c.loop-path.invariant.0 c.in-Some.ensures
          (other_stays c.args.tags.now (option_copied c.loop-path.gone) c.loop-path.left c.next.new.self c.in-Some.path.now c.in-Some.value.now
          c.loop-path.invariant.0 c.in-Some.ensures apart other))
          c.in_ok-push.ensures.items same,
    )

pub loop-path-preserved : goal.loop-path-preserved
loop-path-preserved c =
    let covered = told c.is_covered.result _ _ c.is_covered.ensures c.if-not-is_covered.false
    in (
      past_covered c.args.tags.now (option_copied c.loop-path.gone) c.loop-path.left c.next.new.self c.in-Some.path.now c.in-Some.value.now
          c.loop-path.invariant.0 c.in-Some.ensures covered,
      kept_same c.loop-path.items.items _ _ _ c.loop-path.invariant.1
          (left_without c.args.tags.now (option_copied c.loop-path.gone) c.loop-path.left c.next.new.self c.in-Some.path.now c.in-Some.value.now
          c.loop-path.invariant.0 c.in-Some.ensures
          (covered_goes c.args.tags.now (option_copied c.loop-path.gone) c.loop-path.left c.next.new.self c.in-Some.path.now c.in-Some.value.now
          c.loop-path.invariant.0 c.in-Some.ensures covered)),
    )
