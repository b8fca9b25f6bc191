use Rattle.std.proofs.Common.{List, length, sym, ap}
use Rattle.cfg_base.specs.declared.path.Step.{Step}
use Rattle.cfg_tree.specs.Children.{is_inside}
use Rattle.printing_order.proofs.EntriesLemmas.{inside_part, long_inside, ahead_start, ahead_taken, ahead_end, ahead_other, ahead_less}
use Rattle.printing_order.proofs.statements.statements_below.Goals as goal
use Rattle.printing_order.proofs.statements.statements_below.Goals.{in-Some+then-not-is_below, in_default}

pub loop-at-init : goal.loop-at-init
loop-at-init c =
    ahead_start c.args.path.now (is_inside c.args.path.now) (inside_part c.args.path.now) c.args.tree.now c.walk_from-walk.result c.new-statements.result.items c.new-statements.ensures.items
    c.walk_from-walk.ensures

pub loop-at-preserved : goal.loop-at-preserved
loop-at-preserved c =
    ahead_taken c.args.path.now (is_inside c.args.path.now) (c.in-Some.at.now, c.in-Some.value.now) c.loop-at.walk c.next.new.self c.loop-at.statements.items
    c.push_if_long.new.statements.items _ _
    (long_inside c.args.path.now c.in-Some.at.now _ (ap (λ (p : List Step). length p) c.steps-count.ensures.steps) (sym c.if-not-is_below.ensures))
    c.in-Some.ensures (sym c.if-not-is_below.ensures) c.in_ok-push_if_long.ensures c.loop-at.invariant

pub loop-at-smaller : goal.loop-at-smaller
loop-at-smaller c = ahead_less (c.in-Some.at.now, c.in-Some.value.now) c.loop-at.walk c.next.new.self c.in-Some.ensures

pub returns : goal.returns
returns c =
    elim c.match-next.branch [
      | in-Some+then-not-is_below w ↦
          ahead_other c.args.path.now (is_inside c.args.path.now) (w.in-Some.at.now, w.in-Some.value.now) c.loop-at.walk c.next.new.self c.loop-at.statements.items _ w.in-Some.ensures
          (sym w.if-not-is_below.ensures) c.loop-at.invariant
      | in_default w ↦ ahead_end c.args.path.now (is_inside c.args.path.now) c.loop-at.walk c.loop-at.statements.items _ w.in_default.ensures c.loop-at.invariant
    ]
