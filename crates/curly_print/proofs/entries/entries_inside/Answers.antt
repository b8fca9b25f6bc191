use Rattle.std.proofs.Common.{List, length, sym, ap}
use Rattle.cfg_base.specs.declared.path.Step.{Step}
use Rattle.cfg_tree.specs.Children.{is_inside}
use Rattle.printing_order.proofs.EntriesLemmas.{inside_part, long_inside, ahead_start, ahead_taken, ahead_end, ahead_other, ahead_less}
use Rattle.curly_print.proofs.entries.entries_inside.Goals as goal
use Rattle.curly_print.proofs.entries.entries_inside.Goals.{in-Some+then-not-is_below, in_default}

pub loop-at-init : goal.loop-at-init
loop-at-init c =
    ahead_start c.args.path.now (is_inside c.args.path.now) (inside_part c.args.path.now) c.args.full.now c.walk_from-walk.result c.new-entries.result.items c.new-entries.ensures.items
    c.walk_from-walk.ensures

pub loop-at-preserved : goal.loop-at-preserved
loop-at-preserved c =
    ahead_taken c.args.path.now (is_inside c.args.path.now) (c.in-Some.at.now, c.in-Some.given.now) c.loop-at.walk c.next.new.self c.loop-at.entries.items
    c.push_if_long.new.entries.items _ _
    (long_inside c.args.path.now c.in-Some.at.now _ (ap (λ (p : List Step). length p) c.steps-count.ensures.steps) (sym c.if-not-is_below.ensures))
    c.in-Some.ensures (sym c.if-not-is_below.ensures) c.in_ok-push_if_long.ensures c.loop-at.invariant

pub loop-at-smaller : goal.loop-at-smaller
loop-at-smaller c = ahead_less (c.in-Some.at.now, c.in-Some.given.now) c.loop-at.walk c.next.new.self c.in-Some.ensures

pub returns : goal.returns
returns c =
    elim c.match-next.branch [
      | in-Some+then-not-is_below w ↦
          ahead_other c.args.path.now (is_inside c.args.path.now) (w.in-Some.at.now, w.in-Some.given.now) c.loop-at.walk c.next.new.self c.loop-at.entries.items _ w.in-Some.ensures
          (sym w.if-not-is_below.ensures) c.loop-at.invariant
      | in_default w ↦ ahead_end c.args.path.now (is_inside c.args.path.now) c.loop-at.walk c.loop-at.entries.items _ w.in_default.ensures c.loop-at.invariant
    ]
