use Rattle.load_ops.proofs.BlockedLemmas.{passed_none, first_blocks, passed_more, unmarked, unchanged, passed_all}
use Rattle.load_ops.proofs.blocked.blocked.Goals as goal
use Rattle.load_ops.proofs.blocked.blocked.Goals.{else-value-via-then-value+else-differs_below, else-value-via-else-value}

pub loop-path-init : goal.loop-path-init
loop-path-init c = passed_none c.args.old.now c.args.made.now c.walk-left.result c.walk-left.ensures

pub returns-then-differs_below : goal.returns-then-differs_below
returns-then-differs_below c =
    first_blocks c.args.old.now c.args.made.now c.loop-path.left c.next.new.self c.in-Some.path.now c.in-Some.value.now c.loop-path.invariant
    c.in-Some.ensures c.if-value.true (c.differs_below.ensures.0 c.if-differs_below.true)

pub loop-path-preserved : goal.loop-path-preserved
loop-path-preserved c =
    passed_more c.args.old.now c.args.made.now c.loop-path.left c.next.new.self c.in-Some.path.now c.in-Some.value.now c.loop-path.invariant
    c.in-Some.ensures
    (elim c.else-value.branch [
      | else-value-via-then-value+else-differs_below w ↦
          unchanged c.args.old.now c.args.made.now c.loop-path.left c.next.new.self c.in-Some.path.now c.in-Some.value.now c.loop-path.invariant
          c.in-Some.ensures w.differs_below.result w.differs_below.ensures w.if-differs_below.false
      | else-value-via-else-value w ↦
          unmarked c.args.old.now c.args.made.now c.loop-path.left c.next.new.self c.in-Some.path.now c.in-Some.value.now c.loop-path.invariant
          c.in-Some.ensures w.if-value.false
    ])

pub returns : goal.returns
returns c = passed_all c.args.old.now c.args.made.now c.loop-path.left c.loop-path.invariant c.in_default.ensures
