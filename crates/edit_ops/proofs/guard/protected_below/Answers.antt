use Rattle.std.proofs.Common.{sym}
use Rattle.edit_ops.proofs.GuardLemmas.{passed_none, none_beyond, first_found, passed_more, fewer_after}
use Rattle.edit_ops.proofs.guard.protected_below.Goals as goal

pub loop-next-init : goal.loop-next-init
loop-next-init c = passed_none c.args.tree.now c.args.path.now

pub returns-then-not-is_below : goal.returns-then-not-is_below
returns-then-not-is_below c =
    none_beyond c.args.tree.now c.args.path.now c.loop-next.before.now c.in-Some.next.now c.in-Some.value.now c.loop-next.invariant c.in-Some.ensures (sym c.if-not-is_below.ensures)

pub returns-then-value : goal.returns-then-value
returns-then-value c =
    first_found c.args.tree.now c.args.path.now c.loop-next.before.now c.in-Some.next.now c.in-Some.value.now c.loop-next.invariant c.in-Some.ensures (sym c.if-not-is_below.ensures) c.if-value.true

pub loop-next-smaller : goal.loop-next-smaller
loop-next-smaller c = fewer_after c.args.tree.now c.loop-next.before.now c.in-Some.next.now c.in-Some.value.now c.in-Some.ensures

pub loop-next-preserved : goal.loop-next-preserved
loop-next-preserved c =
    passed_more c.args.tree.now c.args.path.now c.loop-next.before.now c.in-Some.next.now c.in-Some.value.now c.loop-next.invariant c.in-Some.ensures (sym c.if-not-is_below.ensures) c.if-value.false
