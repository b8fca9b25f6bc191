use Rattle.std.proofs.Common.{◌∙◌, subst, sym, List}
use Rattle.cfg_base.specs.declared.path.Step.{Step}
use Rattle.private_merge.specs.Merge.{IsLeastConflict}
use Rattle.std.proofs.lemmas.Bool.Decides.{not_from_Decides}
use Rattle.private_merge.proofs.PassedLemmas.{passed_none, stands_in, first_conflict, less_left, passed_changed, passed_same, passed_all}
use Rattle.private_merge.proofs.merging.own_values.Goals as goal

pub loop-place-init : goal.loop-place-init
loop-place-init c =
    passed_none c.args.base.now c.args.active.now c.args.mine.now c.new-own.result.items c.of-sides.result c.new-own.ensures.items c.of-sides.ensures

pub conflicts-requires-clause-stands : goal.conflicts-requires-clause-stands
conflicts-requires-clause-stands c =
    stands_in c.args.base.now c.args.active.now c.args.mine.now c.loop-place.own.items c.loop-place.sides c.next.new.self c.in-Some.place
    c.loop-place.invariant c.in-Some.ensures

pub returns-then-branch-clause-err : goal.returns-then-branch-clause-err
returns-then-branch-clause-err c =
    subst (λ (path : List Step). IsLeastConflict c.args.base.now c.args.active.now c.args.mine.now path)
    (sym (c.in_ok-clone.ensures.cases ∙ c.path.ensures))
    (first_conflict c.args.base.now c.args.active.now c.args.mine.now c.loop-place.own.items c.loop-place.sides c.next.new.self c.in-Some.place
    c.loop-place.invariant c.in-Some.ensures (c.in_ok-conflicts.ensures.0 c.if-branch.true))

pub loop-place-smaller-in_ok-push : goal.loop-place-smaller-in_ok-push
loop-place-smaller-in_ok-push c =
    less_left c.args.base.now c.args.active.now c.args.mine.now c.loop-place.own.items c.loop-place.sides c.next.new.self c.in-Some.place
    c.loop-place.invariant c.in-Some.ensures

pub loop-place-preserved-in_ok-push : goal.loop-place-preserved-in_ok-push
loop-place-preserved-in_ok-push c =
    passed_changed c.args.base.now c.args.active.now c.args.mine.now c.loop-place.own.items c.loop-place.sides c.next.new.self c.in-Some.place
    c.loop-place.invariant c.in-Some.ensures c.in_ok-own.field-0 _ (not_from_Decides c.in_ok-conflicts.field-0 c.in_ok-conflicts.ensures c.if-branch.false)
    (c.is_changed.ensures.0 c.if-is_changed.true) c.in_ok-own.ensures c.in_ok-push.ensures.items

pub loop-place-smaller : goal.loop-place-smaller
loop-place-smaller c =
    less_left c.args.base.now c.args.active.now c.args.mine.now c.loop-place.own.items c.loop-place.sides c.next.new.self c.in-Some.place
    c.loop-place.invariant c.in-Some.ensures

pub loop-place-preserved : goal.loop-place-preserved
loop-place-preserved c =
    passed_same c.args.base.now c.args.active.now c.args.mine.now c.loop-place.own.items c.loop-place.sides c.next.new.self c.in-Some.place
    c.loop-place.invariant c.in-Some.ensures (not_from_Decides c.in_ok-conflicts.field-0 c.in_ok-conflicts.ensures c.if-branch.false)
    (not_from_Decides c.is_changed.result c.is_changed.ensures c.if-is_changed.false)

pub returns-clause-ok : goal.returns-clause-ok
returns-clause-ok c =
    passed_all c.args.base.now c.args.active.now c.args.mine.now c.loop-place.own.items c.loop-place.sides c.loop-place.invariant c.in_default.ensures
