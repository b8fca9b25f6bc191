use Rattle.std.proofs.Common.{refl}
use Rattle.cfg_tree.proofs.TypedLemmas.{above_is, last_is, unknown_path, good_path, bad_path, not_both}
use Rattle.cfg_tree.proofs.typed.check.Goals as goal

pub returns-in-None-clause-err : goal.returns-in-None-clause-err
returns-in-None-clause-err c = (
  c.in_ok-clone-in-None.ensures.cases,
  unknown_path c.args.path.now c.args.value.now c.requires _ _
      (above_is _ _ _ c.steps-steps.ensures.steps c.split_at.ensures.front)
      (last_is _ _ _ c.requires.steps c.steps-steps.ensures.steps c.index-steps-steps.is)
      c.in-None.ensures,
)

pub returns-then-branch-clause-ok : goal.returns-then-branch-clause-ok
returns-then-branch-clause-ok c =
    good_path c.args.path.now c.args.value.now c.requires _ _
    (above_is _ _ _ c.steps-steps.ensures.steps c.split_at.ensures.front)
    (last_is _ _ _ c.requires.steps c.steps-steps.ensures.steps c.index-steps-steps.is)
    c.in-Some.found.here c.in-Some.found.next _ _ c.in-Some.ensures.0 c.in-Some.ensures.1 c.row-row.ensures refl
    (c.in_ok-is_right.ensures.0 c.if-branch.true)

pub returns-in_ok-clone-clause-err : goal.returns-in_ok-clone-clause-err
returns-in_ok-clone-clause-err c =
    let bad = bad_path c.args.path.now c.args.value.now c.requires _ _
    (above_is _ _ _ c.steps-steps.ensures.steps c.split_at.ensures.front)
    (last_is _ _ _ c.requires.steps c.steps-steps.ensures.steps c.index-steps-steps.is)
    c.in-Some.found.here c.in-Some.found.next _ _ c.in-Some.ensures.0 c.in-Some.ensures.1 c.row-row.ensures refl
    (λ right. not_both _ (c.in_ok-is_right.ensures.1 right) c.if-branch.false)
    in (c.in_ok-clone.ensures.cases, bad.0, bad.1)
