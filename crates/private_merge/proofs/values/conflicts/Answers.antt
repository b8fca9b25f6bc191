use Rattle.std.proofs.Common.{refl}
use Rattle.std.proofs.lemmas.Bool.Decides.{not_from_Decides}
use Rattle.private_merge.proofs.MergedLemmas.{untouched_agrees, twice_conflicts, both_agree, gone_agrees, parent_decides}
use Rattle.private_merge.proofs.values.conflicts.Goals as goal

pub returns-then-is_untouched : goal.returns-then-is_untouched
returns-then-is_untouched c = (
  λ never. cc,
  λ found. absurd (untouched_agrees c.args.base.now c.args.active.now c.args.mine.now c.args.place.now c.requires.stands c.requires.active c.requires.mine
      (c.is_untouched.ensures.0 c.if-is_untouched.true) found),
)

pub returns-then-is_changed_twice : goal.returns-then-is_changed_twice
returns-then-is_changed_twice c = (
  λ _. twice_conflicts c.args.base.now c.args.active.now c.args.mine.now c.args.place.now c.requires.stands
      (c.is_changed_twice.ensures.0 c.if-is_changed_twice.true),
  λ _. refl,
)

pub returns-then-is_on_both : goal.returns-then-is_on_both
returns-then-is_on_both c = (
  λ never. cc,
  λ found. absurd (both_agree c.args.base.now c.args.active.now c.args.mine.now c.args.place.now c.requires.stands c.requires.active c.requires.mine
      (not_from_Decides c.is_changed_twice.result c.is_changed_twice.ensures c.if-is_changed_twice.false) (c.is_on_both.ensures.0 c.if-is_on_both.true) found),
)

pub returns-then-is_gone : goal.returns-then-is_gone
returns-then-is_gone c = (
  λ never. cc,
  λ found. absurd (gone_agrees c.args.base.now c.args.active.now c.args.mine.now c.args.place.now c.requires.stands
      (not_from_Decides c.is_changed_twice.result c.is_changed_twice.ensures c.if-is_changed_twice.false) (c.is_gone.ensures.0 c.if-is_gone.true) found),
)

pub returns : goal.returns
returns c =
    parent_decides c.args.base.now c.args.active.now c.args.mine.now c.args.place.now c.requires.stands
    (not_from_Decides c.is_changed_twice.result c.is_changed_twice.ensures c.if-is_changed_twice.false)
    (not_from_Decides c.is_gone.result c.is_gone.ensures c.if-is_gone.false) c.path.result.now c.path.ensures c.lacks_parent.result c.lacks_parent.ensures
