use Rattle.std.proofs.Common.{sym}
use Rattle.kept_expansion.proofs.DifferingLemmas.{old_at, new_at, both_at}
use Rattle.kept_expansion.proofs.differing.pass_first.Goals as goal

pub returns-in-None-Some : goal.returns-in-None-Some
returns-in-None-Some c = new_at _ _ _ (c.in-None-Some.path.now, c.in-None-Some.field-0-1-1.now) c.in-None-Some.ensures' c.pass.ensures

pub returns-in-Some-None : goal.returns-in-Some-None
returns-in-Some-None c =
    old_at _ _ _ (c.in-Some-None.path.now, c.in-Some-None.field-0-1-0.now) c.in-Some-None.ensures c.pass-in-Some-None.ensures

pub returns-in-Less : goal.returns-in-Less
returns-in-Less c =
    old_at _ _ _ (c.in-Some-Some.path.now, c.in-Some-Some.field-0-1-0.now) c.in-Some-Some.ensures c.pass-in-Less.ensures

pub returns-in-Equal : goal.returns-in-Equal
returns-in-Equal c =
    both_at _ _ _ _ (c.in-Some-Some.path.now, c.in-Some-Some.field-0-1-0.now) (c.in-Some-Some.at.now, c.in-Some-Some.field-0-1-1.now)
    c.in-Some-Some.ensures c.in-Some-Some.ensures' c.pass-in-Equal.ensures c.pass-in-Equal-2.ensures (sym c.in-Equal.ensures)

pub returns-in-Greater : goal.returns-in-Greater
returns-in-Greater c =
    new_at _ _ _ (c.in-Some-Some.at.now, c.in-Some-Some.field-0-1-1.now) c.in-Some-Some.ensures' c.pass-in-Greater.ensures
