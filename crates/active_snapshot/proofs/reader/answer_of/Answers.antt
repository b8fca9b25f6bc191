use Rattle.active_snapshot.proofs.ReadLemmas.{IsAnswer-due}
use Rattle.active_snapshot.proofs.reader.answer_of.Goals as goal

pub returns-in-Some-clause-ok : goal.returns-in-Some-clause-ok
returns-in-Some-clause-ok c =
    IsAnswer-due _ _ _ _ _ _ _ c.in-Some.pending c.deref.ensures c.deref-2.ensures c.deref-3.ensures
    c.front-front.ensures.count c.is_revert_due-due.ensures c.if-due.true c.in-Some.ensures
