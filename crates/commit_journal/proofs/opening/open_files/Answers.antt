use Rattle.std.proofs.Common.{IsTrue, sym, subst}
use Rattle.commit_journal.proofs.OpenLemmas.{are_listed, are_marked, explained_by, first_tells, read_on, synced_read}
use Rattle.commit_journal.proofs.opening.open_files.Goals as goal

pub returns-in-Err-clause-a : goal.returns-in-Err-clause-a
returns-in-Err-clause-a g c = synced_read _ _ _ _ _ (λ ok. absurd (cc)) c.sync_both.ensures.a c.choose.ensures.a

pub returns-in-Err-clause-b : goal.returns-in-Err-clause-b
returns-in-Err-clause-b g c = synced_read _ _ _ _ _ (λ ok. absurd (cc)) c.sync_both.ensures.b c.choose.ensures.b

pub returns-in-Err-list_counting-clause-a : goal.returns-in-Err-list_counting-clause-a
returns-in-Err-list_counting-clause-a g c =
    synced_read _ _ _ _ _ (λ ok. absurd (cc)) c.sync_both.ensures.a (read_on _ _ _ c.choose.ensures.a c.list_counting.ensures.a)

pub returns-in-Err-list_counting-clause-b : goal.returns-in-Err-list_counting-clause-b
returns-in-Err-list_counting-clause-b g c =
    synced_read _ _ _ _ _ (λ ok. absurd (cc)) c.sync_both.ensures.b (read_on _ _ _ c.choose.ensures.b c.list_counting.ensures.b)

pub returns-in-Err-list_counting-clause-err : goal.returns-in-Err-list_counting-clause-err
returns-in-Err-list_counting-clause-err g c = λ tell.
    let view = g.D.Disk.view in
    let t1 = subst IsTrue (sym c.sync_both.ensures.a.tells) tell.0 in
    let u1 = subst IsTrue (sym c.sync_both.ensures.b.tells) tell.1 in
    let t2 = subst IsTrue (sym c.choose.ensures.a.tells) t1 in
    let u2 = subst IsTrue (sym c.choose.ensures.b.tells) u1 in
    explained_by _ _ _ _ _ _ c.in-Ok.choice.b_counts c.in-Err-list_counting.why c.choose.ensures.a c.list_counting.ensures.a c.choose.ensures.b c.list_counting.ensures.b
    (c.in-Ok.ensures.ok t1 u1) (c.in-Err-list_counting.ensures.err (first_tells c.in-Ok.choice.b_counts (view c.choose.new.a) (view c.choose.new.b) t2 u2))

pub returns-in-Ok-list_counting-clause-a : goal.returns-in-Ok-list_counting-clause-a
returns-in-Ok-list_counting-clause-a g c =
    synced_read _ _ _ _ _ (λ ok. c.in_default.is) c.sync_both.ensures.a (read_on _ _ _ c.choose.ensures.a c.list_counting.ensures.a)

pub returns-in-Ok-list_counting-clause-b : goal.returns-in-Ok-list_counting-clause-b
returns-in-Ok-list_counting-clause-b g c =
    synced_read _ _ _ _ _ (λ ok. c.in_default.is) c.sync_both.ensures.b (read_on _ _ _ c.choose.ensures.b c.list_counting.ensures.b)

pub returns-in-Ok-list_counting-clause-ok : goal.returns-in-Ok-list_counting-clause-ok
returns-in-Ok-list_counting-clause-ok g c =
    are_listed _ _ _ _ _ _ c.in-Ok.choice.b_counts _ _ c.choose.ensures.a c.list_counting.ensures.a c.choose.ensures.b c.list_counting.ensures.b
    c.in-Ok-list_counting.ensures.ok c.in-Ok.ensures.ok

pub returns-in-Ok-list_counting-clause-marked : goal.returns-in-Ok-list_counting-clause-marked
returns-in-Ok-list_counting-clause-marked g c =
    are_marked _ _ _ _ _ _ c.in-Ok.choice.b_counts c.in-Ok.choice.generation c.choose.ensures.a c.list_counting.ensures.a c.choose.ensures.b c.list_counting.ensures.b
    c.in-Ok.ensures.marked
