use Rattle.std.proofs.Common.{IsTrue, sym, ◌∙◌, subst}
use Rattle.commit_journal.proofs.CallLemmas.{part_sync, part_write, synced_called, two_calls, wrote_called}
use Rattle.commit_journal.proofs.FileLemmas.{called_quiet}
use Rattle.commit_journal.proofs.RotateLemmas.{open_first, open_second, open_done}
use Rattle.commit_journal.proofs.rotating.open_gate.Goals as goal

pub returns-in-Failed-clause-any_moment : goal.returns-in-Failed-clause-any_moment
returns-in-Failed-clause-any_moment g c = λ t file gen bytes staged number next image is. open_first file number image next _ gen bytes staged is _ _ (c.write_at.ensures.written t)

pub returns-clause-any_moment : goal.returns-clause-any_moment
returns-clause-any_moment g c = λ t file gen bytes staged number next image is.
    let t1 = subst IsTrue (sym c.write_at.ensures.tells) t in
    open_second file number image next _ gen bytes staged is _ _ (c.write_at.ensures.written t) c.in_default.is _ _ (c.sync-done.ensures.synced t1)

pub returns-clause-done : goal.returns-clause-done
returns-clause-done g c = λ done t file gen bytes staged number next image is.
    let t1 = subst IsTrue (sym c.write_at.ensures.tells) t in
    open_done file number image next _ gen bytes staged is _ _ (c.write_at.ensures.written t) c.in_default.is _ _ (c.sync-done.ensures.synced t1) done

pub returns-clause-quiet : goal.returns-clause-quiet
returns-clause-quiet g c = λ done t.
    let t1 = subst IsTrue (sym c.write_at.ensures.tells) t in
    called_quiet _ _ (synced_called _ _ _ (c.sync-done.ensures.synced t1) done)

pub returns-in-Failed-clause-file : goal.returns-in-Failed-clause-file
returns-in-Failed-clause-file g c = record {
  tells = c.write_at.ensures.tells;
  part = λ t. part_write _ _ _ _ _ (c.write_at.ensures.written t);
  made = λ is. absurd (cc);
}

pub returns-clause-file : goal.returns-clause-file
returns-clause-file g c = record {
  tells = c.sync-done.ensures.tells ∙ c.write_at.ensures.tells;
  part = λ t. part_sync _ _ _ _ _ _ _ (c.write_at.ensures.written t) c.in_default.is (c.sync-done.ensures.synced (subst IsTrue (sym c.write_at.ensures.tells) t));
  made = λ is t. two_calls _ _ _ _ _ (wrote_called _ _ _ _ _ (c.write_at.ensures.written t) c.in_default.is)
      (synced_called _ _ _ (c.sync-done.ensures.synced (subst IsTrue (sym c.write_at.ensures.tells) t)) is);
}
