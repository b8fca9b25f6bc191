use Rattle.std.proofs.Common.{IsTrue, ◌∙◌, sym, subst}
use Rattle.commit_journal.proofs.CallLemmas.{part_sync, part_write, synced_called, two_calls, wrote_called}
use Rattle.commit_journal.proofs.creating.write_and_sync.Goals as goal

pub returns-in-Failed-clause-file : goal.returns-in-Failed-clause-file
returns-in-Failed-clause-file g c = record {
  tells = c.write_at.ensures.tells;
  part = λ t. part_write _ _ _ _ _ (c.write_at.ensures.written t);
  made = λ is. absurd (cc);
}

pub returns-clause-file : goal.returns-clause-file
returns-clause-file g c = record {
  tells = c.sync.ensures.tells ∙ c.write_at.ensures.tells;
  part = λ t. part_sync _ _ _ _ _ _ _ (c.write_at.ensures.written t) c.in_default.is (c.sync.ensures.synced (subst IsTrue (sym c.write_at.ensures.tells) t));
  made = λ is t. two_calls _ _ _ _ _ (wrote_called _ _ _ _ _ (c.write_at.ensures.written t) c.in_default.is)
      (synced_called _ _ _ (c.sync.ensures.synced (subst IsTrue (sym c.write_at.ensures.tells) t)) is);
}
