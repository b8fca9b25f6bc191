use Rattle.commit_ledger.proofs.ReadingLemmas.{begun_alone}
use Rattle.commit_ledger.proofs.opening.begin.Goals as goal

pub returns-in-Ok-clause-ok : goal.returns-in-Ok-clause-ok
returns-in-Ok-clause-ok g c = begun_alone (g.J.LedgerCheck.accepted c.args.judge.now) c.args.first.now c.args.behind.now c.in-Ok.ledger c.in-Ok.ensures.ok _ c.new_behind.ensures
