use Rattle.commit_ledger.proofs.ReadingLemmas.{agrees_append, agrees_follow, checkpoint_reads, texts_are_short}
use Rattle.commit_ledger.proofs.laws.checkpoints_are_read.Goals as goal

pub returns-clause-read : goal.returns-clause-read
returns-clause-read g c = λ rs one kept reads agrees. (checkpoint_reads (g.J.LedgerCheck.accepted c.args.judge.now) rs one kept reads agrees).0

pub returns-clause-agrees : goal.returns-clause-agrees
returns-clause-agrees g c = λ rs one kept reads agrees. (checkpoint_reads (g.J.LedgerCheck.accepted c.args.judge.now) rs one kept reads agrees).1

pub returns-clause-short : goal.returns-clause-short
returns-clause-short g c = texts_are_short (g.J.LedgerCheck.accepted c.args.judge.now)

pub returns-clause-follow : goal.returns-clause-follow
returns-clause-follow g c = agrees_follow

pub returns-clause-append : goal.returns-clause-append
returns-clause-append g c = agrees_append
