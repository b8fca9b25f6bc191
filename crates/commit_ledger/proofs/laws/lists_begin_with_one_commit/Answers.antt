use Rattle.commit_ledger.proofs.FactoryLemmas.{factory_is_commit, first_is_read, nothing_is_short}
use Rattle.commit_ledger.proofs.laws.lists_begin_with_one_commit.Goals as goal

pub returns-clause-read : goal.returns-clause-read
returns-clause-read g c = first_is_read (g.J.LedgerCheck.accepted c.args.judge.now)

pub returns-clause-factory : goal.returns-clause-factory
returns-clause-factory g c = factory_is_commit (g.J.LedgerCheck.accepted c.args.judge.now)

pub returns-clause-short : goal.returns-clause-short
returns-clause-short g c = nothing_is_short
