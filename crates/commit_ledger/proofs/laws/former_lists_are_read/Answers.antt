use Rattle.commit_ledger.proofs.FormerLemmas.{former_is_read}
use Rattle.commit_ledger.proofs.laws.former_lists_are_read.Goals as goal

pub returns : goal.returns
returns g c = former_is_read (g.J.LedgerCheck.accepted c.args.judge.now)
