use Rattle.commit_ledger.proofs.KeptLemmas.{keeps_more, target_is_kept}
use Rattle.commit_ledger.proofs.laws.kept_maps_stay_accepted.Goals as goal

pub returns-clause-more : goal.returns-clause-more
returns-clause-more g c = keeps_more (g.J.LedgerCheck.accepted c.args.judge.now)

pub returns-clause-target : goal.returns-clause-target
returns-clause-target g c = target_is_kept (g.J.LedgerCheck.accepted c.args.judge.now)
