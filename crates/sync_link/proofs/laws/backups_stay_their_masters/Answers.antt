use Rattle.sync_link.proofs.BackedLemmas.{backed_at, backed_on}
use Rattle.sync_link.proofs.laws.backups_stay_their_masters.Goals as goal

pub returns-clause-on : goal.returns-clause-on
returns-clause-on c = λ line line' v on b. backed_on line line' v on b

pub returns-clause-at : goal.returns-clause-at
returns-clause-at c = λ line v events le b. backed_at line v events le b
