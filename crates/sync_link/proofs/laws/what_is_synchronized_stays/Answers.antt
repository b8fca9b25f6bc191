use Rattle.sync_link.proofs.BackedLemmas.{stays_synced}
use Rattle.sync_link.proofs.laws.what_is_synchronized_stays.Goals as goal

pub returns : goal.returns
returns c = λ line v count before more after. stays_synced line v count before more after
