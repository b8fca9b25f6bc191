use Rattle.sync_link.proofs.PairLemmas.{paired}
use Rattle.sync_link.proofs.laws.pairs_stay_paired.Goals as goal

pub returns : goal.returns
returns g c = paired
