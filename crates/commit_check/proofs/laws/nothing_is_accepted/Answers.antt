use Rattle.commit_check.proofs.NothingLemmas.{nothing_accepted}
use Rattle.commit_check.proofs.laws.nothing_is_accepted.Goals as goal

pub returns : goal.returns
returns c = nothing_accepted
