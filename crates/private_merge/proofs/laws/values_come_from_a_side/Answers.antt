use Rattle.private_merge.proofs.LawLemmas.{from_a_side}
use Rattle.private_merge.proofs.laws.values_come_from_a_side.Goals as goal

pub returns : goal.returns
returns c = from_a_side
