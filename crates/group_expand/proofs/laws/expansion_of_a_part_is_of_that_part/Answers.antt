use Rattle.group_expand.proofs.KidsLemmas.{part_same}
use Rattle.group_expand.proofs.laws.expansion_of_a_part_is_of_that_part.Goals as goal

pub returns : goal.returns
returns c = λ m n full other in_part a one two step path e. part_same m n full other in_part a one two step path e
