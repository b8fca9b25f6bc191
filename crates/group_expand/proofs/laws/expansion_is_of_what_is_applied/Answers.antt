use Rattle.group_expand.proofs.KidsLemmas.{unapplied}
use Rattle.group_expand.proofs.laws.expansion_is_of_what_is_applied.Goals as goal

pub returns : goal.returns
returns c = λ m n full d h. unapplied m n full d h
