use Rattle.group_expand.proofs.SourceLemmas.{local_or_given}
use Rattle.group_expand.proofs.laws.expansion_is_what_is_local_or_has_a_source.Goals as goal

pub returns : goal.returns
returns c = λ m full path h some. local_or_given m full path h some
