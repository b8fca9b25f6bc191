use Rattle.group_expand.proofs.LivePartLemmas.{live_part}
use Rattle.group_expand.proofs.laws.expansion_without_groups_is_the_live_part.Goals as goal

pub returns : goal.returns
returns c = λ m full none h. live_part m full none h
