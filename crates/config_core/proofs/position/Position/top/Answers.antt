use Rattle.config_core.proofs.LevelLemmas.{top_alone}
use Rattle.config_core.proofs.position.Position.top.Goals as goal

pub invariant_of-result : goal.invariant_of-result
invariant_of-result c = top_alone _ _ c.top.ensures c.new.ensures.items
