use Rattle.cfg_tree.proofs.TopLemmas.{top_is_level}
use Rattle.call_scripts.proofs.level.level_of.Goals as goal

pub returns-then-is_empty : goal.returns-then-is_empty
returns-then-is_empty c = top_is_level _ c.top.ensures
