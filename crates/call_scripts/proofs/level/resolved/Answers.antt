use Rattle.cfg_tree.proofs.TopLemmas.{top_is_level}
use Rattle.cfg_resolve.proofs.TargetLemmas.{below_top}
use Rattle.call_scripts.proofs.level.resolved.Goals as goal

pub resolve-requires : goal.resolve-requires
resolve-requires c = top_is_level _ c.top.ensures

pub returns : goal.returns
returns c = below_top _ _ c.top.ensures c.resolve.ensures.target
