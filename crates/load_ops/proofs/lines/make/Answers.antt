use Rattle.cfg_tree.proofs.TopLemmas.{top_is_level}
use Rattle.load_ops.proofs.lines.make.Goals as goal

pub apply-requires : goal.apply-requires
apply-requires c = top_is_level c.top.result c.top.ensures
