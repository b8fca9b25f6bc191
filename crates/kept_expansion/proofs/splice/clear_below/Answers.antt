use Rattle.std.proofs.Common.{ap}
use Rattle.cfg_tree.specs.Shown.{without_all}
use Rattle.kept_expansion.proofs.SpliceLemmas.{walk_below}
use Rattle.kept_expansion.proofs.splice.clear_below.Goals as goal

pub loop-path-init : goal.loop-path-init
loop-path-init c = (ap (without_all c.args.made.now) (walk_below c.args.full.now c.args.root.now c.walk_from-left.result c.walk_from-left.ensures), c.requires)
