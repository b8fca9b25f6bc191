use Rattle.std.proofs.Common.{sym}
use Rattle.edit_ops.proofs.SetLemmas.{level_is_ready, level_fits}
use Rattle.edit_ops.proofs.set.put_level.Goals as goal

pub put-requires-clause-ready : goal.put-requires-clause-ready
put-requires-clause-ready c =
    level_is_ready c.args.tree.now c.args.path.now c.no_value.result c.in-None.ensures.tree c.requires (sym c.in-None.ensures.value) c.no_value.ensures

pub put-requires-clause-fits : goal.put-requires-clause-fits
put-requires-clause-fits c = level_fits c.args.tree.now c.args.path.now c.no_value.result c.requires c.no_value.ensures
