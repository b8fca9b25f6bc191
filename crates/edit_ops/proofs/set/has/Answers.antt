use Rattle.std.specs.FinMap as map
use Rattle.edit_ops.proofs.SetLemmas.{has_value}
use Rattle.edit_ops.proofs.set.has.Goals as goal

pub returns-in-Some : goal.returns-in-Some
returns-in-Some c = has_value (map.get c.args.tree.now c.args.path.now) c.in-Some.there.now c.args.value.now c.eq.result c.in-Some.ensures.value c.eq.ensures
