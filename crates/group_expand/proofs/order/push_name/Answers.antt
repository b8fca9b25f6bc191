use Rattle.std.proofs.Common.{rules}
use Rattle.group_expand.proofs.WalkLemmas.{name_none}
use Rattle.group_expand.proofs.order.push_name.Goals as goal

pub returns-else-inherited : goal.returns-else-inherited
returns-else-inherited c = name_none c.args.head.now c.args.wild.now c.args.run.now c.first_step-step.result.now _ c.requires c.first_step-step.ensures (search rules)
