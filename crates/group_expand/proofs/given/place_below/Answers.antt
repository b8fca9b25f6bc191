use Rattle.std.proofs.Common.{◌∙◌}
use Rattle.group_expand.proofs.PlaceLemmas.{place_is}
use Rattle.group_expand.proofs.given.place_below.Goals as goal

pub returns-clause-children : goal.returns-clause-children
returns-clause-children c = λ h. c.place_after.ensures ∙ place_is c.args.path.now c.args.above.now c.args.step.now c.requires.long c.requires.step c.requires.above

pub returns-clause-level : goal.returns-clause-level
returns-clause-level c = λ h. c.place_after.ensures ∙ place_is c.args.path.now c.args.above.now c.args.step.now c.requires.long c.requires.step c.requires.above
