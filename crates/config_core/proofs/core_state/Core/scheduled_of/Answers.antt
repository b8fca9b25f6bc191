use Rattle.commands.specs.When.{at_of}
use Rattle.config_core.specs.Machine.{later}
use Rattle.config_core.specs.Serving.{set_for}
use Rattle.config_core.proofs.StepLemmas.{checks_accepted, prepares_as}
use Rattle.config_core.proofs.core_state.Core.scheduled_of.Goals as goal

pub returns-in-Ok : goal.returns-in-Ok
returns-in-Ok c =
    let s = later c.args.self.now c.args.moment in
    prepares_as c.args.self.now c.args.moment _ _ c.set_for_with.result
    (λ turned is. checks_accepted s c.args.tree.now c.in-Ok.expanded.1
    (set_for s c.args.caller c.args.tree.now (at_of c.args.when c.args.moment) c.args.comment.now) turned c.in-Ok.ensures.accepted is)
    c.set_for_with.ensures
