use Rattle.config_core.specs.Machine.{later}
use Rattle.config_core.specs.Serving.{checked}
use Rattle.config_core.proofs.StepLemmas.{checks_accepted, prepares_as}
use Rattle.config_core.proofs.core_state.Core.check_of.Goals as goal

pub returns-in-Ok : goal.returns-in-Ok
returns-in-Ok c =
    let s = later c.args.self.now c.args.moment in
    prepares_as c.args.self.now c.args.moment _ _ c.checked_with.result
    (λ turned is. checks_accepted s c.args.tree.now c.in-Ok.expanded.1 (checked s c.args.caller c.args.self.now.kept.pending) turned c.in-Ok.ensures.accepted is)
    c.checked_with.ensures
