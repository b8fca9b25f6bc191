use Rattle.config_core.specs.Machine.{later}
use Rattle.config_core.specs.Serving.{committed}
use Rattle.config_core.proofs.StepLemmas.{checks_accepted, prepares_as}
use Rattle.config_core.proofs.core_state.Core.commit_of.Goals as goal

pub returns-in-Ok : goal.returns-in-Ok
returns-in-Ok c =
    let s = later c.args.self.now c.args.moment in
    prepares_as c.args.self.now c.args.moment _ _ c.committed_with.result
    (λ turned is. checks_accepted s c.args.tree.now c.in-Ok.expanded.1
    (committed s c.args.caller c.args.tree.now c.args.minutes c.args.comment.now c.args.quit) turned c.in-Ok.ensures.accepted is)
    c.committed_with.ensures
