use Rattle.std.proofs.Common.{◌≡◌, subst, rules}
use Rattle.candidate.specs.Edits.{CandidateView, IsEdited}
use Rattle.config_core.specs.State.{fresh_of}
use Rattle.config_core.proofs.StepLemmas.{prepares_updated}
use Rattle.config_core.proofs.core_state.Core.updated.Goals as goal

pub returns : goal.returns
returns c =
    let same : c.in_ok-next.next ≡ fresh_of c.args.self.now.kept.last = search rules in
    prepares_updated c.args.self.now c.args.caller c.args.moment c.args.merged c.replace.new.self c.step.result c.requires
    (subst (λ (old : CandidateView). IsEdited old c.replace.new.self c.args.merged) same c.replace.ensures) (search rules)
