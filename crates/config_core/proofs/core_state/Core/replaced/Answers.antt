use Rattle.std.proofs.Common.{◌≡◌, subst, rules}
use Rattle.candidate.specs.Edits.{CandidateView, IsEdited}
use Rattle.config_core.specs.Callers.{candidate_of}
use Rattle.config_core.proofs.StepLemmas.{prepares_replaced}
use Rattle.config_core.proofs.core_state.Core.replaced.Goals as goal

pub returns : goal.returns
returns c =
    let same : c.in_ok-next.next ≡ candidate_of c.args.self.now c.args.caller = search rules in
    prepares_replaced c.args.self.now c.args.caller c.args.moment c.args.tree c.replace.new.self c.step.result
    (subst (λ (old : CandidateView). IsEdited old c.replace.new.self c.args.tree) same c.replace.ensures) (search rules)
