use Rattle.std.proofs.Common.{length, ap, ◌∙◌}
use Rattle.config_core.specs.State.{State}
use Rattle.run_scripts.proofs.CallerLemmas.{callers_are_as_many}
use Rattle.run_scripts.proofs.steps.Machine.accept.Goals as goal

-- a step leaves as many callers as there were
pub invariant_of-self : goal.invariant_of-self
invariant_of-self c = record {
  callers = ap (λ (s : State). length s.callers) c.accept.ensures.state
      ∙ callers_are_as_many c.args.prepared c.args.outcome c.args.self.now.core ∙ c.args.self.now.callers;
}
