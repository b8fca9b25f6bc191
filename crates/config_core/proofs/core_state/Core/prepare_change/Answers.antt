use Rattle.std.proofs.Common.{◌≡◌, subst, rules}
use Rattle.candidate.specs.Edits.{CandidateView, IsCandidateChange}
use Rattle.config_core.specs.Callers.{candidate_of, level_of}
use Rattle.config_core.proofs.StepLemmas.{prepares_change}
use Rattle.config_core.proofs.core_state.Core.prepare_change.Goals as goal

pub returns-in-Ok : goal.returns-in-Ok
returns-in-Ok c =
    let same : c.in_ok-next.next ≡ candidate_of c.args.self.now c.args.caller = search rules in
    let here : c.level-level.result.now ≡ level_of c.args.self.now c.args.caller = search rules in
    prepares_change c.args.self.now c.args.caller c.args.moment c.args.op.now c.change.new.self c.step.result
    (subst (λ (old : CandidateView). IsCandidateChange old c.change.new.self (level_of c.args.self.now c.args.caller) c.args.op.now) same
    (subst (λ level. IsCandidateChange c.in_ok-next.next c.change.new.self level c.args.op.now) here c.in-Ok.ensures.ok))
    (search rules)
