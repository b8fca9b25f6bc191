use Rattle.std.proofs.Common.{◌≡◌, subst, rules}
use Rattle.load_ops.specs.Answer.{IsLoad}
use Rattle.config_core.specs.Callers.{candidate_of}
use Rattle.config_core.proofs.StepLemmas.{prepares_load}
use Rattle.config_core.proofs.core_state.Core.prepare_load.Goals as goal

pub returns-in-Ok : goal.returns-in-Ok
returns-in-Ok c =
    let same : c.in_ok-tree.tree ≡ (candidate_of c.args.self.now c.args.caller).map = search rules in
    let said : c.as_slice.result.now ≡ c.args.text.now = search rules in
    prepares_load c.args.self.now c.args.caller c.args.moment c.args.way c.args.text.now c.load.new.tree c.in-Ok.field-0 c.replaced.result
    (subst (λ tree. IsLoad c.args.way tree c.args.text.now c.load.new.tree c.in-Ok.field-0) same
    (subst (λ text. IsLoad c.args.way c.in_ok-tree.tree text c.load.new.tree c.in-Ok.field-0) said c.in-Ok.ensures.ok)) c.replaced.ensures
