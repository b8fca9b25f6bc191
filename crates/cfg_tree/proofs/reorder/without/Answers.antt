use Rattle.std.proofs.Common.{List, ℕ, ap, ◌∙◌}
use Rattle.std.proofs.lemmas.Result.{IfOk-weaker}
use Rattle.cfg_base.specs.Words.{words_without}
use Rattle.cfg_base.proofs.WordLemmas.{without_one}
use Rattle.cfg_tree.proofs.reorder.without.Goals as goal

pub returns : goal.returns
returns c =
    IfOk-weaker c.without.result _ _
    (λ names e. e ∙ ap (λ (ws : List (List ℕ)). words_without c.args.order.now ws) c.from_ref.ensures.value ∙ without_one c.args.name.now c.args.order.now)
    c.without.ensures
