use Rattle.std.proofs.Common.{◌≡◌, ℕ, List, [], ◌∷◌, Option, ap, subst, ◌∙◌}
use Rattle.std.specs.Prelude.{IfOk}
use Rattle.cfg_base.specs.declared.path.Step.{Step}
use Rattle.commit_check.specs.Kinds.{plain}
use Rattle.commit_check.proofs.StartLemmas.{repeat_behind}
use Rattle.commit_check.proofs.repeat.first_repeat.Goals as goal

pub returns : goal.returns
returns c =
    subst (λ (o : Option (List Step)). IfOk c.first_from.result (λ found. found ≡ o))
    (repeat_behind c.args.rule c.args.full.now c.in_ok-start.start (c.in_ok-start.ensures ∙ ap (λ (r : ℕ). plain r ∷ []) c.key_row-row.ensures.row))
    c.first_from.ensures
