use Rattle.std.proofs.Common.{◌∙◌, ap, List}
use Rattle.std.proofs.lemmas.Result.{on_ok_weaker}
use Rattle.std.specs.FinMap as map
use Rattle.cfg_base.specs.declared.path.Step.{Step}
use Rattle.cfg_tree.specs.Shown.{shown}
use Rattle.cfg_tree.proofs.StepLemmas.{stored}
use Rattle.cfg_tree.proofs.change.store.Goals as goal

pub returns-clause-ok : goal.returns-clause-ok
returns-clause-ok c =
    on_ok_weaker c.put_listed.result
    (λ done. done
    ∙ stored (shown c.args.entries.now) _ c.args.path.now c.args.value c.args.new c.in_ok-reorder.reorder
    c.requires.steps c.requires.is_new c.in_ok-reorder.ensures
    (ap (λ (p : List Step). map.insert (shown c.args.entries.now) p c.args.value) c.in_ok-clone.ensures.cases))
    c.put_listed.ensures.ok
