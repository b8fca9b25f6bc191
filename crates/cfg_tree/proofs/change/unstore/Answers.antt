use Rattle.std.proofs.Common.{◌∙◌, ap, List, sym, length}
use Rattle.cfg_base.specs.declared.path.Step.{Step}
use Rattle.cfg_tree.specs.Shown.{shown, without_all}
use Rattle.cfg_tree.proofs.StepLemmas.{unstored}
use Rattle.cfg_tree.proofs.ClearLemmas.{all_taken, counted}
use Rattle.cfg_tree.proofs.change.unstore.Goals as goal

pub returns-clause-ok : goal.returns-clause-ok
returns-clause-ok c =
    c.in_ok-take_listed.ensures.ok
    ∙ unstored (shown c.args.entries.now) _ c.args.path.now c.in_ok-reorder.reorder c.in_ok-reorder.ensures
    (ap (λ (ks : List (List Step)). without_all (shown c.args.entries.now) ks) c.deref.ensures.value
    ∙ all_taken c.args.entries.now c.args.path.now _ c.keys_below.ensures.ordered c.in_ok-keys.ensures.ok)

pub returns-clause-count : goal.returns-clause-count
returns-clause-count c =
    counted c.args.entries.now c.args.path.now _ _ _ c.keys_below.ensures.ordered c.in_ok-keys.ensures.ok
    (c.len.ensures ∙ sym c.deref.ensures.len ∙ ap (λ (ks : List (List Step)). length ks) c.deref.ensures.value)
    (returns-clause-ok c)
