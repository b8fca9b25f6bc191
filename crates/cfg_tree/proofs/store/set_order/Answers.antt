use Rattle.std.proofs.Common.{◌∙◌, sym, ap, List}
use Rattle.std.proofs.lemmas.Result.{on_ok_weaker}
use Rattle.std.specs.FinMap as map
use Rattle.cfg_base.specs.declared.path.Step.{Step}
use Rattle.cfg_tree.specs.Shown.{shown}
use Rattle.cfg_tree.proofs.EntryLemmas.{order_none, order_some}
use Rattle.cfg_tree.proofs.store.set_order.Goals as goal

pub returns-in-None-clause-ok : goal.returns-in-None-clause-ok
returns-in-None-clause-ok c = order_none c.args.entries.now c.args.path.now c.args.order (sym c.in-None.is ∙ c.in_ok-reordered.ensures)

pub returns-in_ok-clone-in-Some-clause-ok : goal.returns-in_ok-clone-in-Some-clause-ok
returns-in_ok-clone-in-Some-clause-ok c =
    on_ok_weaker c.put_entry.result
    (λ put. order_some c.args.entries.now c.args.path.now c.args.order _ c.in-Some.value (sym c.in-Some.is ∙ c.in_ok-reordered.ensures)
    (put ∙ ap (λ (p : List Step). map.insert (shown c.args.entries.now) p c.in-Some.value) c.in_ok-clone-in-Some.ensures.cases))
    c.put_entry.ensures.ok
