use Rattle.std.proofs.Common.{◌∙◌}
use Rattle.cfg_tree.specs.Shown.{shown}
use Rattle.cfg_tree.proofs.ChildrenLemmas.{children_found}
use Rattle.cfg_tree.proofs.children.children_in.Goals as goal

pub returns : goal.returns
returns c =
    children_found (shown c.args.entries.now) c.args.path.now c.steps.result.now c.in-Some.here c.deref-2.result.now
    c.in_ok-order.order c.deref.result.now _
    c.steps.ensures.steps c.in-Some.ensures
    (c.deref-2.ensures.value ∙ c.in_ok-below.ensures)
    c.in_ok-order.ensures
    (c.deref.ensures.value ∙ c.in_ok-rows.ensures)
    c.in_ok-steps.ensures
