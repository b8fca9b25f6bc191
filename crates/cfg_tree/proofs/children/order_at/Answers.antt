use Rattle.std.proofs.Common.{sym, ap, ◌∙◌}
use Rattle.cfg_tree.specs.Children.{order_in}
use Rattle.cfg_tree.proofs.MapLemmas.{get_is}
use Rattle.cfg_tree.proofs.children.order_at.Goals as goal

pub returns-in_ok-clone-in-Some : goal.returns-in_ok-clone-in-Some
returns-in_ok-clone-in-Some c =
    c.in_ok-clone-in-Some.ensures.cases ∙ sym (ap order_in (get_is c.args.entries.now c.args.path.now ∙ sym c.in-Some.ensures.value))

pub returns-in-None : goal.returns-in-None
returns-in-None c = c.new.ensures ∙ sym (ap order_in (get_is c.args.entries.now c.args.path.now ∙ sym c.in-None.ensures.value))
