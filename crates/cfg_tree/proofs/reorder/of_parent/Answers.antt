use Rattle.std.proofs.Common.{sym, ◌∙◌, refl}
use Rattle.cfg_tree.proofs.MapLemmas.{get_is}
use Rattle.cfg_tree.proofs.reorder.of_parent.Goals as goal

pub returns-in-None : goal.returns-in-None
returns-in-None c = get_is c.args.entries.now c.args.parent ∙ sym c.in-None.ensures.value

pub returns : goal.returns
returns c = record {
  parent_is = refl;
  value = c.in-Some.value.now;
  found = get_is c.args.entries.now c.args.parent ∙ sym c.in-Some.ensures.value;
  order_is = c.in_ok-order-in-Some.ensures;
}
