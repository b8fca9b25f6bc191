use Rattle.std.proofs.Common.{sym, ◌∙◌}
use Rattle.printing_order.proofs.ListingLemmas.{no_statements}
use Rattle.printing_order.proofs.lister.items_below.Goals as goal

pub returns-then-count-eq0 : goal.returns-then-count-eq0
returns-then-count-eq0 c = record {
  items = c.new-items.ensures.items
      ∙ sym (no_statements c.args.levels c.args.tree.now c.args.path.now (sym c.count.ensures.count ∙ c.if-count-eq0.true));
  tree = c.count.ensures.tree;
}
