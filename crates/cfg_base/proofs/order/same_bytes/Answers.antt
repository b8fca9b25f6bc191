use Rattle.std.proofs.Common.{◌∙◌, sym, ap}
use Rattle.std.specs.Ordering.{is_eq, nat_cmp}
use Rattle.std.specs.Cmp.{unsigned_ties}
use Rattle.std.specs.Cmp.Lexicographic.{lists_ties}
use Rattle.cfg_base.proofs.order.same_bytes.Goals as goal

pub returns-then-one-other : goal.returns-then-one-other
returns-then-one-other c =
    c.is_eq.ensures ∙ ap is_eq c.order_of.ensures ∙ sym (lists_ties nat_cmp unsigned_ties c.args.one.now c.args.other.now)
