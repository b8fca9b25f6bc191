use Rattle.std.proofs.Common.{Some, sym, ap, ◌∙◌}
use Rattle.printing_order.proofs.AtLemmas.{none_from, first_is, first_other}
use Rattle.printing_order.proofs.statements.statement_at.Goals as goal

pub returns-in-None : goal.returns-in-None
returns-in-None c = none_from c.args.tree.now c.args.path.now c.walk_from-walk.result c.walk_from-walk.ensures c.in-None.ensures

pub returns-then-eq : goal.returns-then-eq
returns-then-eq c =
    let told =
    first_is c.args.tree.now c.args.path.now c.walk_from-walk.result c.walk_from-walk.ensures (c.in-Some.at.now, c.in-Some.value.now) c.next.new.self c.in-Some.ensures
    (sym c.if-eq.ensures)
    in (ap (λ e. e.0) c.of.ensures ∙ told.0, told.1 ∙ ap (λ e. Some e.1) (sym c.of.ensures))

pub returns-else-eq : goal.returns-else-eq
returns-else-eq c =
    first_other c.args.tree.now c.args.path.now c.walk_from-walk.result c.walk_from-walk.ensures (c.in-Some.at.now, c.in-Some.value.now) c.next.new.self c.in-Some.ensures
    (sym c.if-eq.ensures)
