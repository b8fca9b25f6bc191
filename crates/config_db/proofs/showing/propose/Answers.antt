use Rattle.std.proofs.Common.{sym, subst, ◌∙◌}
use Rattle.active_snapshot.specs.Views.{IsLast}
use Rattle.config_db.proofs.ShownLemmas.{proposes_next}
use Rattle.config_db.proofs.showing.propose.Goals as goal

pub view_after-requires-clause-follows : goal.view_after-requires-clause-follows
view_after-requires-clause-follows g c = c.requires.follows c.deref.result.now (subst (λ v. IsLast c.args.shown.now.list v) (sym c.deref.ensures) c.view.ensures.last)

pub propose-requires-clause-next : goal.propose-requires-clause-next
propose-requires-clause-next g c =
    let last = subst (λ v. IsLast c.args.shown.now.list v) (sym c.deref.ensures) c.view.ensures.last in
    (c.deref.result.now, last, (c.args.entry.now, c.in_ok-next.ensures))

pub returns-clause-ok : goal.returns-clause-ok
returns-clause-ok g c =
    let last = subst (λ v. IsLast c.args.shown.now.list v) (sym c.deref.ensures) c.view.ensures.last in
    proposes_next c.propose.result c.args.entry.now c.args.shown.now c.propose.new.self c.deref.result.now c.in_ok-next.next (sym c.is_late.ensures.late ∙ c.if-is_late.false) last c.in_ok-next.ensures c.propose.ensures.ok
