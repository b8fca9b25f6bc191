use Rattle.std.proofs.Common.{sym, subst}
use Rattle.commit_ledger.specs.Kept.{Kept}
use Rattle.active_snapshot.specs.Views.{IsLast}
use Rattle.active_snapshot.proofs.tests.propose.Goals as goal

pub propose-requires-clause-next : goal.propose-requires-clause-next
propose-requires-clause-next g c =
    let is_last = subst (λ (v : Kept). IsLast c.args.writer.now.list v) (sym c.deref.ensures) c.view.ensures.last in
    (c.deref.result.now, is_last, c.in_ok-next.ensures)
