use Rattle.std.proofs.Common.{◌≡◌, ◌≤◌, None, refl, vec_capacity, sym, subst}
use Rattle.commit_journal.proofs.HeldLemmas.{calls_is}
use Rattle.stored_ledger.specs.declared.change.Change.TheVariants.{Whole as WholeList}
use Rattle.sync_link.specs.Views.{BackupView, flight_of}
use Rattle.sync_link.proofs.StepLemmas.{made_backup, stands_idle}
use Rattle.sync_link.proofs.backup.Backup.replace.Goals as goal

pub invariant_of-self-in-Ok : goal.invariant_of-self-in-Ok
invariant_of-self-in-Ok g c =
    let i = c.self.inside in (
      made_backup WholeList c.in-Ok.done c.answer_of.result i.ledger c.note.new.ledger c.args.whole c.args.whole
          i.journal c.replace_list.new.journal (flight_of i.ledger i.flight) (flight_of c.note.new.ledger c.note.new.flight)
          i.marks.items c.note.new.marks.items (vec_capacity i.marks) (vec_capacity c.note.new.marks) i.events c.calls-calls.result c.self.invariant.0
          (subst (λ (v : BackupView). v.kept.count ≤ c.args.whole.count) (sym c.self.view_is) c.requires.no_fewer)
          (c.in-Ok.ensures.ok.list i.ledger
          (stands_idle i.journal i.ledger (flight_of i.ledger i.flight) (subst (λ (v : BackupView). v.flight ≡ None) (sym c.self.view_is) c.requires.idle) c.self.invariant.0.has))
          c.answer_of.ensures refl (calls_is c.replace_list.new.journal c.calls-calls.result c.calls-calls.ensures.a c.calls-calls.ensures.b)
          c.note.ensures.ledger c.note.ensures.flight c.note.ensures.marks,
      c.note.ensures.can,
    )
