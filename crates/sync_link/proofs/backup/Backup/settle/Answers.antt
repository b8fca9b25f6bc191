use Rattle.std.proofs.Common.{vec_capacity, subst}
use Rattle.commit_journal.proofs.HeldLemmas.{calls_is}
use Rattle.sync_link.specs.Views.{BackupView, SettlesIn, flight_of}
use Rattle.sync_link.proofs.StepLemmas.{making_there, settled_backup, settles}
use Rattle.sync_link.proofs.backup.Backup.settle.Goals as goal

pub invariant_of-self : goal.invariant_of-self
invariant_of-self g c =
    let i = c.self.inside in (
      settled_backup c.settle_list-found.result i.ledger c.note.new.ledger i.journal c.settle_list-found.new.journal (flight_of c.note.new.ledger c.note.new.flight)
          i.marks.items c.note.new.marks.items (vec_capacity i.marks) (vec_capacity c.note.new.marks) i.events c.calls-calls.result
          (calls_is c.settle_list-found.new.journal c.calls-calls.result c.calls-calls.ensures.a c.calls-calls.ensures.b) c.note.ensures.marks
          c.in-Some.change i.flight (making_there c.in-Some.change (flight_of i.ledger i.flight) (c.in-Some.ensures i.ledger)) c.settle_list-found.ensures c.self.invariant.0
          c.note.ensures.ledger c.note.ensures.flight,
      c.note.ensures.can,
    )

pub returns : goal.returns
returns g c =
    let i = c.self.inside in
    subst (λ (v : BackupView). SettlesIn v.flight c.done_of.result v (record {
      files = c.settle_list-found.new.journal;
      kept = c.note.new.ledger;
      flight = flight_of c.note.new.ledger c.note.new.flight;
      marks = c.note.new.marks.items;
      room = vec_capacity c.note.new.marks;
      events = i.events;
    })) c.self.view_is
    (settles c.settle_list-found.result i.ledger c.note.new.ledger i.journal c.settle_list-found.new.journal (flight_of c.note.new.ledger c.note.new.flight)
    i.marks.items c.note.new.marks.items (vec_capacity i.marks) (vec_capacity c.note.new.marks) i.events c.calls-calls.result
    (calls_is c.settle_list-found.new.journal c.calls-calls.result c.calls-calls.ensures.a c.calls-calls.ensures.b) c.note.ensures.marks
    c.in-Some.change i.flight c.done_of.result (making_there c.in-Some.change (flight_of i.ledger i.flight) (c.in-Some.ensures i.ledger)) c.settle_list-found.ensures c.self.invariant.0
    c.note.ensures.ledger c.note.ensures.flight c.note.ensures.capacity c.done_of.ensures)
