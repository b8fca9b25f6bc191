use Rattle.std.proofs.Common.{vec_capacity, sym, ◌∙◌, ap, subst}
use Rattle.commit_journal.proofs.HeldLemmas.{calls_is}
use Rattle.commit_ledger.specs.Kept.{append_entry}
use Rattle.commit_ledger.specs.Ready.{ReadyView}
use Rattle.stored_ledger.specs.declared.change.Change.TheVariants.{Entry as EntryMore}
use Rattle.stored_ledger.specs.Growing.{answer_of}
use Rattle.sync_link.specs.Takes.{HasRoom}
use Rattle.sync_link.specs.Views.{BackupView, Moves, flight_of}
use Rattle.sync_link.proofs.StepLemmas.{can_accept, made_backup, makes_moves}
use Rattle.sync_link.proofs.ValueLemmas.{one_more}
use Rattle.sync_link.proofs.backup.Backup.add.Goals as goal

pub note-requires-clause-can : goal.note-requires-clause-can
note-requires-clause-can g c =
    can_accept c.self.inside.ledger c.args.entry.now c.in_ok-copy.field-0 c.in_ok-ready.ready
    (subst (λ (v : BackupView). HasRoom v.kept c.args.entry.now) (sym c.self.view_is) c.requires.fits) c.in_ok-copy.ensures c.in_ok-ready.ensures

pub invariant_of-self-in-Ok : goal.invariant_of-self-in-Ok
invariant_of-self-in-Ok g c =
    let i = c.self.inside in (
      made_backup EntryMore c.in-Ok.done c.answer_of.result i.ledger c.note.new.ledger (append_entry i.ledger c.in_ok-ready.ready.entry) (append_entry i.ledger c.args.entry.now)
          i.journal c.add_entry.new.journal (flight_of i.ledger i.flight) (flight_of c.note.new.ledger c.note.new.flight)
          i.marks.items c.note.new.marks.items (vec_capacity i.marks) (vec_capacity c.note.new.marks) i.events c.calls-calls.result c.self.invariant.0
          (one_more i.ledger c.args.entry.now) c.in-Ok.ensures.ok.list c.answer_of.ensures
          (ap (λ (r : ReadyView). append_entry i.ledger r.entry) c.in_ok-ready.ensures ∙ ap (append_entry i.ledger) c.in_ok-copy.ensures)
          (calls_is c.add_entry.new.journal c.calls-calls.result c.calls-calls.ensures.a c.calls-calls.ensures.b) c.note.ensures.ledger c.note.ensures.flight c.note.ensures.marks,
      c.note.ensures.can,
    )

pub returns-in-Ok-clause-ok : goal.returns-in-Ok-clause-ok
returns-in-Ok-clause-ok g c =
    let i = c.self.inside in
    subst (λ (v : BackupView). Moves EntryMore (answer_of c.in-Ok.done) (append_entry v.kept c.args.entry.now) v (record {
      files = c.add_entry.new.journal;
      kept = c.note.new.ledger;
      flight = flight_of c.note.new.ledger c.note.new.flight;
      marks = c.note.new.marks.items;
      room = vec_capacity c.note.new.marks;
      events = i.events;
    })) c.self.view_is
    (makes_moves EntryMore c.in-Ok.done c.answer_of.result i.ledger c.note.new.ledger (append_entry i.ledger c.in_ok-ready.ready.entry) (append_entry i.ledger c.args.entry.now)
    i.journal c.add_entry.new.journal (flight_of i.ledger i.flight) (flight_of c.note.new.ledger c.note.new.flight)
    i.marks.items c.note.new.marks.items (vec_capacity i.marks) (vec_capacity c.note.new.marks) i.events c.calls-calls.result c.self.invariant.0
    (one_more i.ledger c.args.entry.now) c.in-Ok.ensures.ok.list c.answer_of.ensures
    (ap (λ (r : ReadyView). append_entry i.ledger r.entry) c.in_ok-ready.ensures ∙ ap (append_entry i.ledger) c.in_ok-copy.ensures)
    (calls_is c.add_entry.new.journal c.calls-calls.result c.calls-calls.ensures.a c.calls-calls.ensures.b) c.note.ensures.ledger c.note.ensures.flight c.note.ensures.marks
    c.note.ensures.capacity)
