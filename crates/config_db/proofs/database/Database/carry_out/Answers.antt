use Rattle.std.proofs.Common.{◌≡◌, ◌++◌, ◌∷◌, [], None, sym, ap, subst, ◌∙◌, arith}
use Rattle.std.specs.Prelude.{IfSome}
use Rattle.commit_journal.specs.Journal.{disks_of}
use Rattle.commit_ledger.specs.Rules.{Follows}
use Rattle.disk_model.specs.Pair.{FaultOnEither}
use Rattle.config_core.specs.declared.event.Outcome.TheVariants.{Fault}
use Rattle.config_core.specs.Machine.{Fits}
use Rattle.config_core.specs.Plan.{made_in}
use Rattle.config_db.specs.Moves.{Happens, noted}
use Rattle.stored_ledger.specs.Standing.{Stands as ListStands}
use Rattle.config_db.specs.Standing.{Stands}
use Rattle.config_db.specs.View.{DatabaseView}
use Rattle.config_db.specs.Writing.{IsWritten, entry_in}
use Rattle.config_db.proofs.DiskLemmas.{calls_is}
use Rattle.config_db.proofs.MachineLemmas.{made_follows, made_is_sound, made_writable}
use Rattle.config_db.proofs.ShownLemmas.{can_follow, follows_last, nothing_proposed}
use Rattle.config_db.proofs.EventLemmas.{carried, held_carried, next, next_same}
use Rattle.config_db.proofs.WritingLemmas.{wrote}
use Rattle.config_db.proofs.database.Database.carry_out.Goals as goal

pub write_shown-requires-clause-stands : goal.write_shown-requires-clause-stands
write_shown-requires-clause-stands g c =
    let i = c.self.inside in
    subst (λ k. ListStands i.journal k) (sym c.ledger.ensures)
    (subst (λ f. Stands i.journal i.core.kept (entry_in f)) (subst (λ v. v.state.flight ≡ None) (sym c.self.view_is) c.requires.free) c.self.invariant.0.stands).holds

pub write_shown-requires-clause-writable : goal.write_shown-requires-clause-writable
write_shown-requires-clause-writable g c =
    let i = c.self.inside in
    made_writable i.core.kept c.args.moment (made_in c.in-Ok.prepared.effect)
    (made_is_sound i.core c.args.caller c.args.moment c.args.event c.in-Ok.prepared c.self.invariant.0.sound (subst (λ v. v.state.flight ≡ None) (sym c.self.view_is) c.requires.free)
    (subst (λ v. Fits v.state c.args.caller c.args.moment c.args.event) (sym c.self.view_is) c.requires.fits) c.in-Ok.ensures.ok)

pub write_shown-requires-clause-next : goal.write_shown-requires-clause-next
write_shown-requires-clause-next g c =
    let i = c.self.inside in
    subst (λ k. IfSome (made_in c.in-Ok.prepared.effect) (λ made. Follows k made.entry)) (sym c.ledger.ensures)
    (made_follows i.core.kept c.args.moment (made_in c.in-Ok.prepared.effect)
    (made_is_sound i.core c.args.caller c.args.moment c.args.event c.in-Ok.prepared c.self.invariant.0.sound (subst (λ v. v.state.flight ≡ None) (sym c.self.view_is) c.requires.free)
    (subst (λ v. Fits v.state c.args.caller c.args.moment c.args.event) (sym c.self.view_is) c.requires.fits) c.in-Ok.ensures.ok))

pub write_shown-requires-clause-follows : goal.write_shown-requires-clause-follows
write_shown-requires-clause-follows g c =
    let i = c.self.inside in
    let plan = c.in-Ok.prepared in
    follows_last (made_in plan.effect) i.shown.list i.core.kept c.self.invariant.0.shows.last
    (can_follow plan.effect plan.caller c.args.moment i.core c.in-Ok.ensures.ok.follows
    (made_is_sound i.core c.args.caller c.args.moment c.args.event plan c.self.invariant.0.sound (subst (λ v. v.state.flight ≡ None) (sym c.self.view_is) c.requires.free)
    (subst (λ v. Fits v.state c.args.caller c.args.moment c.args.event) (sym c.self.view_is) c.requires.fits) c.in-Ok.ensures.ok))

pub write_shown-requires-clause-nothing_waits : goal.write_shown-requires-clause-nothing_waits
write_shown-requires-clause-nothing_waits g c =
    let i = c.self.inside in
    nothing_proposed _ i.events.items i.core i.shown c.self.invariant.0.shows (subst (λ v. v.state.flight ≡ None) (sym c.self.view_is) c.requires.free)

pub invariant_of-self-in-Ok-write_shown : goal.invariant_of-self-in-Ok-write_shown
invariant_of-self-in-Ok-write_shown g c =
    let i = c.self.inside in
    let v : DatabaseView = record { journal = i.journal; opening = i.opening; users = i.users; events = i.events.items; state = i.core; shown = i.shown; readers = i.readers } in
    let free = subst (λ v. v.state.flight ≡ None) (sym c.self.view_is) c.requires.free in
    let made = made_in c.in-Ok.prepared.effect in
    let written = wrote i.core.kept made c.in-Ok-write_shown.outcome i.journal c.write_shown.new.journal (subst (λ f. Stands i.journal i.core.kept (entry_in f)) free c.self.invariant.0.stands)
    (subst (λ k. IsWritten k made c.in-Ok-write_shown.outcome i.journal c.write_shown.new.journal) c.ledger.ensures c.in-Ok-write_shown.ensures.written) in
    let comes = carried v c.self.invariant.0 (λ events s t. c.histories_have_one_outcome.ensures.state i.opening i.users events s t) c.write_shown.new.journal c.note-reply.new.events.items c.note-reply.new.core c.write_shown.new.shown c.args.caller c.args.moment c.args.event c.in-Ok-write_shown.outcome
    c.note-reply.result c.calls.result c.in-Ok.prepared free (subst (λ v. Fits v.state c.args.caller c.args.moment c.args.event) (sym c.self.view_is) c.requires.fits)
    c.in-Ok.ensures.ok written c.in-Ok-write_shown.ensures.shown (calls_is c.write_shown.new.journal c.calls.result c.calls.ensures.a c.calls.ensures.b) c.note-reply.ensures.state c.note-reply.ensures.reply
    (c.note-reply.ensures.events ∙ ap (λ l. l ++ noted c.args.caller c.args.moment c.args.event c.in-Ok-write_shown.outcome c.calls.result ∷ []) c.in_ok-reserve.ensures.items) in (
      comes.book,
      λ some. omega (arith, c.note-reply.ensures.spare, c.in_ok-reserve.ensures.ok),
      held_carried c.args.caller c.args.moment c.args.event c.in-Ok-write_shown.outcome c.note-reply.result made v
          (next v c.write_shown.new.journal c.note-reply.new.events.items c.note-reply.new.core c.write_shown.new.shown) i.held c.hold.new.self comes free c.self.invariant.2 c.hold.ensures,
    )

pub returns-in-Err-write_shown-clause-err : goal.returns-in-Err-write_shown-clause-err
returns-in-Err-write_shown-clause-err g c =
    let i = c.self.inside in
    next_same (record { journal = i.journal; opening = i.opening; users = i.users; events = i.events.items; state = i.core; shown = i.shown; readers = i.readers }) c.write_shown.new.journal c.reserve.new.self.items c.write_shown.new.shown c.in-Err-write_shown.ensures.err c.in_ok-reserve.ensures.items c.in-Err-write_shown.ensures.withdrawn ∙ c.self.view_is

pub returns-in-Ok-write_shown-clause-ok : goal.returns-in-Ok-write_shown-clause-ok
returns-in-Ok-write_shown-clause-ok g c =
    let i = c.self.inside in
    let v : DatabaseView = record { journal = i.journal; opening = i.opening; users = i.users; events = i.events.items; state = i.core; shown = i.shown; readers = i.readers } in
    let free = subst (λ v. v.state.flight ≡ None) (sym c.self.view_is) c.requires.free in
    let made = made_in c.in-Ok.prepared.effect in
    let written = wrote i.core.kept made c.in-Ok-write_shown.outcome i.journal c.write_shown.new.journal (subst (λ f. Stands i.journal i.core.kept (entry_in f)) free c.self.invariant.0.stands)
    (subst (λ k. IsWritten k made c.in-Ok-write_shown.outcome i.journal c.write_shown.new.journal) c.ledger.ensures c.in-Ok-write_shown.ensures.written) in
    let comes = carried v c.self.invariant.0 (λ events s t. c.histories_have_one_outcome.ensures.state i.opening i.users events s t) c.write_shown.new.journal c.note-reply.new.events.items c.note-reply.new.core c.write_shown.new.shown c.args.caller c.args.moment c.args.event c.in-Ok-write_shown.outcome
    c.note-reply.result c.calls.result c.in-Ok.prepared free (subst (λ v. Fits v.state c.args.caller c.args.moment c.args.event) (sym c.self.view_is) c.requires.fits)
    c.in-Ok.ensures.ok written c.in-Ok-write_shown.ensures.shown (calls_is c.write_shown.new.journal c.calls.result c.calls.ensures.a c.calls.ensures.b) c.note-reply.ensures.state c.note-reply.ensures.reply
    (c.note-reply.ensures.events ∙ ap (λ l. l ++ noted c.args.caller c.args.moment c.args.event c.in-Ok-write_shown.outcome c.calls.result ∷ []) c.in_ok-reserve.ensures.items) in
    subst (λ u. Happens c.args.caller c.args.moment c.args.event c.in-Ok-write_shown.outcome c.note-reply.result u (next v c.write_shown.new.journal c.note-reply.new.events.items c.note-reply.new.core c.write_shown.new.shown))
    c.self.view_is comes.happens

pub returns-in-Ok-write_shown-clause-cause : goal.returns-in-Ok-write_shown-clause-cause
returns-in-Ok-write_shown-clause-cause g c =
    let i = c.self.inside in
    let free = subst (λ v. v.state.flight ≡ None) (sym c.self.view_is) c.requires.free in
    let made = made_in c.in-Ok.prepared.effect in
    let written = wrote i.core.kept made c.in-Ok-write_shown.outcome i.journal c.write_shown.new.journal (subst (λ f. Stands i.journal i.core.kept (entry_in f)) free c.self.invariant.0.stands)
    (subst (λ k. IsWritten k made c.in-Ok-write_shown.outcome i.journal c.write_shown.new.journal) c.ledger.ensures c.in-Ok-write_shown.ensures.written) in
    subst (λ u. c.in-Ok-write_shown.outcome ≡ Fault → FaultOnEither (disks_of u.journal) (disks_of c.write_shown.new.journal)) c.self.view_is written.cause
