use Rattle.std.proofs.Common.{◌++◌, ◌∷◌, [], sym, ap, subst, ◌∙◌, arith}
use Rattle.std.specs.Prelude.{IsSome}
use Rattle.config_core.specs.declared.event.Outcome.TheVariants.{Fault}
use Rattle.config_core.specs.Machine.{Fits}
use Rattle.config_db.specs.Moves.{Happens, noted}
use Rattle.config_db.proofs.DiskLemmas.{calls_is}
use Rattle.config_db.proofs.EventLemmas.{held_put_off, next, put_off_so}
use Rattle.config_db.proofs.database.Database.note_put_off.Goals as goal

pub invariant_of-self-in-Ok : goal.invariant_of-self-in-Ok
invariant_of-self-in-Ok g c =
    let i = c.self.inside in
    let comes = put_off_so (record { journal = i.journal; opening = i.opening; users = i.users; events = i.events.items; state = i.core; shown = i.shown; readers = i.readers }) c.self.invariant.0 (λ events s t. c.histories_have_one_outcome.ensures.state i.opening i.users events s t)
    (subst (λ v. IsSome v.state.flight) (sym c.self.view_is) c.requires.flying) c.note.new.events.items c.note.new.core c.args.caller c.args.moment c.args.event c.note.result c.calls.result c.in-Ok.prepared
    c.requires.asks (subst (λ v. Fits v.state c.args.caller c.args.moment c.args.event) (sym c.self.view_is) c.requires.fits) c.in-Ok.ensures.ok
    (calls_is i.journal c.calls.result c.calls.ensures.a c.calls.ensures.b) c.note.ensures.state c.note.ensures.reply
    (c.note.ensures.events ∙ ap (λ l. l ++ noted c.args.caller c.args.moment c.args.event Fault c.calls.result ∷ []) c.in_ok-reserve.ensures.items) in (
      comes.book,
      λ some. omega (arith, c.note.ensures.spare, c.in_ok-reserve.ensures.ok),
      held_put_off c.args.caller c.args.moment c.args.event c.note.result (record { journal = i.journal; opening = i.opening; users = i.users; events = i.events.items; state = i.core; shown = i.shown; readers = i.readers })
          (next (record { journal = i.journal; opening = i.opening; users = i.users; events = i.events.items; state = i.core; shown = i.shown; readers = i.readers }) i.journal c.note.new.events.items c.note.new.core i.shown)
          i.held comes c.self.invariant.2,
    )

pub returns-in-Ok-clause-ok : goal.returns-in-Ok-clause-ok
returns-in-Ok-clause-ok g c =
    let i = c.self.inside in
    let comes = put_off_so (record { journal = i.journal; opening = i.opening; users = i.users; events = i.events.items; state = i.core; shown = i.shown; readers = i.readers }) c.self.invariant.0 (λ events s t. c.histories_have_one_outcome.ensures.state i.opening i.users events s t)
    (subst (λ v. IsSome v.state.flight) (sym c.self.view_is) c.requires.flying) c.note.new.events.items c.note.new.core c.args.caller c.args.moment c.args.event c.note.result c.calls.result c.in-Ok.prepared
    c.requires.asks (subst (λ v. Fits v.state c.args.caller c.args.moment c.args.event) (sym c.self.view_is) c.requires.fits) c.in-Ok.ensures.ok
    (calls_is i.journal c.calls.result c.calls.ensures.a c.calls.ensures.b) c.note.ensures.state c.note.ensures.reply
    (c.note.ensures.events ∙ ap (λ l. l ++ noted c.args.caller c.args.moment c.args.event Fault c.calls.result ∷ []) c.in_ok-reserve.ensures.items) in
    subst (λ v. Happens c.args.caller c.args.moment c.args.event Fault c.note.result v (next (record { journal = i.journal; opening = i.opening; users = i.users; events = i.events.items; state = i.core; shown = i.shown; readers = i.readers }) i.journal c.note.new.events.items c.note.new.core i.shown)) c.self.view_is comes.happens
