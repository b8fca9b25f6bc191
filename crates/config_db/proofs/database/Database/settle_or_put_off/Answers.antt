use Rattle.std.proofs.Common.{◌++◌, ◌∷◌, [], refl, is_some, sym, ap, subst, ◌∙◌, arith}
use Rattle.std.specs.Prelude.{IsSome}
use Rattle.config_core.specs.declared.event.Event.TheVariants.{Settle}
use Rattle.config_core.specs.declared.event.Outcome.TheVariants.{Done, Fault}
use Rattle.config_core.specs.Machine.{Fits}
use Rattle.config_core.specs.Prepared.{replied}
use Rattle.config_db.specs.View.{DatabaseView}
use Rattle.config_db.specs.Moves.{Happens, IsUnsettled, noted}
use Rattle.config_db.proofs.DiskLemmas.{calls_is}
use Rattle.config_db.proofs.StandingLemmas.{stands_flying}
use Rattle.config_db.proofs.EventLemmas.{held_put_off, held_settled, next, put_off_so, settled_so, unsettled_book, unsettled_so}
use Rattle.config_db.proofs.database.Database.settle_or_put_off.Goals as goal

pub find_out-requires : goal.find_out-requires
find_out-requires g c =
    let i = c.self.inside in
    stands_flying i.journal i.core.kept i.core.flight c.self.invariant.0.stands (subst (λ v. IsSome v.state.flight) (sym c.self.view_is) c.requires.flying)

pub invariant_of-self-in-None : goal.invariant_of-self-in-None
invariant_of-self-in-None g c =
    let i = c.self.inside in
    let v : DatabaseView = record { journal = i.journal; opening = i.opening; users = i.users; events = i.events.items; state = i.core; shown = i.shown; readers = i.readers } in
    let some = subst (λ v. IsSome v.state.flight) (sym c.self.view_is) c.requires.flying in
    let book = unsettled_book v c.self.invariant.0 (λ events s t. c.histories_have_one_outcome.ensures.state i.opening i.users events s t) some c.find_out.new.journal c.in-None.ensures in
    let comes = put_off_so (next v c.find_out.new.journal v.events v.state v.shown) book (λ events s t. c.histories_have_one_outcome.ensures.state i.opening i.users events s t) some
    c.note-reply.new.events.items c.note-reply.new.core c.args.caller c.args.moment c.args.event c.note-reply.result c.calls.result c.in-Ok.prepared c.requires.asks
    (subst (λ v. Fits v.state c.args.caller c.args.moment c.args.event) (sym c.self.view_is) c.requires.fits) c.in-Ok.ensures.ok
    (calls_is c.find_out.new.journal c.calls.result c.calls.ensures.a c.calls.ensures.b) c.note-reply.ensures.state c.note-reply.ensures.reply
    (c.note-reply.ensures.events ∙ ap (λ l. l ++ noted c.args.caller c.args.moment c.args.event Fault c.calls.result ∷ []) c.in_ok-reserve.ensures.items) in (
      comes.book,
      λ some. omega (arith, c.note-reply.ensures.spare, c.in_ok-reserve.ensures.ok),
      held_put_off c.args.caller c.args.moment c.args.event c.note-reply.result (next v c.find_out.new.journal v.events v.state v.shown)
          (next (next v c.find_out.new.journal v.events v.state v.shown) c.find_out.new.journal c.note-reply.new.events.items c.note-reply.new.core v.shown) i.held comes c.self.invariant.2,
    )

pub returns-in-None-clause-ok : goal.returns-in-None-clause-ok
returns-in-None-clause-ok g c =
    let i = c.self.inside in
    let v : DatabaseView = record { journal = i.journal; opening = i.opening; users = i.users; events = i.events.items; state = i.core; shown = i.shown; readers = i.readers } in
    let some = subst (λ v. IsSome v.state.flight) (sym c.self.view_is) c.requires.flying in
    let book = unsettled_book v c.self.invariant.0 (λ events s t. c.histories_have_one_outcome.ensures.state i.opening i.users events s t) some c.find_out.new.journal c.in-None.ensures in
    let un = unsettled_so v c.self.invariant.0 (λ events s t. c.histories_have_one_outcome.ensures.state i.opening i.users events s t) some c.find_out.new.journal c.in-None.ensures in
    let comes = put_off_so (next v c.find_out.new.journal v.events v.state v.shown) book (λ events s t. c.histories_have_one_outcome.ensures.state i.opening i.users events s t) some
    c.note-reply.new.events.items c.note-reply.new.core c.args.caller c.args.moment c.args.event c.note-reply.result c.calls.result c.in-Ok.prepared c.requires.asks
    (subst (λ v. Fits v.state c.args.caller c.args.moment c.args.event) (sym c.self.view_is) c.requires.fits) c.in-Ok.ensures.ok
    (calls_is c.find_out.new.journal c.calls.result c.calls.ensures.a c.calls.ensures.b) c.note-reply.ensures.state c.note-reply.ensures.reply
    (c.note-reply.ensures.events ∙ ap (λ l. l ++ noted c.args.caller c.args.moment c.args.event Fault c.calls.result ∷ []) c.in_ok-reserve.ensures.items) in
    (next v c.find_out.new.journal v.events v.state v.shown, subst (λ x. IsUnsettled x (next v c.find_out.new.journal v.events v.state v.shown)) c.self.view_is un, comes.happens)

pub invariant_of-self-in-Some : goal.invariant_of-self-in-Some
invariant_of-self-in-Some g c =
    let i = c.self.inside in
    let v : DatabaseView = record { journal = i.journal; opening = i.opening; users = i.users; events = i.events.items; state = i.core; shown = i.shown; readers = i.readers } in
    let some = subst (λ v. IsSome v.state.flight) (sym c.self.view_is) c.requires.flying in
    let fits = subst (λ v. Fits v.state c.args.caller c.args.moment c.args.event) (sym c.self.view_is) c.requires.fits in
    let comes = settled_so v c.self.invariant.0 (λ events s t. c.histories_have_one_outcome.ensures.state i.opening i.users events s t) some c.find_out.new.journal c.note_settling.new.events.items c.note_settling.new.core c.show_settled.new.shown
    c.args.caller c.args.moment c.in-Some.is_kept c.calls-calls.result fits.no_earlier c.in-Some.ensures c.show_settled.ensures (calls_is c.find_out.new.journal c.calls-calls.result c.calls-calls.ensures.a c.calls-calls.ensures.b) c.note_settling.ensures.state
    (c.note_settling.ensures.events ∙ ap (λ l. l ++ noted c.args.caller c.args.moment (Settle c.in-Some.is_kept) Done c.calls-calls.result ∷ []) c.in_ok-reserve.ensures.items) in (
      comes.book,
      λ flying. absurd (let none = ap is_some (comes.happens.done refl) in cc),
      held_settled c.args.caller c.args.moment c.in-Some.is_kept (replied c.note_settling.ensures.state.plan.effect c.note_settling.ensures.state.plan.reply Done) v
          (next v c.find_out.new.journal c.note_settling.new.events.items c.note_settling.new.core c.show_settled.new.shown) i.held c.settle.new.self comes some c.self.invariant.2 c.settle.ensures,
    )

pub returns-in-Some-clause-ok : goal.returns-in-Some-clause-ok
returns-in-Some-clause-ok g c =
    let i = c.self.inside in
    let v : DatabaseView = record { journal = i.journal; opening = i.opening; users = i.users; events = i.events.items; state = i.core; shown = i.shown; readers = i.readers } in
    let some = subst (λ v. IsSome v.state.flight) (sym c.self.view_is) c.requires.flying in
    let fits = subst (λ v. Fits v.state c.args.caller c.args.moment c.args.event) (sym c.self.view_is) c.requires.fits in
    let comes = settled_so v c.self.invariant.0 (λ events s t. c.histories_have_one_outcome.ensures.state i.opening i.users events s t) some c.find_out.new.journal c.note_settling.new.events.items c.note_settling.new.core c.show_settled.new.shown
    c.args.caller c.args.moment c.in-Some.is_kept c.calls-calls.result fits.no_earlier c.in-Some.ensures c.show_settled.ensures (calls_is c.find_out.new.journal c.calls-calls.result c.calls-calls.ensures.a c.calls-calls.ensures.b) c.note_settling.ensures.state
    (c.note_settling.ensures.events ∙ ap (λ l. l ++ noted c.args.caller c.args.moment (Settle c.in-Some.is_kept) Done c.calls-calls.result ∷ []) c.in_ok-reserve.ensures.items) in (
      refl,
      (
        c.in-Some.is_kept,
        replied c.note_settling.ensures.state.plan.effect c.note_settling.ensures.state.plan.reply Done,
        subst (λ x. Happens c.args.caller c.args.moment (Settle c.in-Some.is_kept) Done (replied c.note_settling.ensures.state.plan.effect c.note_settling.ensures.state.plan.reply Done) x
            (next v c.find_out.new.journal c.note_settling.new.events.items c.note_settling.new.core c.show_settled.new.shown)) c.self.view_is comes.happens,
      ),
    )
