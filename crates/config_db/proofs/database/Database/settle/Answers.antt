use Rattle.std.proofs.Common.{◌≤◌, refl, is_some, sym, ap, subst}
use Rattle.std.specs.Prelude.{IsSome}
use Rattle.config_core.specs.declared.event.Event.TheVariants.{Settle}
use Rattle.config_core.specs.declared.event.Outcome.TheVariants.{Done}
use Rattle.config_core.specs.Prepared.{replied}
use Rattle.config_db.specs.Moves.{Happens, IsUnsettled}
use Rattle.config_db.proofs.DiskLemmas.{calls_is}
use Rattle.config_db.proofs.StandingLemmas.{stands_flying}
use Rattle.config_db.proofs.EventLemmas.{held_settled, next, settled_so, unsettled_book, unsettled_so}
use Rattle.config_db.proofs.database.Database.settle.Goals as goal

pub find_out-requires : goal.find_out-requires
find_out-requires g c =
    let i = c.self.inside in
    stands_flying i.journal i.core.kept i.core.flight c.self.invariant.0.stands (subst (λ v. IsSome v.state.flight) (sym c.self.view_is) c.requires.flying)

pub invariant_of-self : goal.invariant_of-self
invariant_of-self g c =
    let i = c.self.inside in (
      unsettled_book (record { journal = i.journal; opening = i.opening; users = i.users; events = i.events.items; state = i.core; shown = i.shown; readers = i.readers }) c.self.invariant.0 (λ events s t. c.histories_have_one_outcome.ensures.state i.opening i.users events s t)
          (subst (λ v. IsSome v.state.flight) (sym c.self.view_is) c.requires.flying) c.find_out.new.journal c.in-None.ensures,
      c.self.invariant.1,
      c.self.invariant.2,
    )

pub invariant_of-self-in-Some : goal.invariant_of-self-in-Some
invariant_of-self-in-Some g c =
    let i = c.self.inside in
    let comes = settled_so (record { journal = i.journal; opening = i.opening; users = i.users; events = i.events.items; state = i.core; shown = i.shown; readers = i.readers }) c.self.invariant.0 (λ events s t. c.histories_have_one_outcome.ensures.state i.opening i.users events s t) (subst (λ v. IsSome v.state.flight) (sym c.self.view_is) c.requires.flying) c.find_out.new.journal c.note_settling.new.events.items c.note_settling.new.core c.show_settled.new.shown c.args.caller c.args.moment c.in-Some.is_kept
    c.calls-calls.result (subst (λ v. v.state.greatest ≤ c.args.moment) (sym c.self.view_is) c.requires.no_earlier) c.in-Some.ensures c.show_settled.ensures
    (calls_is c.find_out.new.journal c.calls-calls.result c.calls-calls.ensures.a c.calls-calls.ensures.b) c.note_settling.ensures.state c.note_settling.ensures.events in (
      comes.book,
      λ flying. absurd (let none = ap is_some (comes.happens.done refl) in cc),
      held_settled c.args.caller c.args.moment c.in-Some.is_kept (replied c.note_settling.ensures.state.plan.effect c.note_settling.ensures.state.plan.reply Done)
          (record { journal = i.journal; opening = i.opening; users = i.users; events = i.events.items; state = i.core; shown = i.shown; readers = i.readers })
          (next (record { journal = i.journal; opening = i.opening; users = i.users; events = i.events.items; state = i.core; shown = i.shown; readers = i.readers }) c.find_out.new.journal c.note_settling.new.events.items c.note_settling.new.core c.show_settled.new.shown)
          i.held c.settle.new.self comes (subst (λ v. IsSome v.state.flight) (sym c.self.view_is) c.requires.flying) c.self.invariant.2 c.settle.ensures,
    )

pub returns-in-Some : goal.returns-in-Some
returns-in-Some g c =
    let i = c.self.inside in
    let comes = settled_so (record { journal = i.journal; opening = i.opening; users = i.users; events = i.events.items; state = i.core; shown = i.shown; readers = i.readers }) c.self.invariant.0 (λ events s t. c.histories_have_one_outcome.ensures.state i.opening i.users events s t) (subst (λ v. IsSome v.state.flight) (sym c.self.view_is) c.requires.flying) c.find_out.new.journal c.note_settling.new.events.items c.note_settling.new.core c.show_settled.new.shown c.args.caller c.args.moment c.in-Some.is_kept
    c.calls-calls.result (subst (λ v. v.state.greatest ≤ c.args.moment) (sym c.self.view_is) c.requires.no_earlier) c.in-Some.ensures c.show_settled.ensures
    (calls_is c.find_out.new.journal c.calls-calls.result c.calls-calls.ensures.a c.calls-calls.ensures.b) c.note_settling.ensures.state c.note_settling.ensures.events in (
      c.in-Some.is_kept,
      replied c.note_settling.ensures.state.plan.effect c.note_settling.ensures.state.plan.reply Done,
      subst (λ v. Happens c.args.caller c.args.moment (Settle c.in-Some.is_kept) Done (replied c.note_settling.ensures.state.plan.effect c.note_settling.ensures.state.plan.reply Done) v
          (next (record { journal = i.journal; opening = i.opening; users = i.users; events = i.events.items; state = i.core; shown = i.shown; readers = i.readers }) c.find_out.new.journal c.note_settling.new.events.items c.note_settling.new.core c.show_settled.new.shown)) c.self.view_is comes.happens,
    )

pub returns-in-None : goal.returns-in-None
returns-in-None g c =
    let i = c.self.inside in
    let some = subst (λ v. IsSome v.state.flight) (sym c.self.view_is) c.requires.flying in
    subst (λ v. IsUnsettled v (next (record { journal = i.journal; opening = i.opening; users = i.users; events = i.events.items; state = i.core; shown = i.shown; readers = i.readers }) c.find_out.new.journal i.events.items i.core i.shown)) c.self.view_is
    (unsettled_so (record { journal = i.journal; opening = i.opening; users = i.users; events = i.events.items; state = i.core; shown = i.shown; readers = i.readers }) c.self.invariant.0 (λ events s t. c.histories_have_one_outcome.ensures.state i.opening i.users events s t) some c.find_out.new.journal c.in-None.ensures)
