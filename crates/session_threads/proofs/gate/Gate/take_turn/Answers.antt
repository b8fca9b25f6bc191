use Rattle.std.proofs.Common.{IfSome, subst}
use Rattle.std.specs.Arc.{arc_value}
use Rattle.active_snapshot.specs.Views.{IsLast}
use Rattle.session_threads.specs.Gates.{GateView, TookIn}
use Rattle.session_threads.proofs.FoundLemmas.{KnowsRights-later}
use Rattle.session_threads.proofs.GateLemmas.{IsReady-turn, TookIn-turn, shows_turn}
use Rattle.session_threads.proofs.gate.Gate.take_turn.Goals as goal

pub learn-requires-clause-view : goal.learn-requires-clause-view
learn-requires-clause-view g c =
    shows_turn c.self.inside.pass c.turn-given.new.pass c.self.inside.user c.args.command c.args.moment c.turn-given.result.given
    c.turn-given.result.note.list
    (IfSome c.turn-given.result.view (λ view. IsLast c.turn-given.result.note.list (arc_value view)))
    c.self.invariant.0.1.own c.turn-given.ensures c.self.invariant.0.0 c.self.invariant.0.1.fixed

pub learn-requires-clause-had : goal.learn-requires-clause-had
learn-requires-clause-had g c = c.held-given.ensures.knew

pub invariant_of-self : goal.invariant_of-self
invariant_of-self g c = (
  (
    c.self.invariant.0.0,
    IsReady-turn c.self.inside.pass c.turn-given.new.pass c.self.inside.user c.args.command c.args.moment c.turn-given.result.given
        c.turn-given.result.note.list
        (IfSome c.turn-given.result.view (λ view. IsLast c.turn-given.result.note.list (arc_value view)))
        c.self.invariant.0.1.own c.turn-given.ensures c.self.inside.lock.now c.self.invariant.0.0 c.self.invariant.0.1,
  ),
  KnowsRights-later c.self.inside.user c.self.inside.reader.list c.learn.new.reader.list c.self.inside.found c.learn.ensures.reads.later
      c.self.invariant.1,
)

pub returns : goal.returns
returns g c =
    subst (λ (d : GateView). TookIn d c.args.command c.args.moment c.held-given.result
    (record { pass = c.turn-given.new.pass; reader = c.learn.new.reader; asks = c.self.inside.user })) c.self.view_is
    (TookIn-turn c.self.inside.pass c.turn-given.new.pass c.self.inside.user c.args.command c.args.moment c.turn-given.result.given
    c.turn-given.result.note.list
    (IfSome c.turn-given.result.view (λ view. IsLast c.turn-given.result.note.list (arc_value view)))
    c.self.invariant.0.1.own c.turn-given.ensures c.self.inside.reader c.learn.new.reader c.held-given.result c.self.invariant.0.0
    c.self.invariant.0.1.fixed c.held-given.ensures c.learn.ensures)
