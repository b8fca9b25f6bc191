use Rattle.std.proofs.Common.{◌∙◌, refl}
use Rattle.session_shell.specs.Opened.{end_view}
use Rattle.session_threads.proofs.SeatLemmas.{ServesOne-left}
use Rattle.session_threads.specs.Access.{asks_of}
use Rattle.session_threads.specs.Sessions.{gate_of, result_of}
use Rattle.session_threads.proofs.seat.serve_one.Goals as goal

pub run_session-seat-requires : goal.run_session-seat-requires
run_session-seat-requires g c = (c.requires.0, c.requires.1.ready)

pub leave-requires : goal.leave-requires
leave-requires g c = (c.run_session-seat.ensures.goes.lock ∙ c.requires.1.ready.here, c.run_session-seat.ensures.goes.own)

pub returns : goal.returns
returns g c = λ first can.
    ServesOne-left (end_view g.S.Source.view g.K.Sink.view g.C.Clock.coming) c.args.limits.input c.fronts_never_fall.ensures.last
    (λ s. c.histories_have_one_outcome.ensures.state s.opening s.users) c.args.access first (gate_of c.args.access c.args.seat)
    (record {
      pass = c.run_session-seat.result.pass;
      reader = c.run_session-seat.result.reader;
      asks = asks_of c.args.access c.args.seat.end.user;
    }) c.leave.new.pass (result_of c.args.seat c.run_session-seat.result) can.ready.own can.ready.fixed can.starts refl
    c.run_session-seat.ensures
    (c.leave.ensures first (c.run_session-seat.ensures.goes.fixed ∙ can.ready.fixed))
