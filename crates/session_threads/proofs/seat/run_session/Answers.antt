use Rattle.std.proofs.Common.{◌∙◌, ap, refl, ℕ, List, Option}
use Rattle.session_shell.specs.Opened.{NewSessionView, end_view}
use Rattle.session_threads.specs.Access.{asks_of}
use Rattle.session_threads.proofs.SeatLemmas.{RunsOne-ran}
use Rattle.session_threads.proofs.seat.run_session.Goals as goal

pub returns-in-Ok-new : goal.returns-in-Ok-new
returns-in-Ok-new g c =
    RunsOne-ran (end_view g.S.Source.view g.K.Sink.view g.C.Clock.coming) c.args.limits.input
    (record { pass = c.args.seat.pass; reader = c.args.seat.reader; asks = asks_of c.args.access c.args.seat.end.user })
    (record {
      pass = c.into_parts-pass.result.0;
      reader = c.into_parts-pass.result.1;
      asks = asks_of c.args.access c.args.seat.end.user;
    }) c.of-gate.result c.run-how.new.door c.in-Ok-new.session.end c.run-how.result.end c.args.seat.end c.run-how.result.how
    c.run-how.result.turns c.in-Ok-new.session.limit (ap (λ (s : NewSessionView _ _ _). s.end) c.in-Ok-new.ensures.ok)
    (ap (λ (s : NewSessionView _ _ _). s.limit) c.in-Ok-new.ensures.ok)
    (c.of-gate.ensures ∙ ap (λ (asks : Option (List ℕ)). record {
      pass = c.args.seat.pass;
      reader = c.args.seat.reader;
      asks = asks;
    }) c.in-Ok.ensures) c.into_parts-pass.ensures refl c.requires.1.own c.run-how.ensures.session
