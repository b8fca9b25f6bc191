use denote.Param.{param}
use denote.Exit.{no, unseen, yes}
use denote.Param.Send.{IsSend, Quiet, Quiet-if}
use mir.Syntax.{of_param}
use Rattle.std.proofs.Common.{rules, ◌≡◌, ◌≤◌, ap, sym, subst, ◌∙◌, length, vec_capacity, vec_items}
use Rattle.config_db.specs.View.{DatabaseView, opened}
use Rattle.session_threads.specs.Begun.{start_of}
use Rattle.session_shell.specs.Opened.{end_view}
use Rattle.session_threads.specs.Looks.{ticker_view}
use Rattle.session_threads.specs.Served.{ServedView}
use Rattle.session_threads.proofs.SendLemmas.{place_row, place_send}
use Rattle.session_threads.proofs.WholeLemmas.{AreServed-begun, AreServed-handed, AreServed-none, AreServed-of, all_here, as_many}
use Rattle.session_threads.proofs.WholeLemmas.{can_serve, closes, gone_here, handed, made_of}
use Rattle.session_threads.proofs.whole.serve_all.Lts.{arg-11-1}
use Rattle.session_threads.proofs.whole.serve_all.Goals as goal

pub returns-in-Err : goal.returns-in-Err
returns-in-Err g c =
    AreServed-handed g.row.J.Denot (end_view g.S.Source.view g.K.Sink.view g.C.Clock.coming)
    c.args.limits.input c.args.access c.args.database c.readers-readers.new.self c.readers-readers.ensures.rest
    c.args.ends.items c.none_served.result.ends.items (ticker_view g.B.Beat.coming g.C.Clock.coming c.args.ticker) (ticker_view g.B.Beat.coming g.C.Clock.coming c.none_served.result.ticker) c.none_served.result.turns.items
    c.none_served.result.database c.none_served.result.status
    (AreServed-none g.row.J.Denot (end_view g.S.Source.view g.K.Sink.view g.C.Clock.coming)
    c.args.limits.input c.args.access c.readers-readers.new.self
    c.args.ends.items c.none_served.result.ends.items (ticker_view g.B.Beat.coming g.C.Clock.coming c.args.ticker) (ticker_view g.B.Beat.coming g.C.Clock.coming c.none_served.result.ticker) c.none_served.result.turns.items
    c.none_served.result.database c.none_served.result.status
    (ap (λ (v : DatabaseView). v.events) c.readers-readers.ensures.rest ∙ c.requires.fresh.0)
    (subst (λ (v : DatabaseView). v.state ≡ opened v) (sym c.readers-readers.ensures.rest) c.requires.fresh.1)
    c.none_served.ensures.none
    (ap vec_items c.none_served.ensures.same.1) (ap (ticker_view g.B.Beat.coming g.C.Clock.coming) c.none_served.ensures.same.2)
    (c.none_served.ensures.same.0 ∙ c.into_database.ensures.is
    ∙ ap (λ (s : ServedView). s.database) (c.in-Err.ensures.err ∙ c.of.ensures)))

pub seat_all-requires-clause-readers : goal.seat_all-requires-clause-readers
seat_all-requires-clause-readers g c = (
  c.args.database.opening,
  handed c.args.database c.readers-readers.result (length c.args.ends.items) c.requires.readers c.readers-readers.ensures.taken,
)

pub serve_seats-requires-send-T : goal.serve_seats-requires-send-T
serve_seats-requires-send-T g c κs within =
    let places : IsSend (place_row (param 1 g.row.S) (param 2 g.row.K) (param 3 g.row.C) (param 5 g.row.D) (param 6 g.row.J) g.D.Disk g.J.Naming) =
    place_send (param 1 g.row.S) (param 2 g.row.K) (param 3 g.row.C) (param 5 g.row.D) (param 6 g.row.J) g.D.Disk g.J.Naming (search rules)
    (search rules) (search rules) (search rules) (search rules) in
    let left : Quiet ((arg-11-1 g.row.R g.row.S g.row.K g.row.C g.row.B g.row.D g.row.J g.R.laws g.S.laws g.K.laws g.C.laws g.B.laws g.D.laws g.J.laws
    g.R.Threads g.R.Threads-dict g.R.Wait g.R.Wait-dict g.S.Source g.S.Source-dict g.K.Sink g.K.Sink-dict g.C.Clock g.C.Clock-dict
    g.B.Beat g.B.Beat-dict g.D.Disk g.D.Disk-dict g.J.Naming g.J.Naming-dict κs).exit yes) = places.leaving no in
    record { owned = places.owned; leaving = λ k. Quiet-if (k (of_param 1)) _ unseen left (λ x w. tt) }

pub serve_seats-requires-after_bounds : goal.serve_seats-requires-after_bounds
serve_seats-requires-after_bounds g c κs within =
    can_serve g.row.J.Denot (end_view g.S.Source.view g.K.Sink.view g.C.Clock.coming)
    c.args.limits.input c.args.access (start_of c.args.database) c.in-Ok.made.0 _ c.in-Ok.made.1 c.seat_all.new.pass c.readers-readers.new.self
    c.of.result (made_of c.args.database c.readers-readers.new.self c.of.result c.readers-readers.ensures.rest c.of.ensures)
    c.in-Ok.ensures.ok c.args.ends.items
    c.seat_all.ensures.pass c.seat_all.new.seats.items c.as_mut_slice.result.now (c.seat_all.ensures.seats c.args.database.opening
    (handed c.args.database c.readers-readers.result (length c.args.ends.items) c.requires.readers c.readers-readers.ensures.taken))
    c.as_mut_slice.ensures.value
    c.requires.users

pub leave_all-status-requires-clause-pass : goal.leave_all-status-requires-clause-pass
leave_all-status-requires-clause-pass g c =
    gone_here g.row.J.Denot (end_view g.S.Source.view g.K.Sink.view g.C.Clock.coming)
    c.args.limits.input c.args.access (start_of c.args.database) c.in-Ok.made.0 _ c.in-Ok.made.1 c.seat_all.new.pass c.readers-readers.new.self
    c.of.result (made_of c.args.database c.readers-readers.new.self c.of.result c.readers-readers.ensures.rest c.of.ensures)
    c.in-Ok.ensures.ok c.args.ends.items
    c.seat_all.ensures.pass c.seat_all.new.seats.items c.as_mut_slice.result.now (c.seat_all.ensures.seats c.args.database.opening
    (handed c.args.database c.readers-readers.result (length c.args.ends.items) c.requires.readers c.readers-readers.ensures.taken))
    c.as_mut_slice.ensures.value
    c.requires.users c.serve_seats.new.pass c.serve_seats.new.seats c.seat_all.new.seats.len c.as_mut_slice.ensures.len
    c.serve_seats.ensures.seats (ticker_view g.B.Beat.coming g.C.Clock.coming c.args.ticker) (ticker_view g.B.Beat.coming g.C.Clock.coming c.serve_seats.new.ticker) c.serve_seats.ensures.ticker

pub leave_all-status-requires-clause-seats : goal.leave_all-status-requires-clause-seats
leave_all-status-requires-clause-seats g c =
    all_here g.row.J.Denot (end_view g.S.Source.view g.K.Sink.view g.C.Clock.coming)
    c.args.limits.input c.args.access (start_of c.args.database) c.in-Ok.made.0 _ c.in-Ok.made.1 c.seat_all.new.pass c.readers-readers.new.self
    c.of.result (made_of c.args.database c.readers-readers.new.self c.of.result c.readers-readers.ensures.rest c.of.ensures)
    c.in-Ok.ensures.ok c.args.ends.items
    c.seat_all.ensures.pass c.seat_all.new.seats.items c.as_mut_slice.result.now (c.seat_all.ensures.seats c.args.database.opening
    (handed c.args.database c.readers-readers.result (length c.args.ends.items) c.requires.readers c.readers-readers.ensures.taken))
    c.as_mut_slice.ensures.value
    c.requires.users c.serve_seats.new.pass c.serve_seats.new.seats c.seat_all.new.seats.len c.as_mut_slice.ensures.len
    c.serve_seats.ensures.seats (ticker_view g.B.Beat.coming g.C.Clock.coming c.args.ticker) (ticker_view g.B.Beat.coming g.C.Clock.coming c.serve_seats.new.ticker) c.serve_seats.ensures.ticker

pub leave_all-status-requires-clause-ends : goal.leave_all-status-requires-clause-ends
leave_all-status-requires-clause-ends g c =
    let fits : length c.args.ends.items ≤ vec_capacity c.args.ends = search rules in (
      c.seat_all.ensures.ends.0,
      subst (λ n. n ≤ vec_capacity c.seat_all.new.ends)
          (sym (as_many g.row.J.Denot (end_view g.S.Source.view g.K.Sink.view g.C.Clock.coming)
          c.args.limits.input c.args.access (start_of c.args.database) c.in-Ok.made.0 _ c.in-Ok.made.1 c.seat_all.new.pass c.readers-readers.new.self
          c.of.result (made_of c.args.database c.readers-readers.new.self c.of.result c.readers-readers.ensures.rest c.of.ensures)
          c.in-Ok.ensures.ok c.args.ends.items
          c.seat_all.ensures.pass c.seat_all.new.seats.items c.as_mut_slice.result.now (c.seat_all.ensures.seats c.args.database.opening
          (handed c.args.database c.readers-readers.result (length c.args.ends.items) c.requires.readers c.readers-readers.ensures.taken))
          c.as_mut_slice.ensures.value
          c.requires.users c.serve_seats.new.pass c.serve_seats.new.seats c.seat_all.new.seats.len c.as_mut_slice.ensures.len
          c.serve_seats.ensures.seats (ticker_view g.B.Beat.coming g.C.Clock.coming c.args.ticker) (ticker_view g.B.Beat.coming g.C.Clock.coming c.serve_seats.new.ticker) c.serve_seats.ensures.ticker))
          (subst (λ n. length c.args.ends.items ≤ n) (sym c.seat_all.ensures.ends.1) fits),
    )

pub leave_all-status-requires-clause-turns : goal.leave_all-status-requires-clause-turns
leave_all-status-requires-clause-turns g c = (
  c.requires.room.no_lists,
  subst (λ n. n ≤ vec_capacity c.args.room.lists)
      (sym (as_many g.row.J.Denot (end_view g.S.Source.view g.K.Sink.view g.C.Clock.coming)
      c.args.limits.input c.args.access (start_of c.args.database) c.in-Ok.made.0 _ c.in-Ok.made.1 c.seat_all.new.pass c.readers-readers.new.self
      c.of.result (made_of c.args.database c.readers-readers.new.self c.of.result c.readers-readers.ensures.rest c.of.ensures)
      c.in-Ok.ensures.ok c.args.ends.items
      c.seat_all.ensures.pass c.seat_all.new.seats.items c.as_mut_slice.result.now (c.seat_all.ensures.seats c.args.database.opening
      (handed c.args.database c.readers-readers.result (length c.args.ends.items) c.requires.readers c.readers-readers.ensures.taken))
      c.as_mut_slice.ensures.value
      c.requires.users c.serve_seats.new.pass c.serve_seats.new.seats c.seat_all.new.seats.len c.as_mut_slice.ensures.len
      c.serve_seats.ensures.seats (ticker_view g.B.Beat.coming g.C.Clock.coming c.args.ticker) (ticker_view g.B.Beat.coming g.C.Clock.coming c.serve_seats.new.ticker) c.serve_seats.ensures.ticker))
      c.requires.room.lists,
)

pub close-requires-clause-here : goal.close-requires-clause-here
close-requires-clause-here g c =
    (closes g.row.J.Denot (end_view g.S.Source.view g.K.Sink.view g.C.Clock.coming)
    c.args.limits.input c.args.access (start_of c.args.database) c.in-Ok.made.0 _ c.in-Ok.made.1 c.seat_all.new.pass c.readers-readers.new.self
    c.of.result (made_of c.args.database c.readers-readers.new.self c.of.result c.readers-readers.ensures.rest c.of.ensures)
    c.in-Ok.ensures.ok c.args.ends.items
    c.seat_all.ensures.pass c.seat_all.new.seats.items c.as_mut_slice.result.now (c.seat_all.ensures.seats c.args.database.opening
    (handed c.args.database c.readers-readers.result (length c.args.ends.items) c.requires.readers c.readers-readers.ensures.taken))
    c.as_mut_slice.ensures.value
    c.requires.users c.serve_seats.new.pass c.serve_seats.new.seats c.seat_all.new.seats.len c.as_mut_slice.ensures.len
    c.serve_seats.ensures.seats (ticker_view g.B.Beat.coming g.C.Clock.coming c.args.ticker) (ticker_view g.B.Beat.coming g.C.Clock.coming c.serve_seats.new.ticker) c.serve_seats.ensures.ticker c.leave_all-status.new.pass
    c.leave_all-status.new.ends.items c.leave_all-status.new.turns.items c.leave_all-status.result
    c.leave_all-status.ensures.left).0

pub close-requires-clause-first : goal.close-requires-clause-first
close-requires-clause-first g c =
    (closes g.row.J.Denot (end_view g.S.Source.view g.K.Sink.view g.C.Clock.coming)
    c.args.limits.input c.args.access (start_of c.args.database) c.in-Ok.made.0 _ c.in-Ok.made.1 c.seat_all.new.pass c.readers-readers.new.self
    c.of.result (made_of c.args.database c.readers-readers.new.self c.of.result c.readers-readers.ensures.rest c.of.ensures)
    c.in-Ok.ensures.ok c.args.ends.items
    c.seat_all.ensures.pass c.seat_all.new.seats.items c.as_mut_slice.result.now (c.seat_all.ensures.seats c.args.database.opening
    (handed c.args.database c.readers-readers.result (length c.args.ends.items) c.requires.readers c.readers-readers.ensures.taken))
    c.as_mut_slice.ensures.value
    c.requires.users c.serve_seats.new.pass c.serve_seats.new.seats c.seat_all.new.seats.len c.as_mut_slice.ensures.len
    c.serve_seats.ensures.seats (ticker_view g.B.Beat.coming g.C.Clock.coming c.args.ticker) (ticker_view g.B.Beat.coming g.C.Clock.coming c.serve_seats.new.ticker) c.serve_seats.ensures.ticker c.leave_all-status.new.pass
    c.leave_all-status.new.ends.items c.leave_all-status.new.turns.items c.leave_all-status.result
    c.leave_all-status.ensures.left).1

pub close-requires-clause-all : goal.close-requires-clause-all
close-requires-clause-all g c =
    (closes g.row.J.Denot (end_view g.S.Source.view g.K.Sink.view g.C.Clock.coming)
    c.args.limits.input c.args.access (start_of c.args.database) c.in-Ok.made.0 _ c.in-Ok.made.1 c.seat_all.new.pass c.readers-readers.new.self
    c.of.result (made_of c.args.database c.readers-readers.new.self c.of.result c.readers-readers.ensures.rest c.of.ensures)
    c.in-Ok.ensures.ok c.args.ends.items
    c.seat_all.ensures.pass c.seat_all.new.seats.items c.as_mut_slice.result.now (c.seat_all.ensures.seats c.args.database.opening
    (handed c.args.database c.readers-readers.result (length c.args.ends.items) c.requires.readers c.readers-readers.ensures.taken))
    c.as_mut_slice.ensures.value
    c.requires.users c.serve_seats.new.pass c.serve_seats.new.seats c.seat_all.new.seats.len c.as_mut_slice.ensures.len
    c.serve_seats.ensures.seats (ticker_view g.B.Beat.coming g.C.Clock.coming c.args.ticker) (ticker_view g.B.Beat.coming g.C.Clock.coming c.serve_seats.new.ticker) c.serve_seats.ensures.ticker c.leave_all-status.new.pass
    c.leave_all-status.new.ends.items c.leave_all-status.new.turns.items c.leave_all-status.result
    c.leave_all-status.ensures.left).2

pub returns : goal.returns
returns g c =
    AreServed-begun g.row.J.Denot (end_view g.S.Source.view g.K.Sink.view g.C.Clock.coming)
    c.args.limits.input c.args.access c.args.database c.args.ends.items c.leave_all-status.new.ends.items (ticker_view g.B.Beat.coming g.C.Clock.coming c.args.ticker) (ticker_view g.B.Beat.coming g.C.Clock.coming c.serve_seats.new.ticker)
    c.leave_all-status.new.turns.items c.into_database-database.result c.leave_all-status.result
    (AreServed-of g.row.J.Denot (end_view g.S.Source.view g.K.Sink.view g.C.Clock.coming)
    c.args.limits.input c.args.access (start_of c.args.database) c.in-Ok.made.0 _ c.in-Ok.made.1 c.seat_all.new.pass c.readers-readers.new.self
    c.of.result (made_of c.args.database c.readers-readers.new.self c.of.result c.readers-readers.ensures.rest c.of.ensures)
    c.in-Ok.ensures.ok c.args.ends.items
    c.seat_all.ensures.pass c.seat_all.new.seats.items c.as_mut_slice.result.now (c.seat_all.ensures.seats c.args.database.opening
    (handed c.args.database c.readers-readers.result (length c.args.ends.items) c.requires.readers c.readers-readers.ensures.taken))
    c.as_mut_slice.ensures.value
    c.requires.users c.serve_seats.new.pass c.serve_seats.new.seats c.seat_all.new.seats.len c.as_mut_slice.ensures.len
    c.serve_seats.ensures.seats (ticker_view g.B.Beat.coming g.C.Clock.coming c.args.ticker) (ticker_view g.B.Beat.coming g.C.Clock.coming c.serve_seats.new.ticker) c.serve_seats.ensures.ticker c.leave_all-status.new.pass
    c.leave_all-status.new.ends.items c.leave_all-status.new.turns.items c.leave_all-status.result
    c.leave_all-status.ensures.left c.close.result c.close.ensures c.into_database-database.ensures.underway
    c.into_database-database.result c.into_database-database.ensures.is)
