use Rattle.std.proofs.Common.{length, inl, inr, sym, ap, subst, ◌∙◌, arith}
use Rattle.config_core.specs.State.{opening_of}
use Rattle.disk_model.specs.Pair.{pair_of}
use Rattle.session_threads.specs.Rows.{HasRoom}
use Rattle.stored_ledger.specs.Starting.{IsNotFound}
use Rattle.service.specs.World.{told_of, views, world_of}
use Rattle.service.proofs.ModeLemmas.{ends_are}
use Rattle.service.proofs.RunLemmas.{readers_are}
use Rattle.service.proofs.ServingLemmas.{IsServed-of}
use Rattle.service.proofs.serving.serve_from.Goals as goal

pub serve-requires-clause-fresh : goal.serve-requires-clause-fresh
serve-requires-clause-fresh g c = λ κs lives. (
  c.in-Ok.ensures.begun.no_events,
  c.in-Ok.ensures.begun.starts ∙ ap (opening_of c.in-Ok.database.opening) (sym c.in-Ok.ensures.begun.users_are),
)

pub serve-requires-clause-users : goal.serve-requires-clause-users
serve-requires-clause-users g c = λ κs lives. c.in-Ok.ensures.begun.users_are ∙ sym c.requires.users

pub serve-requires-clause-room : goal.serve-requires-clause-room
serve-requires-clause-room g c = λ κs lives.
    subst (λ n. HasRoom n c.args.room) (sym (ends_are c.args.ends.items c.args.asked.users c.requires.users)) c.requires.room

pub serve-requires-clause-few : goal.serve-requires-clause-few
serve-requires-clause-few g c = λ κs lives. omega (arith, ends_are c.args.ends.items c.args.asked.users c.requires.users, c.requires.few)

pub serve-requires-clause-readers : goal.serve-requires-clause-readers
serve-requires-clause-readers g c = λ κs lives.
    readers_are c.in-Ok.database.opening (length c.args.ends.items) (length c.args.asked.users) c.in-Ok.database.readers c.in-Ok.ensures.begun.readers
    (ends_are c.args.ends.items c.args.asked.users c.requires.users)

pub returns-in-Ok : goal.returns-in-Ok
returns-in-Ok g c =
    inr (IsServed-of (views g.S.Source.view g.K.Sink.view g.C.Clock.coming g.B.Beat.coming g.D.Disk.view) c.args.asked
    (record { ends = c.args.ends.items; ticker = c.args.ticker; a = c.args.disk_a; b = c.args.disk_b }) (world_of c.serve.result)
    (told_of c.serve.result) c.in-Ok.database c.requires.users c.in-Ok.ensures.begun c.serve.ensures
    c.histories_have_one_outcome.ensures.state c.in-Ok.ensures.found)

pub returns : goal.returns
returns g c =
    let why = c.in-Err.fault.why in
    let given = pair_of g.D.Disk.view c.args.disk_a c.args.disk_b in
    inl (record {
      cause = why;
      why = c.refused.ensures.why;
      status_is = c.refused.ensures.status;
      idle = c.refused.ensures.idle;
      ends_same = ap (λ v. v.items) c.refused.ensures.ends.0;
      ticker_same = c.refused.ensures.ends.1;
      disks = subst (λ x. IsNotFound given why (pair_of g.D.Disk.view x c.refused.result.disk_b)) (sym c.refused.ensures.disks.0)
          (subst (λ x. IsNotFound given why (pair_of g.D.Disk.view c.in-Err.fault.a x)) (sym c.refused.ensures.disks.1)
          c.in-Err.ensures.err);
    })
