use Rattle.std.proofs.Common.{◌≡◌, refl, subst, sym}
use Rattle.config_db.specs.View.{opened}
use Rattle.session_threads.specs.Gates.{TellsKept}
use Rattle.session_threads.specs.Noted.{events_of, merged}
use Rattle.session_threads.specs.Served.{ServedView}
use Rattle.session_threads.proofs.LogLemmas.{TellsKept-of}
use Rattle.session_threads.proofs.NotedLemmas.{events_of-merged}
use Rattle.session_threads.proofs.deeds.LeaveDeedServed.act.Goals as goal

pub returns-clause-says : goal.returns-clause-says
returns-clause-says g c =
    let events = c.served.inside.database.events in
    let notes = c.served.inside.notes.items in
    subst (λ (s : ServedView). (merged 0 events notes ≡ merged 0 s.database.events s.notes)
    × TellsKept (opened s.first) (events_of (merged 0 events notes)) c.note.result.list) c.served.view_is (
      refl,
      subst (λ l. TellsKept (opened c.served.inside.first) l c.note.result.list) (sym (events_of-merged 0 events notes))
          (subst (λ l. TellsKept (opened c.served.inside.first) events l) (sym c.note.ensures.list)
          (TellsKept-of c.served.inside.first c.served.inside.database notes (record {
            fresh = c.served.invariant.fresh;
            leads = c.served.invariant.leads;
            adds = c.served.invariant.adds;
            noted = c.served.invariant.noted;
            up_to = c.served.invariant.up_to;
          }) c.note.ensures.views c.note.ensures.shows)),
    )
