use Rattle.std.proofs.Common.{[], subst, sym}
use Rattle.config_db.specs.View.{opened}
use Rattle.turn_lock.specs.Histories.{AddsOwn}
use Rattle.session_threads.specs.Looks.{LooksAlone}
use Rattle.session_threads.specs.Noted.{GoesOnBy, caller_in, merged}
use Rattle.session_threads.specs.Served.{ServedView}
use Rattle.session_threads.proofs.LogLemmas.{AddsOwn-of, IsUnderway-then, LooksAlone-of}
use Rattle.session_threads.proofs.NotedLemmas.{GoesOnBy-events}
use Rattle.session_threads.proofs.deeds.LookDeedServed.act.Goals as goal

pub invariant_of-served : goal.invariant_of-served
invariant_of-served g c =
    IsUnderway-then _ _ c.tick-looked.ensures.way.own c.served.inside.notes.items c.served.inside.first c.served.inside.database
    c.tick-looked.new.self c.tick-looked.ensures.way.extends (record {
      fresh = c.served.invariant.fresh;
      leads = c.served.invariant.leads;
      adds = c.served.invariant.adds;
      noted = c.served.invariant.noted;
      up_to = c.served.invariant.up_to;
    })

pub returns-clause-adds : goal.returns-clause-adds
returns-clause-adds g c =
    let notes = c.served.inside.notes.items in
    subst (λ caller. AddsOwn caller_in caller (merged 0 c.args.served.now.database.events c.args.served.now.notes)
    (merged 0 c.tick-looked.new.self.events notes)) (sym c.requires)
    (subst (λ (s : ServedView). AddsOwn caller_in 0 (merged 0 s.database.events s.notes) (merged 0 c.tick-looked.new.self.events notes))
    c.served.view_is
    (AddsOwn-of 0 _ c.tick-looked.ensures.way.own notes c.served.inside.first c.served.inside.database
    c.tick-looked.new.self c.tick-looked.ensures.way.extends c.served.invariant.up_to))

pub returns-clause-says : goal.returns-clause-says
returns-clause-says g c =
    let notes = c.served.inside.notes.items in
    subst (λ (s : ServedView). GoesOnBy (LooksAlone (opened s.first) c.args.self.moment) [] (merged 0 s.database.events s.notes)
    (merged 0 c.tick-looked.new.self.events notes)) c.served.view_is
    (GoesOnBy-events (LooksAlone (opened c.served.inside.first) c.args.self.moment) c.served.inside.database.events
    c.tick-looked.new.self.events notes
    (LooksAlone-of c.served.inside.first c.served.inside.database c.tick-looked.new.self
    c.args.self.moment c.tick-looked.result c.served.invariant.leads c.tick-looked.ensures.way))
