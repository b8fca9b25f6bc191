use Rattle.std.proofs.Common.{IfSome, List, subst, sym, ap, ◌∙◌}
use Rattle.std.specs.Arc.{arc_value}
use Rattle.active_snapshot.specs.Views.{IsLast}
use Rattle.config_db.specs.View.{DatabaseView, opened}
use Rattle.session_history.specs.declared.history.Happened.{Happened}
use Rattle.session_history.specs.Events.{StaysAccepted}
use Rattle.session_shell.specs.Shows.{PrintsWhole}
use Rattle.session_threads.specs.Access.{IsJudged}
use Rattle.session_threads.specs.Adding.{answered_of}
use Rattle.session_threads.specs.Asking.{Asks, asker_at}
use Rattle.session_threads.specs.Gates.{TellsKept}
use Rattle.session_threads.specs.Noted.{GoesOnBy, merged}
use Rattle.session_threads.specs.Passes.{FollowsAlone, notes_given}
use Rattle.session_threads.specs.Served.{IsUnderway, ServedView}
use Rattle.session_threads.proofs.LogLemmas.{IsLast-again, TellsKept-of, opened_same}
use Rattle.session_threads.proofs.NotedLemmas.{GoesOnBy-merged}
use Rattle.session_threads.proofs.WholeShowLemmas.{given_whole}
use Rattle.session_threads.proofs.deeds.AskDeedServed.act.Goals as goal

pub returns-clause-says : goal.returns-clause-says
returns-clause-says g c =
    let before = c.args.served.now in
    let first = before.first in
    let view : ServedView = record { first = c.served.inside.first; database = c.served.inside.database; notes = c.served.inside.notes.items } in
    let asked : Asks (asker_at first c.args.caller c.args.self.user.now) c.args.self.command c.args.self.moment c.ask-given.result before
    view = subst (λ (v : ServedView). Asks (asker_at first c.args.caller c.args.self.user.now) c.args.self.command c.args.self.moment
    c.ask-given.result before v) (sym c.served.view_is) c.ask-given.ensures in
    let underway : IsUnderway view = subst IsUnderway (sym c.served.view_is) c.tell_underway.ensures in
    let tells : TellsKept (opened first) view.database.events c.note-note.result.list =
    subst (λ (f : DatabaseView). TellsKept (opened f) view.database.events c.note-note.result.list) asked.first
    (subst (λ l. TellsKept (opened view.first) view.database.events l) (sym c.note-note.ensures.list)
    (TellsKept-of view.first view.database view.notes underway c.note-note.ensures.views c.note-note.ensures.shows)) in
    let accepted : StaysAccepted (opened first) view.database.events =
    subst (λ s. StaysAccepted s view.database.events)
    (opened_same view.first view.database view.notes underway ∙ ap opened asked.first) c.tell_accepted.ensures in
    let Says : List Happened → List Happened → Type 0 =
    λ were are. FollowsAlone first c.args.caller were c.args.self.command c.args.self.moment (answered_of c.ask-given.result) are
    × (IsJudged (asker_at first c.args.caller c.args.self.user.now) are c.args.self.command c.ask-given.result
    × (TellsKept (opened first) are c.note-note.result.list
    × (IfSome c.again-view.result (λ view. IsLast c.note-note.result.list (arc_value view))
    × PrintsWhole c.args.self.command c.ask-given.result))) in
    let whole = GoesOnBy-merged Says (notes_given c.args.caller c.ask-given.result) before.database.events view.database.events before.notes
    view.notes (
      asked.follows,
      (
        asked.judged,
        (
          tells,
          (
            IsLast-again arc_value c.note-note.result.list c.again-view.result _ _ c.again-view.ensures c.view.ensures
                (subst (λ l. IsLast l view.database.state.kept) (sym c.note-note.ensures.list) c.note-note.ensures.shows.last),
            given_whole (opened first) view.database.events (c.histories_have_one_outcome.ensures.state first.opening first.users)
                accepted c.args.caller c.args.self.moment c.args.self.command
                (asker_at first c.args.caller c.args.self.user.now) c.ask-given.result asked.judged asked.follows.follows.named,
          ),
        ),
      ),
    ) asked.noted in
    subst (λ (v : ServedView). GoesOnBy Says (notes_given c.args.caller c.ask-given.result) (merged 0 before.database.events before.notes)
    (merged 0 v.database.events v.notes)) c.served.view_is whole
