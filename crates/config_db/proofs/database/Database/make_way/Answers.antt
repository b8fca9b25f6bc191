use Rattle.std.proofs.Common.{◌≡◌, ◌≤◌, refl, inl, inr, sym, ap, subst, ◌∙◌}
use Rattle.config_db.specs.declared.answer.Ticked.TheVariants.{NoMemory}
use Rattle.config_db.specs.View.{DatabaseView, opened}
use Rattle.config_db.specs.Answers.{MakesWay, PublishesFirst}
use Rattle.config_db.proofs.ShownLemmas.{all_since, late_waits, shows_published}
use Rattle.config_db.proofs.BookLemmas.{book_shown}
use Rattle.config_db.proofs.AnswerLemmas.{way_published, way_wanting, with_shown}
use Rattle.config_db.proofs.database.Database.make_way.Goals as goal

pub publish_late-requires : goal.publish_late-requires
publish_late-requires g c =
    let i = c.self.inside in
    late_waits _ i.events.items i.core i.shown c.self.invariant.0.shows

pub invariant_of-self-in-Ok : goal.invariant_of-self-in-Ok
invariant_of-self-in-Ok g c =
    let i = c.self.inside in (
      book_shown (record { journal = i.journal; opening = i.opening; users = i.users; events = i.events.items; state = i.core; shown = i.shown; readers = i.readers })
          c.publish_late.new.shown i.readers c.self.invariant.0
          (shows_published (opened (record { journal = i.journal; opening = i.opening; users = i.users; events = i.events.items; state = i.core; shown = i.shown; readers = i.readers })) i.events.items i.core i.shown c.self.invariant.0.shows c.publish_late.new.shown c.in-Ok.ensures.ok),
      c.self.invariant.1,
      c.self.invariant.2,
    )

pub returns-in-Ok-clause-way : goal.returns-in-Ok-clause-way
returns-in-Ok-clause-way g c =
    let i = c.self.inside in
    let v : DatabaseView = (record { journal = i.journal; opening = i.opening; users = i.users; events = i.events.items; state = i.core; shown = i.shown; readers = i.readers }) in
    subst (λ v. MakesWay c.args.caller c.args.moment c.clear.result v c.clear.new.self) c.self.view_is
    (way_published c.args.caller c.args.moment c.clear.result v c.clear.new.self
    (subst (λ w. MakesWay c.args.caller c.args.moment c.clear.result (with_shown v w) c.clear.new.self) c.in-Ok.ensures.ok c.clear.ensures))

pub returns-in-Ok-clause-shown : goal.returns-in-Ok-clause-shown
returns-in-Ok-clause-shown g c =
    let i = c.self.inside in
    let v : DatabaseView = (record { journal = i.journal; opening = i.opening; users = i.users; events = i.events.items; state = i.core; shown = i.shown; readers = i.readers }) in
    subst (λ v. PublishesFirst (c.clear.result ≡ NoMemory) v c.clear.new.self) c.self.view_is
    (inl (all_since v.shown c.clear.new.self.shown
    (subst (λ w. MakesWay c.args.caller c.args.moment c.clear.result (with_shown v w) c.clear.new.self) c.in-Ok.ensures.ok c.clear.ensures).extends.shown))

pub returns-in-Err-clause-way : goal.returns-in-Err-clause-way
returns-in-Err-clause-way g c =
    let i = c.self.inside in
    let v : DatabaseView = (record { journal = i.journal; opening = i.opening; users = i.users; events = i.events.items; state = i.core; shown = i.shown; readers = i.readers }) in
    let same = ap (with_shown v) c.in-Err.ensures.err ∙ c.self.view_is in
    subst (λ x. MakesWay c.args.caller c.args.moment NoMemory x (with_shown v c.publish_late.new.shown)) same (way_wanting c.args.caller c.args.moment _ (subst (λ x. x.state.greatest ≤ c.args.moment) (sym same) c.requires))

pub returns-in-Err-clause-shown : goal.returns-in-Err-clause-shown
returns-in-Err-clause-shown g c =
    let i = c.self.inside in
    inr (refl, ap (with_shown (record { journal = i.journal; opening = i.opening; users = i.users; events = i.events.items; state = i.core; shown = i.shown; readers = i.readers })) c.in-Err.ensures.err ∙ c.self.view_is)
