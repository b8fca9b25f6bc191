use Rattle.std.proofs.Common.{◌≡◌, inl, inr, sym, ap, subst, ◌∙◌}
use Rattle.config_db.specs.declared.answer.Answered.TheVariants.{NoMemory}
use Rattle.config_db.specs.View.{DatabaseView, opened}
use Rattle.config_db.specs.Answers.{Answers, PublishesFirst}
use Rattle.config_db.proofs.ShownLemmas.{all_since, late_waits, shows_published}
use Rattle.config_db.proofs.BookLemmas.{book_shown}
use Rattle.config_db.proofs.AnswerLemmas.{answers_published, answers_wanting, with_shown}
use Rattle.config_db.proofs.database.Database.publish_and_answer.Goals as goal

pub publish_late-requires : goal.publish_late-requires
publish_late-requires g c =
    let i = c.self.inside in
    late_waits _ i.events.items i.core i.shown c.self.invariant.0.shows

pub invariant_of-self-in-Ok : goal.invariant_of-self-in-Ok
invariant_of-self-in-Ok g c =
    let i = c.self.inside in (
      book_shown (record { journal = i.journal; opening = i.opening; users = i.users; events = i.events.items; state = i.core; shown = i.shown; readers = i.readers })
          c.publish_late.new.shown i.readers c.self.invariant.0
          (shows_published (opened (record { journal = i.journal; opening = i.opening; users = i.users; events = i.events.items; state = i.core; shown = i.shown; readers = i.readers })) i.events.items i.core i.shown c.self.invariant.0.shows c.publish_late.new.shown c.in-Ok.ensures.ok),
      c.self.invariant.1,
      c.self.invariant.2,
    )

pub returns-in-Ok-clause-answers : goal.returns-in-Ok-clause-answers
returns-in-Ok-clause-answers g c =
    let i = c.self.inside in
    let v : DatabaseView = (record { journal = i.journal; opening = i.opening; users = i.users; events = i.events.items; state = i.core; shown = i.shown; readers = i.readers }) in
    subst (λ v. Answers c.args.caller c.args.moment c.args.command c.answer.result v c.answer.new.self) c.self.view_is
    (answers_published c.args.caller c.args.moment c.args.command c.answer.result v c.answer.new.self
    (subst (λ w. Answers c.args.caller c.args.moment c.args.command c.answer.result (with_shown v w) c.answer.new.self) c.in-Ok.ensures.ok c.answer.ensures))

pub returns-in-Ok-clause-shown : goal.returns-in-Ok-clause-shown
returns-in-Ok-clause-shown g c =
    let i = c.self.inside in
    let v : DatabaseView = (record { journal = i.journal; opening = i.opening; users = i.users; events = i.events.items; state = i.core; shown = i.shown; readers = i.readers }) in
    subst (λ v. PublishesFirst (c.answer.result ≡ NoMemory) v c.answer.new.self) c.self.view_is
    (inl (all_since v.shown c.answer.new.self.shown
    (subst (λ w. Answers c.args.caller c.args.moment c.args.command c.answer.result (with_shown v w) c.answer.new.self) c.in-Ok.ensures.ok c.answer.ensures).extends.shown))

pub returns-in-Err-clause-answers : goal.returns-in-Err-clause-answers
returns-in-Err-clause-answers g c =
    let i = c.self.inside in
    let v : DatabaseView = (record { journal = i.journal; opening = i.opening; users = i.users; events = i.events.items; state = i.core; shown = i.shown; readers = i.readers }) in
    subst (λ a. Answers c.args.caller c.args.moment c.args.command a c.args.self.now (with_shown v c.publish_late.new.shown)) (sym c.unasked.ensures)
    (subst (λ x. Answers c.args.caller c.args.moment c.args.command NoMemory x (with_shown v c.publish_late.new.shown)) (ap (with_shown v) c.in-Err.ensures.err ∙ c.self.view_is)
    (answers_wanting c.args.caller c.args.moment c.args.command _))

pub returns-in-Err-clause-shown : goal.returns-in-Err-clause-shown
returns-in-Err-clause-shown g c =
    let i = c.self.inside in
    inr (c.unasked.ensures, ap (with_shown (record { journal = i.journal; opening = i.opening; users = i.users; events = i.events.items; state = i.core; shown = i.shown; readers = i.readers })) c.in-Err.ensures.err ∙ c.self.view_is)
