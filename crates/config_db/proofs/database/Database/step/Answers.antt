use Rattle.std.proofs.Common.{◌≡◌, max, ap, subst, ◌∙◌}
use Rattle.config_db.specs.Answers.{Answers, moment_at}
use Rattle.config_db.proofs.NextLemmas.{answers_next}
use Rattle.config_db.proofs.database.Database.step.Goals as goal

pub returns-clause-answers : goal.returns-clause-answers
returns-clause-answers g c =
    let is_moment : c.later-moment.result ≡ moment_at c.args.moment c.args.self.now =
    c.later-moment.ensures ∙ ap (max c.args.moment) c.greatest.ensures ∙ ap (λ v. moment_at c.args.moment v) c.self.view_is in
    subst (λ m. Answers c.args.caller m c.args.command c.publish_and_answer.result c.args.self.now c.publish_and_answer.new.self) is_moment c.publish_and_answer.ensures.answers

pub returns-clause-next : goal.returns-clause-next
returns-clause-next g c =
    answers_next c.args.caller (moment_at c.args.moment c.args.self.now) c.args.command c.publish_and_answer.result c.args.self.now c.publish_and_answer.new.self (returns-clause-answers g c)
