use Rattle.std.proofs.Common.{◌≡◌, length, rules, subst, sym, ◌∙◌}
use Rattle.config_core.specs.declared.event.Event.TheVariants.{Command as CommandOf}
use Rattle.config_db.specs.declared.answer.Answered.TheVariants.{NoMemory}
use Rattle.config_db.specs.Answers.{Answers}
use Rattle.config_db.specs.Moves.{SettlesBefore}
use Rattle.config_db.proofs.AnswerLemmas.{answers_settled, answers_unsettled, answers_wanting}
use Rattle.config_db.proofs.database.Database.answer_in_flight.Goals as goal

pub returns-in-Err : goal.returns-in-Err
returns-in-Err g c =
    subst (λ v. Answers c.args.caller c.args.moment c.args.command NoMemory c.args.self.now v) (sym c.in-Err.ensures.err)
    (answers_wanting c.args.caller c.args.moment c.args.command c.args.self.now)

pub returns-in-Ok-PutOff : goal.returns-in-Ok-PutOff
returns-in-Ok-PutOff g c =
    let at_end : c.len-place.result ≡ length c.args.self.now.events = search rules in
    let came = subst (λ b. SettlesBefore c.args.caller c.args.moment (CommandOf c.args.command) b c.args.self.now c.settle_or_put_off.new.self) c.in-Ok-PutOff.field-0-is c.in-Ok-PutOff.ensures.ok in
    answers_unsettled c.args.caller c.args.moment c.args.command c.len-place.result c.in-Ok-PutOff.reply c.args.self.now came.0 c.settle_or_put_off.new.self c.requires.no_earlier came.1 came.2 at_end

pub returns-in-Ok-Settled-Command : goal.returns-in-Ok-Settled-Command
returns-in-Ok-Settled-Command g c =
    let came = subst (λ b. SettlesBefore c.args.caller c.args.moment (CommandOf c.args.command) b c.args.self.now c.settle_or_put_off.new.self) c.in-Ok-Settled-Command.field-0-is
    c.in-Ok-Settled-Command.ensures.ok in
    let both : CommandOf c.in-Ok-Settled-Command.command ≡ CommandOf c.args.command = sym c.in-Ok-Settled-Command.field-0-0-is ∙ came.0 in
    let same : c.in-Ok-Settled-Command.command ≡ c.args.command = cc in
    answers_settled c.args.caller c.args.moment c.args.command c.answer_at_rest.result c.args.self.now c.settle_or_put_off.new.self c.answer_at_rest.new.self c.requires.no_earlier c.requires.flying
    came.1 (subst (λ command. Answers c.args.caller c.args.moment command c.answer_at_rest.result c.settle_or_put_off.new.self c.answer_at_rest.new.self) same c.answer_at_rest.ensures)
