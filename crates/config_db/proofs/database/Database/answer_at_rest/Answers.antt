use Rattle.std.proofs.Common.{inl, inr}
use Rattle.commit_journal.specs.Journal.{disks_of}
use Rattle.disk_model.specs.Pair.{FaultOnEither}
use Rattle.config_db.specs.declared.answer.Ticked.TheVariants.{DiskFault, NoMemory}
use Rattle.config_db.proofs.AnswerLemmas.{answers, unanswered}
use Rattle.config_db.proofs.database.Database.answer_at_rest.Goals as goal

pub returns-in-NoMemory : goal.returns-in-NoMemory
returns-in-NoMemory g c =
    unanswered c.args.caller c.args.moment c.args.command NoMemory c.args.self.now c.catch_up.new.self c.catch_up.new.self c.in-NoMemory.ensures

pub returns-in-DiskFault : goal.returns-in-DiskFault
returns-in-DiskFault g c =
    answers c.args.caller c.args.moment c.args.command DiskFault c.args.self.now c.catch_up.new.self c.put_off.new.self c.in-DiskFault.ensures c.put_off.result (Unit {0})
    (λ why. inl c.in-DiskFault.ensures.clears.1) c.put_off.ensures

pub returns-in-Nothing : goal.returns-in-Nothing
returns-in-Nothing g c =
    answers c.args.caller c.args.moment c.args.command c.catch_up.result c.args.self.now c.catch_up.new.self c.command.new.self c.catch_up.ensures c.command.result
    (FaultOnEither (disks_of c.catch_up.new.self.journal) (disks_of c.command.new.self.journal)) (λ rose. inr rose) c.command.ensures
