use Rattle.std.proofs.Common.{sym, subst}
use Rattle.config_db.specs.Answers.{DoesDue}
use Rattle.config_db.specs.Moves.{Happens}
use Rattle.config_db.proofs.AnswerLemmas.{does_done}
use Rattle.config_db.proofs.MachineLemmas.{due_fits, none_before}
use Rattle.config_db.proofs.database.Database.do_due.Goals as goal

pub carry_out-requires-clause-fits : goal.carry_out-requires-clause-fits
carry_out-requires-clause-fits g c = due_fits c.args.self.now.state c.args.caller c.args.moment c.args.event c.requires.due c.requires.no_earlier

pub carry_out-requires-clause-free : goal.carry_out-requires-clause-free
carry_out-requires-clause-free g c = none_before c.args.self.now.state c.args.moment c.args.event c.requires.due

pub returns-in-Done : goal.returns-in-Done
returns-in-Done g c =
    subst (λ t. DoesDue c.args.caller c.args.moment c.args.event t c.args.self.now c.carry_out.new.self) (sym c.done_as-done.ensures)
    (does_done c.args.caller c.args.moment c.args.event c.in-Ok.ended.reply c.args.self.now c.carry_out.new.self c.requires.due
    (subst (λ o. Happens c.args.caller c.args.moment c.args.event o c.in-Ok.ended.reply c.args.self.now c.carry_out.new.self) c.in-Done.is c.in-Ok.ensures.ok))
