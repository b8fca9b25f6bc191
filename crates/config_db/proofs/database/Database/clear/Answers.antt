use Rattle.std.proofs.Common.{sym, subst, ◌∙◌}
use Rattle.config_core.specs.declared.event.Event.TheVariants.{Revert, Carry}
use Rattle.config_core.specs.Machine.{waiting_of}
use Rattle.config_db.specs.Answers.{IsDue}
use Rattle.config_db.proofs.MachineLemmas.{carry_needed, revert_needed}
use Rattle.config_db.proofs.AnswerLemmas.{way_due}
use Rattle.config_db.proofs.database.Database.clear.Goals as goal

pub do_due-requires-clause-due : goal.do_due-requires-clause-due
do_due-requires-clause-due g c =
    subst (λ v. IsDue Revert (waiting_of v.state c.args.moment)) c.self.view_is (revert_needed c.self.inside.core c.args.moment (sym c.in-Revert.is ∙ c.next.ensures))

pub do_due-requires-in-Carry-clause-due : goal.do_due-requires-in-Carry-clause-due
do_due-requires-in-Carry-clause-due g c =
    subst (λ v. IsDue Carry (waiting_of v.state c.args.moment)) c.self.view_is (carry_needed c.self.inside.core c.args.moment (sym c.in-Carry.is ∙ c.next.ensures))

pub returns-in-Revert : goal.returns-in-Revert
returns-in-Revert g c =
    way_due c.args.caller c.args.moment Revert c.do_due.result c.args.self.now c.do_due.new.self c.requires
    (subst (λ v. IsDue Revert (waiting_of v.state c.args.moment)) c.self.view_is (revert_needed c.self.inside.core c.args.moment (sym c.in-Revert.is ∙ c.next.ensures))) c.do_due.ensures

pub returns-in-Carry : goal.returns-in-Carry
returns-in-Carry g c =
    way_due c.args.caller c.args.moment Carry c.do_due-in-Carry.result c.args.self.now c.do_due-in-Carry.new.self c.requires
    (subst (λ v. IsDue Carry (waiting_of v.state c.args.moment)) c.self.view_is (carry_needed c.self.inside.core c.args.moment (sym c.in-Carry.is ∙ c.next.ensures))) c.do_due-in-Carry.ensures
