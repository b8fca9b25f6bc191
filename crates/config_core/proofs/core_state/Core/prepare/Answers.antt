use Rattle.std.proofs.Common.{◌≡◌, None, rules, subst, sym}
use Rattle.std.proofs.lemmas.Result.{IfOk-weaker}
use Rattle.config_core.specs.declared.event.Event.TheVariants.{Carry, Command as CommandOf}
use Rattle.config_core.specs.Machine.{waiting_of, FitsIn}
use Rattle.config_core.specs.Prepared.{IsPrepared}
use Rattle.config_core.proofs.PlanLemmas.{carry_prepared, free_prepared}
use Rattle.config_core.proofs.core_state.Core.prepare.Goals as goal

pub returns-else-is_some-clause-ok : goal.returns-else-is_some-clause-ok
returns-else-is_some-clause-ok c =
    let none : c.args.self.now.flight ≡ None = search rules in
    let is : c.args.event.now ≡ CommandOf c.in-Command.command = search rules in
    IfOk-weaker c.prepare_command.result _ _ (λ plan prep. subst (λ e. IsPrepared c.args.self.now c.args.caller c.args.moment e plan) (sym is)
    (free_prepared c.args.self.now c.args.caller c.args.moment c.in-Command.command plan none
    (subst (λ e. FitsIn (waiting_of c.args.self.now c.args.moment) e) is c.requires.fits) prep))
    c.prepare_command.ensures

pub returns-in-Carry-clause-ok : goal.returns-in-Carry-clause-ok
returns-in-Carry-clause-ok c =
    let is : c.args.event.now ≡ Carry = search rules in
    IfOk-weaker c.prepare_carry.result _ _ (λ plan prep. subst (λ e. IsPrepared c.args.self.now c.args.caller c.args.moment e plan) (sym is)
    (carry_prepared c.args.self.now c.args.caller c.args.moment plan
    (subst (λ e. FitsIn (waiting_of c.args.self.now c.args.moment) e) is c.requires.fits) prep))
    c.prepare_carry.ensures
