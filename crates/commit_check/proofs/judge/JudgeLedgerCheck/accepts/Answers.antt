use Rattle.std.proofs.Common.{refl, subst}
use Rattle.commit_check.specs.declared.fault.CheckFault.{CheckFault}
use Rattle.commit_check.specs.Accepts.{IsCheckFault}
use Rattle.commit_check.proofs.CheckLemmas.{accepted_apart}
use Rattle.commit_check.proofs.judge.JudgeLedgerCheck.accepts.Goals as goal

pub returns-in-Ok : goal.returns-in-Ok
returns-in-Ok c = (λ _. (c.in-Ok.field-0, c.in-Ok.ensures.ok), λ _. refl)

pub returns-in-Err-Rule : goal.returns-in-Err-Rule
returns-in-Err-Rule c =
    let first = subst (λ (fault : CheckFault). IsCheckFault c.args.tree.now fault) c.in-Err-Rule.field-0-is c.in-Err-Rule.ensures.err
    in (λ e. cc, λ accepts. absurd (accepted_apart c.args.tree.now c.in-Err-Rule.field-0-0 c.in-Err-Rule.field-0-1 accepts first))
