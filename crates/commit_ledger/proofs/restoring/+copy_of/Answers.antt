use Rattle.std.proofs.Common.{arith}
use Rattle.std.proofs.lemmas.Result.{IfOk-weaker}
use Rattle.commit_ledger.proofs.BehindLemmas.{none_more}
use Rattle.commit_ledger.proofs.restoring.+copy_of.Goals as goal

pub returns-else-first-number-clause-none : goal.returns-else-first-number-clause-none
returns-else-first-number-clause-none t c =
    IfOk-weaker c.copy_of.result _ _ (λ o none is. none_more c.args.commits.now c.first-item.result c.args.number c.first-item.is c.in-len1-up.len_at_least (λ e. omega (arith, e, c.if-first-number.false)) (none is))
    c.copy_of.ensures.none
