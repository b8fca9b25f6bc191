use Rattle.private_merge.proofs.LawLemmas.{nothing_own, nothing_else, both_alike}
use Rattle.private_merge.proofs.laws.one_side_alone_is_taken.Goals as goal

pub returns-clause-nothing_own : goal.returns-clause-nothing_own
returns-clause-nothing_own c = nothing_own

pub returns-clause-nothing_else : goal.returns-clause-nothing_else
returns-clause-nothing_else c = nothing_else

pub returns-clause-alike : goal.returns-clause-alike
returns-clause-alike c = both_alike
