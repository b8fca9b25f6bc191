use Rattle.std.proofs.Common.{arith}
use Rattle.commit_ledger.specs.Kept.{opened}
use Rattle.commit_ledger.proofs.WindowLemmas.{fifty_are_kept, fifty_at_most}
use Rattle.commit_ledger.proofs.laws.the_last_fifty_commits_are_kept.Goals as goal

pub returns-clause-begun : goal.returns-clause-begun
returns-clause-begun c = λ first entries. fifty_are_kept (opened first) entries (search arith)

pub returns-clause-further : goal.returns-clause-further
returns-clause-further c = fifty_are_kept

pub returns-clause-most : goal.returns-clause-most
returns-clause-most c = fifty_at_most
