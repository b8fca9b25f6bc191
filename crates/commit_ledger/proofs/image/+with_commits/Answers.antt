use Rattle.std.proofs.lemmas.Result.{IfOk-weaker}
use Rattle.commit_ledger.proofs.ImageLemmas.{first_and_rest, more_records}
use Rattle.commit_ledger.proofs.image.+with_commits.Goals as goal

pub returns-in-Ok : goal.returns-in-Ok
returns-in-Ok t c =
    IfOk-weaker c.with_commits.result _ _ (λ e is. more_records c.args.commits.now _ c.first-item.result c.args.image c.in-Ok.longer e (first_and_rest c.args.commits.now c.first-item.result c.first-item.is c.in-len1-up.len_at_least) c.in-Ok.ensures is) c.with_commits.ensures
