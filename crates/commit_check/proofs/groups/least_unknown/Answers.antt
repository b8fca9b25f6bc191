use Rattle.std.proofs.lemmas.Result.{IfOk-weaker}
use Rattle.commit_check.proofs.LeastLemmas.{unknown_least}
use Rattle.commit_check.proofs.groups.least_unknown.Goals as goal

pub returns : goal.returns
returns c = IfOk-weaker c.first_unknown.result _ _ (unknown_least c.args.tree.now) c.first_unknown.ensures
