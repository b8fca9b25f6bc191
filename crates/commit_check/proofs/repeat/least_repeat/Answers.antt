use Rattle.std.proofs.lemmas.Result.{IfOk-weaker}
use Rattle.commit_check.proofs.RepeatLemmas.{repeat_least}
use Rattle.commit_check.proofs.repeat.least_repeat.Goals as goal

pub returns : goal.returns
returns c = IfOk-weaker c.first_repeat.result _ _ (repeat_least c.args.rule c.args.full.now) c.first_repeat.ensures
