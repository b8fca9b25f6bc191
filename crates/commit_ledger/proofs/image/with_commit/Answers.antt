use Rattle.std.proofs.Common.{◌∙◌}
use Rattle.std.proofs.lemmas.Result.{IfOk-weaker}
use Rattle.commit_ledger.proofs.ImageLemmas.{commit_is}
use Rattle.commit_ledger.proofs.image.with_commit.Goals as goal

pub returns : goal.returns
returns c = IfOk-weaker c.with.result _ _ (λ e is. is ∙ commit_is c.args.commit.now c.in_ok-payload.payload c.args.image c.in_ok-payload.ensures.bytes) c.with.ensures
