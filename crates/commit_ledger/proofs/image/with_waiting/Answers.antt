use Rattle.std.proofs.Common.{◌∙◌, ◌++◌, Option, ap, sym}
use Rattle.std.proofs.lemmas.Result.{IfOk-weaker}
use Rattle.commit_ledger.specs.declared.entry.Scheduled.{Scheduled}
use Rattle.commit_ledger.specs.Checkpoint.{waiting_records}
use Rattle.commit_ledger.proofs.ImageLemmas.{waiting_is}
use Rattle.commit_ledger.proofs.image.with_waiting.Goals as goal

pub returns-in_ok-payload-in-Some : goal.returns-in_ok-payload-in-Some
returns-in_ok-payload-in-Some c =
    IfOk-weaker c.with.result _ _ (λ e is. is ∙ waiting_is _ _ c.args.image c.in_ok-payload-in-Some.ensures.bytes ∙ ap (λ (o : Option Scheduled). c.args.image ++ waiting_records o) (sym c.in-Some.is)) c.with.ensures
