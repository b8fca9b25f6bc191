use Rattle.std.proofs.Common.{◌∙◌, sym, refl}
use Rattle.std.proofs.lemmas.Result.{IfOk-weaker}
use Rattle.commit_ledger.specs.Form.{scheduled_read}
use Rattle.commit_ledger.specs.Payload.{scheduled_form}
use Rattle.commit_ledger.proofs.FieldLemmas.{one_scheduled, scheduled_fits}
use Rattle.commit_ledger.proofs.reading.scheduled_of.Goals as goal

pub returns-in-None-clause-none : goal.returns-in-None-clause-none
returns-in-None-clause-none g c = λ none x of. c.in-None.ensures.none refl (scheduled_form x) (scheduled_fits (g.J.LedgerCheck.accepted c.args.judge.now) x of.is_scheduled) of.bytes

pub returns-in-Some-clause-none : goal.returns-in-Some-clause-none
returns-in-Some-clause-none g c =
    IfOk-weaker c.scheduled_from.result _ _ (λ o none_of is x of. none_of is x (record {
      form = one_scheduled (scheduled_read c.in-Some.read) (scheduled_form x) c.in-Some.ensures.fits (scheduled_fits (g.J.LedgerCheck.accepted c.args.judge.now) x of.is_scheduled)
          (sym c.in-Some.ensures.some ∙ of.bytes);
      is_scheduled = of.is_scheduled;
    })) c.scheduled_from.ensures.none
