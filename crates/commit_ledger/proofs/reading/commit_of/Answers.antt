use Rattle.std.proofs.Common.{◌∙◌, sym, refl}
use Rattle.std.proofs.lemmas.Result.{IfOk-weaker}
use Rattle.commit_ledger.specs.Form.{commit_read}
use Rattle.commit_ledger.specs.Payload.{form_of}
use Rattle.commit_ledger.proofs.FieldLemmas.{one_form, commit_fits}
use Rattle.commit_ledger.proofs.reading.commit_of.Goals as goal

pub returns-in-None-clause-none : goal.returns-in-None-clause-none
returns-in-None-clause-none g c = λ none x of. c.in-None.ensures.none refl (form_of x) (commit_fits (g.J.LedgerCheck.accepted c.args.judge.now) x of.is_commit) of.bytes

pub returns-in-Some-clause-none : goal.returns-in-Some-clause-none
returns-in-Some-clause-none g c =
    IfOk-weaker c.commit_from.result _ _ (λ o none_of is x of. none_of is x (record {
      form = one_form (commit_read c.in-Some.read) (form_of x) c.in-Some.ensures.fits (commit_fits (g.J.LedgerCheck.accepted c.args.judge.now) x of.is_commit)
          (sym c.in-Some.ensures.some ∙ of.bytes);
      is_commit = of.is_commit;
    })) c.commit_from.ensures.none
