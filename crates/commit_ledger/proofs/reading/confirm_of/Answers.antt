use Rattle.std.proofs.Common.{◌∙◌, sym, refl}
use Rattle.std.proofs.lemmas.Result.{IfOk-weaker}
use Rattle.commit_ledger.specs.Form.{confirm_read}
use Rattle.commit_ledger.specs.Payload.{confirm_form}
use Rattle.commit_ledger.proofs.FieldLemmas.{one_confirm, confirm_fits}
use Rattle.commit_ledger.proofs.reading.confirm_of.Goals as goal

pub returns-in-None-clause-none : goal.returns-in-None-clause-none
returns-in-None-clause-none c = λ none x of. c.in-None.ensures.none refl (confirm_form x) (confirm_fits x of.is_confirm) of.bytes

pub returns-in-Some-clause-none : goal.returns-in-Some-clause-none
returns-in-Some-clause-none c =
    IfOk-weaker c.confirm_from.result _ _ (λ o none_of is x of. none_of is x (record {
      form = one_confirm (confirm_read c.in-Some.read) (confirm_form x) c.in-Some.ensures.fits (confirm_fits x of.is_confirm) (sym c.in-Some.ensures.some ∙ of.bytes);
      is_confirm = of.is_confirm;
    })) c.confirm_from.ensures.none
