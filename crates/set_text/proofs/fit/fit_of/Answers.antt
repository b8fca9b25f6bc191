use Rattle.std.proofs.Common.{◌∙◌, sym}
use Rattle.std.proofs.lemmas.Result.{IfOk-weaker}
use Rattle.set_text.proofs.FormLemmas.{fits_nothing, fits_no_form, fits_behind}
use Rattle.set_text.proofs.fit.fit_of.Goals as goal

pub returns-in-empty : goal.returns-in-empty
returns-in-empty c = fits_nothing c.args.line.now c.args.tokens.now c.in-empty.len_below

pub returns-in-None : goal.returns-in-None
returns-in-None c =
    fits_no_form c.args.line.now c.args.tokens.now _ c.in-len1-up.len_at_least (sym c.in_ok-form_at.ensures ∙ c.in-None.is)

pub returns-in-Some : goal.returns-in-Some
returns-in-Some c =
    IfOk-weaker c.fit_behind.result _ _
    (λ fit is. fits_behind c.args.line.now c.args.tokens.now _ c.in-Some.form fit c.in-len1-up.len_at_least (sym c.in_ok-form_at.ensures ∙ c.in-Some.is) is)
    c.fit_behind.ensures
