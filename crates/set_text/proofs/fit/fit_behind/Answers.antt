use Rattle.std.proofs.Common.{sym, subst, IfOk}
use Rattle.set_text.specs.declared.form.Form.{Form}
use Rattle.set_text.specs.Fit.{FitsBehind}
use Rattle.set_text.proofs.FormLemmas.{fits_one_list}
use Rattle.set_text.proofs.fit.fit_behind.Goals as goal

pub returns-in-OneList : goal.returns-in-OneList
returns-in-OneList c =
    subst (λ (form : Form). FitsBehind c.args.line.now form c.args.rest.now c.fit_one_list.result) (sym c.in-OneList.is)
    (fits_one_list c.args.line.now c.in-OneList.verb c.in-OneList.brackets c.args.rest.now c.fit_one_list.result c.fit_one_list.ensures)

pub returns-in-TwoLists : goal.returns-in-TwoLists
returns-in-TwoLists c =
    subst (λ (form : Form). IfOk c.fit_two_lists.result (λ fit. FitsBehind c.args.line.now form c.args.rest.now fit)) (sym c.in-TwoLists.is) c.fit_two_lists.ensures
