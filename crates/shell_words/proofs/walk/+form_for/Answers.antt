use Rattle.std.proofs.Common.{◌≡◌, ◌≤◌, ◌-◌, List, [], ◌∷◌, length, take, drop, get_or, true, false, cond, Some, sym, ap, ◌∙◌, arith}
use Rattle.std.proofs.lemmas.List.{take_all}
use Rattle.shell_words.specs.declared.form.CommandForm.{CommandForm}
use Rattle.shell_words.specs.declared.form.Part.{Part}
use Rattle.shell_words.specs.Item.{Item}
use Rattle.shell_words.specs.Form.{parts_of}
use Rattle.shell_words.specs.Walk.{fits, form_for}
use Rattle.shell_words.proofs.walk.+form_for.Goals as goal

-- the first form is asked first
first_found : (forms : List CommandForm) (items : List Item) (form : CommandForm) → 1 ≤ length forms → fits (parts_of (get_or forms 0 form)) items ≡ true → Some (get_or forms 0 form) ≡ form_for forms items
first_found [] items form some is = absurd (omega arith)
first_found (first ∷ forms) items form some is = sym (ap (λ t. cond t (Some first) (form_for forms items)) is)

first_passed : (forms : List CommandForm) (items : List Item) (form : CommandForm) (parts : List Part) → 1 ≤ length forms → parts ≡ parts_of (get_or forms 0 form) → fits parts items ≡ false → form_for (take (length forms - 1) (drop 1 forms)) items ≡ form_for forms items
first_passed [] items form parts some are isnt = absurd (omega arith)
first_passed (first ∷ forms) items form parts some are isnt =
    ap (λ fs. form_for fs items) (take_all (length (first ∷ forms) - 1) forms (omega arith))
    ∙ sym (ap (λ t. cond t (Some first) (form_for forms items)) (ap (λ ps. fits ps items) (sym are) ∙ isnt))

pub returns-then-fits : goal.returns-then-fits
returns-then-fits t c =
    first_found c.args.forms.now c.args.items.now _ c.in-len1-up.len_at_least
    (ap (λ parts. fits parts c.args.items.now) (sym c.parts.ensures) ∙ sym c.fits.ensures ∙ c.if-fits.true)

pub returns-else-fits : goal.returns-else-fits
returns-else-fits t c =
    c.form_for.ensures
    ∙ first_passed c.args.forms.now c.args.items.now _ c.parts.result c.in-len1-up.len_at_least c.parts.ensures (sym c.fits.ensures ∙ c.if-fits.false)
