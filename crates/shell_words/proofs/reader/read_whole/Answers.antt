use Rattle.std.proofs.Common.{◌≡◌, ◌<◌, length, List, [], ◌∷◌, Bool, false, eqb, None, Some, Ok, Err, sym, ap, subst, ◌∙◌, arith}
use Rattle.std.proofs.lemmas.Bool.{false≢true}
use Rattle.shell_words.specs.declared.making.Words0.{Words0}
use Rattle.shell_words.specs.Item.{Item}
use Rattle.shell_words.specs.declared.reader.ReadFault.{ReadFault}
use Rattle.shell_words.specs.Form.{parts_of, forms_of}
use Rattle.shell_words.specs.Walk.{given, form_for}
use Rattle.shell_words.specs.Made.{made_by}
use Rattle.shell_words.specs.Reading.{AnswersWhole, Gives}
use Rattle.shell_words.proofs.ReadingLemmas.{whole_misfit, whole_asks}
use Rattle.shell_words.proofs.reader.read_whole.Goals as goal

-- there is one at least
some_items : (items : List Item) (empty : Bool) → empty ≡ eqb (length items) 0 → empty ≡ false → 0 < length items
some_items [] empty is isnt = absurd (false≢true (sym isnt ∙ is))
some_items (item ∷ items) empty is isnt = omega arith

pub returns-in-None : goal.returns-in-None
returns-in-None c =
    let some : 0 < length c.args.items.now = some_items c.args.items.now c.is_empty.result c.is_empty.ensures c.if-is_empty.false in
    let none : form_for (forms_of c.args.configuring) c.args.items.now ≡ None =
    ap (λ forms. form_for forms c.args.items.now) (sym c.forms_of.ensures) ∙ sym c.form_for.ensures ∙ c.in-None.is in
    subst (λ (fault : ReadFault). Gives (AnswersWhole c.args.configuring c.args.items.now c.args.end) (Err fault)) (sym c.misfit.ensures)
    (whole_misfit c.args.configuring c.args.items.now c.args.end some none)

pub returns-in-Ok : goal.returns-in-Ok
returns-in-Ok c =
    let some : 0 < length c.args.items.now = some_items c.args.items.now c.is_empty.result c.is_empty.ensures c.if-is_empty.false in
    let is : form_for (forms_of c.args.configuring) c.args.items.now ≡ Some c.in-Some.form =
    ap (λ forms. form_for forms c.args.items.now) (sym c.forms_of.ensures) ∙ sym c.form_for.ensures ∙ c.in-Some.is in
    let found = whole_asks c.args.configuring c.args.items.now c.args.end c.in-Some.form some is in
    let made : c.in-Ok.made ≡ made_by c.in-Some.form.makes c.args.items.now (given (parts_of c.in-Some.form) c.args.items.now) = c.in-Ok.ensures in
    subst (λ (made : Words0). AnswersWhole c.args.configuring c.args.items.now c.args.end (Ok (Some made))) (sym made) found
