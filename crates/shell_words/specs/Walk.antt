-- How far a form goes along a line, as a plain program finds it. The laws in proofs/ tie it to the forms.
use Rattle.std.specs.Prelude.{ℕ, ◌+◌, List, [], ◌∷◌, ◌++◌, Bool, true, false, take, drop, max, if◌then◌else◌, Option, None, Some}
use Rattle.std.specs.List.{prefix_len}
use Rattle.shell_words.specs.declared.form.Part.{Part}
use Rattle.shell_words.specs.declared.form.Part.TheVariants.{Nothing, One, Many}
use Rattle.shell_words.specs.declared.form.CommandForm.{CommandForm}
use Rattle.shell_words.specs.declared.form.Symbol.{Symbol}
use Rattle.shell_words.specs.Item.{Item}
use Rattle.shell_words.specs.Form.{is_of, names, given_by, parts_of}

-- how many of the tokens at the front are of a symbol
abbrev pub run_len : Symbol → List Item → ℕ
run_len symbol items = prefix_len (is_of symbol) items

-- how many tokens the parts go on with
abbrev pub reach : List Part → List Item → ℕ
reach [] items = 0
reach (Nothing ∷ parts) items = reach parts items
reach (One symbol ∷ parts) [] = 0
reach (One symbol ∷ parts) (item ∷ items) = if is_of symbol item then 1 + reach parts items else 0
reach (Many symbol ∷ parts) items = run_len symbol items + reach parts (drop (run_len symbol items) items)

-- whether the tokens are the parts, where each run is as long as it can be
abbrev pub fits : List Part → List Item → Bool
fits [] [] = true
fits [] (item ∷ items) = false
fits (Nothing ∷ parts) items = fits parts items
fits (One symbol ∷ parts) [] = false
fits (One symbol ∷ parts) (item ∷ items) = if is_of symbol item then fits parts items else false
fits (Many symbol ∷ parts) items = fits parts (drop (run_len symbol items) items)

-- the words that they give then
abbrev pub given : List Part → List Item → List (List ℕ)
given [] items = []
given (Nothing ∷ parts) items = given parts items
given (One symbol ∷ parts) [] = []
given (One symbol ∷ parts) (item ∷ items) = given_by (names symbol) (item ∷ []) ++ given parts items
given (Many symbol ∷ parts) items =
    given_by (names symbol) (take (run_len symbol items) items) ++ given parts (drop (run_len symbol items) items)

-- how many tokens the forms go on with
abbrev pub furthest : List CommandForm → List Item → ℕ
furthest [] items = 0
furthest (form ∷ forms) items = max (reach (parts_of form) items) (furthest forms items)

-- the first form that the tokens are in
abbrev pub form_for : List CommandForm → List Item → Option CommandForm
form_for [] items = None
form_for (form ∷ forms) items = if fits (parts_of form) items then Some form else form_for forms items
