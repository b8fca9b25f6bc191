-- The examples of lines, run over the table of forms.
use Rattle.std.proofs.Common.{◌≡◌, zero, ℕ, List, [], ◌∷◌, length, drop, map, Bool, true, false, Option, None, Some, Result, Ok, Err, refl, subst, inl, inr, arith}
use Rattle.std.specs.List.{list_all, list_any, All, Contains}
use Rattle.std.proofs.lemmas.Bool.{false≢true, and_parts, or_cases}
use Rattle.std.proofs.lemmas.List.Elements.{All-nil, All-cons}
use Rattle.cfg_lex.specs.Tokens.{tokens_at}
use Rattle.shell_words.specs.declared.form.CommandForm.{CommandForm}
use Rattle.shell_words.specs.declared.making.Words0.{Words0}
use Rattle.jiff_core.specs.Calendar.{days_of_years, days_of_months, day_count, days_from_civil}
use Rattle.shell_words.specs.Item.{Item, item_in}
use Rattle.shell_words.specs.Form.{forms_of, parts_of}
use Rattle.shell_words.specs.Walk.{fits, given, furthest, form_for}
use Rattle.shell_words.specs.Made.{made_by}
use Rattle.shell_words.specs.Reading.{first_place, capped, AnswersWhole}
use Rattle.shell_words.specs.Examples.{Example, examples, IsShown, HasExample}
use Rattle.shell_words.proofs.FitLemmas.{sound}
use Rattle.shell_words.proofs.ApartLemmas.{all_at}
use Rattle.shell_words.proofs.ReadingLemmas.{later, whole_asks, whole_misfit}
use Rattle.shell_words.proofs.LexingLemmas.{lexemes_in, is_simple, cut_simple}

abbrev items_of : List ℕ → List Item
items_of line = map (item_in line) (tokens_at 0 (lexemes_in line))

-- what tokens ask, by the form that they are in
abbrev answer_by : Bool → List Item → ℕ → Option CommandForm → Result (Option Words0) ℕ
answer_by configuring items end None = Err (capped (first_place (drop (furthest (forms_of configuring) items) items) end))
answer_by configuring items end (Some form) = Ok (Some (made_by form.makes items (given (parts_of form) items)))

abbrev answer_in : Bool → List Item → ℕ → Result (Option Words0) ℕ
answer_in configuring [] end = Ok None
answer_in configuring (item ∷ items) end = answer_by configuring (item ∷ items) end (form_for (forms_of configuring) (item ∷ items))

abbrev answer_of : Bool → Example → Result (Option Words0) ℕ
answer_of configuring example = answer_in configuring (items_of example.line) (length example.line)

answers : (configuring : Bool) (items : List Item) (end : ℕ) → AnswersWhole configuring items end (answer_in configuring items end)
answers configuring [] end = refl
answers configuring (item ∷ items) end = by_form (form_for (forms_of configuring) (item ∷ items)) refl
  where
    by_form : (found : Option CommandForm) → form_for (forms_of configuring) (item ∷ items) ≡ found → AnswersWhole configuring (item ∷ items) end (answer_by configuring (item ∷ items) end found)
    by_form None e = whole_misfit configuring (item ∷ items) end (omega arith) e
    by_form (Some form) e = whole_asks configuring (item ∷ items) end form (omega arith) e

reads : (configuring : Bool) (example : Example) → is_simple example.line ≡ true → answer_of configuring example ≡ example.asked → IsShown configuring example
reads configuring example simple is = record {
  tokens = tokens_at 0 (lexemes_in example.line);
  fault = None;
  cut = cut_simple example.line simple;
  answers = subst (AnswersWhole configuring (items_of example.line) (length example.line)) is (answers configuring (items_of example.line) (length example.line));
}

all_read : (configuring : Bool) (shown : List Example) → list_all (λ (example : Example). is_simple example.line) shown ≡ true → map (answer_of configuring) shown ≡ map (λ (example : Example). example.asked) shown → All (IsShown configuring) shown
all_read configuring [] simple same = All-nil (IsShown configuring)
all_read configuring (example ∷ shown) simple same =
    let both = and_parts (is_simple example.line) (list_all (λ (each : Example). is_simple each.line) shown) simple in
    All-cons (IsShown configuring) example shown (reads configuring example both.0 cc) (all_read configuring shown both.1 cc)

-- the lines of the examples are simple ones
examples_simple : (configuring : Bool) → list_all (λ (example : Example). is_simple example.line) (examples configuring) ≡ true
examples_simple true = refl
examples_simple false = refl

-- each of them asks what is shown
examples_answered : (configuring : Bool) → map (answer_of configuring) (examples configuring) ≡ map (λ (example : Example). example.asked) (examples configuring)
unfolding forms_of days_from_civil day_count days_of_years days_of_months
examples_answered true = refl
examples_answered false = refl

pub examples_shown : (configuring : Bool) → All (IsShown configuring) (examples configuring)
examples_shown configuring = all_read configuring (examples configuring) (examples_simple configuring) (examples_answered configuring)

-- the line is of the form
abbrev is_in : CommandForm → Example → Bool
is_in form example = fits (parts_of form) (items_of example.line)

-- each form has a line among the examples
forms_covered : (configuring : Bool) → list_all (λ (form : CommandForm). list_any (is_in form) (examples configuring)) (forms_of configuring) ≡ true
unfolding forms_of
forms_covered true = refl
forms_covered false = refl

-- one of a list passes a test that one passes
any_at : {X : Type 0} (test : X → Bool) (xs : List X) → list_any test xs ≡ true → (x : X) × Contains xs x × (test x ≡ true)
any_at test [] e = absurd (false≢true e)
any_at test (x ∷ xs) e =
    elim (or_cases (test x) (list_any test xs) e) as (λ w. (y : _) × Contains (x ∷ xs) y × (test y ≡ true)) [
      | inl here ↦ (x, (zero, omega arith, refl), here)
      | inr there ↦ let on = any_at test xs there in (on.0, later x xs on.0 on.1, on.2)
    ]

pub forms_shown : (configuring : Bool) (form : CommandForm) → Contains (forms_of configuring) form → HasExample configuring form
forms_shown configuring form served =
    let found = any_at (is_in form) (examples configuring) (all_at (λ (each : CommandForm). list_any (is_in each) (examples configuring)) (forms_of configuring) form (forms_covered configuring) served) in
    record {
      example = found.0;
      listed = found.1;
      tokens = tokens_at 0 (lexemes_in found.0.line);
      cut = cut_simple found.0.line (all_at (λ (example : Example). is_simple example.line) (examples configuring) found.0 (examples_simple configuring) found.1);
      given = given (parts_of form) (items_of found.0.line);
      is_in = record { served = served; fits = sound (parts_of form) (items_of found.0.line) found.2 };
    }
