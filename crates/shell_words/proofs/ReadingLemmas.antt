-- What a line asks.
use Rattle.std.proofs.Common.{◌≡◌, ◌<◌, ◌≤◌, ◌+◌, inl, inr, zero, suc, ℕ, List, [], ◌∷◌, ◌++◌, length, take, drop, map, Bool, true, false, cond, ◌&&◌, Option, None, Some, Result, Ok, Err, refl, sym, ap, subst, ◌∙◌, arith}
use Rattle.std.specs.List.{Contains}
use Rattle.std.proofs.lemmas.Bool.{false≢true, and_parts, cases_lt}
use Rattle.std.proofs.lemmas.List.{append_assoc, take-append-drop, take-take, length-take, length-drop}
use Rattle.std.proofs.lemmas.List.Sums.{prefix_len-le-length}
use Rattle.shell_words.specs.declared.making.Words0.{Words0}
use Rattle.cfg_lex.specs.declared.fault.LexFault.{LexFault}
use Rattle.cfg_lex.specs.declared.token.Token.{Token}
use Rattle.cfg_lex.specs.Tokens.{IsCut}
use Rattle.shell_words.specs.declared.form.CommandForm.{CommandForm}
use Rattle.shell_words.specs.declared.form.Part.{Part}
use Rattle.shell_words.specs.declared.form.Part.TheVariants.{Nothing, One, Many}
use Rattle.shell_words.specs.Item.{Item, item_in}
use Rattle.shell_words.specs.Form.{is_of, parts_of, FitsParts, forms_of, IsIn, Begins}
use Rattle.shell_words.specs.Walk.{run_len, reach, fits, given, furthest, form_for}
use Rattle.shell_words.specs.Made.{made_by}
use Rattle.shell_words.specs.Reading.{first_place, capped, AsksByForm, IsMisfit, AnswersWhole, place_of, Answers, IsReading}
use Rattle.shell_words.proofs.FormTests.{are_ended, have_examples, are_some}
use Rattle.shell_words.proofs.FormFacts.{forms_sound, forms_apart, forms_some}
use Rattle.shell_words.proofs.FitLemmas.{sound, complete, completed, goes_on, reaches}
use Rattle.shell_words.proofs.ApartLemmas.{one_form, sound_at, some_needs, split_contains}

-- what the tests say of a form of the table
record Tested (form : CommandForm) : Type 0 where
  ended : are_ended (parts_of form) ≡ true
  shown : have_examples (parts_of form) ≡ true
  some : are_some (parts_of form) ≡ true

tested : (configuring : Bool) (form : CommandForm) → Contains (forms_of configuring) form → Tested form
tested configuring form served =
    let tests = and_parts (are_ended (parts_of form) && have_examples (parts_of form)) (are_some (parts_of form)) (sound_at (forms_of configuring) form (forms_sound configuring) served) in
    let both = and_parts (are_ended (parts_of form)) (have_examples (parts_of form)) tests.0 in
    record { ended = both.0; shown = both.1; some = tests.1 }

pub each_form : (configuring : Bool) (form : CommandForm) → Contains (forms_of configuring) form → (items : List Item) × (words : List (List ℕ)) × FitsParts (parts_of form) items words
each_form configuring form served = completed (parts_of form) (tested configuring form served).shown

-- one more form before the others
pub later : {X : Type 0} (first : X) (rest : List X) (x : X) → Contains rest x → Contains (first ∷ rest) x
later first rest x contained = (suc contained.0, omega (arith, contained.1), contained.2)

-- some form goes on as far as the furthest
furthest_met : (forms : List CommandForm) (items : List Item) → 0 < length forms → (form : CommandForm) × Contains forms form × (reach (parts_of form) items ≡ furthest forms items)
furthest_met [] items some = absurd (omega arith)
furthest_met (form ∷ forms) items some =
    elim (cases_lt (reach (parts_of form) items) (furthest forms items)) as (λ w. (f : CommandForm) × Contains (form ∷ forms) f × (reach (parts_of f) items ≡ furthest (form ∷ forms) items)) [
      | inl less ↦ let on = furthest_met forms items (more_than forms less) in (on.0, later form forms on.0 on.1, omega (arith, on.2))
      | inr not_less ↦ (form, (zero, omega arith, refl), omega arith)
    ]
  where
    more_than : (rest : List CommandForm) → reach (parts_of form) items < furthest rest items → 0 < length rest
    more_than [] less = absurd (omega arith)
    more_than (next ∷ rest) less = omega arith

-- no form goes on further
furthest_over : (forms : List CommandForm) (items : List Item) (form : CommandForm) → Contains forms form → reach (parts_of form) items ≤ furthest forms items
furthest_over [] items form contained = absurd (omega (arith, contained.1))
furthest_over (first ∷ forms) items form contained =
    elim (split_contains first forms form contained) as (λ w. reach (parts_of form) items ≤ furthest (first ∷ forms) items) [
      | inl here ↦ subst (λ f. reach (parts_of f) items ≤ furthest (first ∷ forms) items) here (omega arith)
      | inr there ↦ let on = furthest_over forms items form there in omega (arith, on)
    ]

-- a form goes on with at most all tokens
reach_within : (parts : List Part) (items : List Item) → reach parts items ≤ length items
reach_within [] items = omega arith
reach_within (Nothing ∷ parts) items = reach_within parts items
reach_within (One symbol ∷ parts) [] = omega arith
reach_within (One symbol ∷ parts) (item ∷ items) =
    elim (is_of symbol item) as (λ t. cond t (1 + reach parts items) 0 ≤ length (item ∷ items)) [
      | true ↦ omega (arith, reach_within parts items)
      | false ↦ omega arith
    ]
reach_within (Many symbol ∷ parts) items =
    omega (arith, reach_within parts (drop (run_len symbol items) items), length-drop (run_len symbol items) items, prefix_len-le-length (is_of symbol) items)

-- the fault of tokens that no form goes on with
pub misfit : (configuring : Bool) (items : List Item) (end : ℕ) → IsMisfit configuring items end (Err (capped (first_place (drop (furthest (forms_of configuring) items) items) end)))
misfit configuring items end =
    let count : ℕ = furthest (forms_of configuring) items in
    let met = furthest_met (forms_of configuring) items (forms_some configuring) in
    let within : count ≤ length items = omega (arith, reach_within (parts_of met.0) items, met.2) in
    let on = goes_on (parts_of met.0) items (tested configuring met.0 met.1).shown in
    record {
      count = count;
      within = within;
      begins = record { more = on.0; form = met.0; words = on.1; line = record { served = met.1; fits = subst (λ n. FitsParts (parts_of met.0) (take n items ++ on.0) on.1) met.2 on.2 } };
      stops = λ more begun.
          let far = reaches (parts_of begun.form) (tested configuring begun.form begun.line.served).ended (take (count + 1) items) begun.more (drop (count + 1) items) begun.words begun.line.fits in
          let whole = subst (λ is. length (take (count + 1) items) ≤ reach (parts_of begun.form) is) (take-append-drop (count + 1) items) far in
          omega (arith, whole, length-take (count + 1) items, furthest_over (forms_of configuring) items begun.form begun.line.served);
      is = refl;
    }

-- the form that is found is one of the table, and the tokens are in it
pub found : (forms : List CommandForm) (items : List Item) (form : CommandForm) → form_for forms items ≡ Some form → Contains forms form × (fits (parts_of form) items ≡ true)
found [] items form e = absurd cc
found (first ∷ forms) items form e =
    elim (fits (parts_of first) items) as (λ t. fits (parts_of first) items ≡ t → cond t (Some first) (form_for forms items) ≡ Some form → Contains (first ∷ forms) form × (fits (parts_of form) items ≡ true)) [
      | true ↦ λ fit is.
          let same : first ≡ form = cc in
          ((zero, omega arith, same), subst (λ f. fits (parts_of f) items ≡ true) same fit)
      | false ↦ λ isnt is. let on = found forms items form is in (later first forms form on.0, on.1)
    ] refl e

-- where none is found the tokens are in none
none_found : (forms : List CommandForm) (items : List Item) (form : CommandForm) → form_for forms items ≡ None → Contains forms form → fits (parts_of form) items ≡ true → ⊥
none_found [] items form e contained fit = absurd (omega (arith, contained.1))
none_found (first ∷ forms) items form e contained fit =
    elim (fits (parts_of first) items) as (λ t. fits (parts_of first) items ≡ t → cond t (Some first) (form_for forms items) ≡ None → ⊥) [
      | true ↦ λ here none. cc
      | false ↦ λ isnt none.
          elim (split_contains first forms form contained) as (λ w. ⊥) [
            | inl same ↦ false≢true (sym isnt ∙ subst (λ f. fits (parts_of f) items ≡ true) (sym same) fit)
            | inr there ↦ none_found forms items form none there fit
          ]
    ] refl e

pub in_none : (configuring : Bool) (items : List Item) → form_for (forms_of configuring) items ≡ None → (form : CommandForm) (words : List (List ℕ)) → IsIn configuring items form words → ⊥
in_none configuring items e form words line =
    none_found (forms_of configuring) items form e line.served (complete (parts_of form) items words (tested configuring form line.served).ended line.fits).0

pub asks : (configuring : Bool) (items : List Item) (form : CommandForm) → form_for (forms_of configuring) items ≡ Some form → AsksByForm configuring items (Ok (Some (made_by form.makes items (given (parts_of form) items))))
asks configuring items form e =
    let here = found (forms_of configuring) items form e in
    record { form = form; words = given (parts_of form) items; line = record { served = here.0; fits = sound (parts_of form) items here.1 }; is = refl }

-- tokens that begin a line begin one without the last of them
begins_front : (configuring : Bool) (front back : List Item) → Begins configuring (front ++ back) → Begins configuring front
begins_front configuring front back begun = record {
  more = back ++ begun.more;
  form = begun.form;
  words = begun.words;
  line = record { served = begun.line.served; fits = subst (λ is. FitsParts (parts_of begun.form) is begun.words) (append_assoc front back begun.more) begun.line.fits };
}

no_longer : (configuring : Bool) (items : List Item) (end : ℕ) (one other : Result (Option Words0) ℕ) (a : IsMisfit configuring items end one) (b : IsMisfit configuring items end other) → a.count < b.count → ⊥
no_longer configuring items end one other a b less =
    let front : take (a.count + 1) (take b.count items) ≡ take (a.count + 1) items = take-take (a.count + 1) b.count items (omega arith) in
    a.stops (omega (arith, b.within))
    (subst (Begins configuring) front
    (begins_front configuring (take (a.count + 1) (take b.count items)) (drop (a.count + 1) (take b.count items))
    (subst (Begins configuring) (sym (take-append-drop (a.count + 1) (take b.count items))) b.begins)))

one_misfit : (configuring : Bool) (items : List Item) (end : ℕ) (one other : Result (Option Words0) ℕ) → IsMisfit configuring items end one → IsMisfit configuring items end other → one ≡ other
one_misfit configuring items end one other a b =
    let same : a.count ≡ b.count =
    elim (cases_lt a.count b.count) as (λ w. a.count ≡ b.count) [
      | inl less ↦ absurd (no_longer configuring items end one other a b less)
      | inr not_less ↦
          elim (cases_lt b.count a.count) as (λ w. a.count ≡ b.count) [
            | inl less ↦ absurd (no_longer configuring items end other one b a less)
            | inr neither ↦ omega arith
          ]
    ] in
    a.is ∙ ap (λ n. Err (capped (first_place (drop n items) end))) same ∙ sym b.is

-- a line that asks something
abbrev answer_of : Words0 → Result (Option Words0) ℕ
answer_of made = Ok (Some made)

one_asked : (configuring : Bool) (items : List Item) (one other : Result (Option Words0) ℕ) → AsksByForm configuring items one → AsksByForm configuring items other → one ≡ other
one_asked configuring items one other a b =
    let form : a.form ≡ b.form = one_form (forms_of configuring) a.form b.form items a.words b.words (forms_apart configuring) a.line.served b.line.served a.line.fits b.line.fits in
    let mine = complete (parts_of a.form) items a.words (tested configuring a.form a.line.served).ended a.line.fits in
    let theirs = complete (parts_of b.form) items b.words (tested configuring b.form b.line.served).ended b.line.fits in
    a.is
    ∙ ap (λ words. answer_of (made_by a.form.makes items words)) mine.1
    ∙ ap (λ (f : CommandForm). answer_of (made_by f.makes items (given (parts_of f) items))) form
    ∙ ap (λ words. answer_of (made_by b.form.makes items words)) (sym theirs.1)
    ∙ sym b.is

one_whole : (configuring : Bool) (items : List Item) (end : ℕ) (one other : Result (Option Words0) ℕ) → AnswersWhole configuring items end one → AnswersWhole configuring items end other → one ≡ other
one_whole configuring [] end one other a b = a ∙ sym b
one_whole configuring (item ∷ items) end one other (inl a) (inl b) = one_asked configuring (item ∷ items) one other a b
one_whole configuring (item ∷ items) end one other (inl a) (inr b) = absurd (b.0 a.form a.words a.line)
one_whole configuring (item ∷ items) end one other (inr a) (inl b) = absurd (a.0 b.form b.words b.line)
one_whole configuring (item ∷ items) end one other (inr a) (inr b) = one_misfit configuring (item ∷ items) end one other a.1 b.1

one_answer : (configuring : Bool) (items : List Item) (fault : Option LexFault) (end : ℕ) (one other : Result (Option Words0) ℕ) → Answers configuring items fault end one → Answers configuring items fault end other → one ≡ other
one_answer configuring items None end one other a b = one_whole configuring items end one other a b
one_answer configuring items (Some fault) end one other a b = one_misfit configuring items (place_of fault) one other a b

-- a line that is cut in one way is read in one way
pub one_reading : ((text : List ℕ) (one two : List Token) (fault other : Option LexFault) → IsCut text one fault → IsCut text two other → (one ≡ two) × (fault ≡ other)) → (configuring : Bool) (line : List ℕ) (one other : Result (Option Words0) ℕ) → IsReading configuring line one → IsReading configuring line other → one ≡ other
one_reading one_cut configuring line one other a b =
    let same = one_cut line a.tokens b.tokens a.fault b.fault a.cut b.cut in
    one_answer configuring (map (item_in line) b.tokens) b.fault (length line) one other
    (subst (λ fault. Answers configuring (map (item_in line) b.tokens) fault (length line) one) same.1
    (subst (λ tokens. Answers configuring (map (item_in line) tokens) a.fault (length line) one) same.0 a.answers))
    b.answers

whole_line : (configuring : Bool) (items : List Item) (end : ℕ) (form : CommandForm) (words : List (List ℕ)) → IsIn configuring items form words → AnswersWhole configuring items end (Ok (Some (made_by form.makes items words)))
whole_line configuring [] end form words line =
    absurd (some_needs (parts_of form) [] words (tested configuring form line.served).some refl line.fits)
whole_line configuring (item ∷ items) end form words line = inl record { form = form; words = words; line = line; is = refl }

pub own_line : (configuring : Bool) (line : List ℕ) (tokens : List Token) (form : CommandForm) (words : List (List ℕ)) → IsCut line tokens None → IsIn configuring (map (item_in line) tokens) form words → IsReading configuring line (Ok (Some (made_by form.makes (map (item_in line) tokens) words)))
own_line configuring line tokens form words cut in_form =
    record { tokens = tokens; fault = None; cut = cut; answers = whole_line configuring (map (item_in line) tokens) (length line) form words in_form }

-- tokens that no form is found for
pub whole_misfit : (configuring : Bool) (items : List Item) (end : ℕ) → 0 < length items → form_for (forms_of configuring) items ≡ None → AnswersWhole configuring items end (Err (capped (first_place (drop (furthest (forms_of configuring) items) items) end)))
whole_misfit configuring [] end some e = absurd (omega arith)
whole_misfit configuring (item ∷ items) end some e = inr (in_none configuring (item ∷ items) e, misfit configuring (item ∷ items) end)

-- tokens that one is found for
pub whole_asks : (configuring : Bool) (items : List Item) (end : ℕ) (form : CommandForm) → 0 < length items → form_for (forms_of configuring) items ≡ Some form → AnswersWhole configuring items end (Ok (Some (made_by form.makes items (given (parts_of form) items))))
whole_asks configuring [] end form some e = absurd (omega arith)
whole_asks configuring (item ∷ items) end form some e = inl (asks configuring (item ∷ items) form e)
