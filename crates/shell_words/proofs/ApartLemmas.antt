-- No line is of two forms.
use Rattle.std.proofs.Common.{◌≡◌, ◌<◌, ◌⊎◌, inl, inr, zero, suc, ℕ, List, [], ◌∷◌, ◌++◌, length, get_or, Bool, true, ◌||◌, refl, sym, ap, subst, ◌∙◌, arith}
use Rattle.std.specs.List.{list_all, Contains}
use Rattle.std.proofs.lemmas.Bool.{false≢true, and_parts, or_cases}
use Rattle.shell_words.specs.declared.form.Symbol.{Symbol}
use Rattle.shell_words.specs.declared.form.Part.{Part}
use Rattle.shell_words.specs.declared.form.Part.TheVariants.{Nothing, One, Many}
use Rattle.shell_words.specs.declared.form.CommandForm.{CommandForm}
use Rattle.shell_words.specs.Item.{Item}
use Rattle.shell_words.specs.Form.{is_of, names, given_by, parts_of, FitsParts, IsRun}
use Rattle.shell_words.proofs.FormTests.{disjoint, are_some, apart_one, apart_many, apart, is_sound, all_apart}
use Rattle.shell_words.proofs.SymbolLemmas.{disjoint_sound}

-- a run with a token goes on after it
record Further (symbol : Symbol) (Rest : List Item → List (List ℕ) → Type 0) (items : List Item) : Type 0 where
  first : Item
  more : List Item
  words : List (List ℕ)
  joined : items ≡ first ∷ more
  is : is_of symbol first ≡ true
  behind : IsRun symbol Rest more words

-- a run has no token, or goes on after its first one
split_run : (symbol : Symbol) (Rest : List Item → List (List ℕ) → Type 0) (items : List Item) (words : List (List ℕ)) → IsRun symbol Rest items words → ((others : List (List ℕ)) × Rest items others) ⊎ Further symbol Rest items
split_run symbol Rest items words run = by_run run.run run.joined run.all
  where
    by_run : (front : List Item) → items ≡ front ++ run.rest → list_all (is_of symbol) front ≡ true → ((others : List (List ℕ)) × Rest items others) ⊎ Further symbol Rest items
    by_run [] joined all = inl (run.others, subst (λ is. Rest is run.others) (sym joined) run.behind)
    by_run (x ∷ front) joined all =
        let both = and_parts (is_of symbol x) (list_all (is_of symbol) front) all in
        inr record {
          first = x;
          more = front ++ run.rest;
          words = given_by (names symbol) front ++ run.others;
          joined = joined;
          is = both.0;
          behind = record { run = front; rest = run.rest; others = run.others; joined = refl; given = refl; all = both.1; behind = run.behind };
        }

-- no line is of both
abbrev AreApart : List Part → List Part → Type 0
AreApart parts others = (items : List Item) (words given : List (List ℕ)) → FitsParts parts items words → FitsParts others items given → ⊥

pub some_needs : (parts : List Part) (items : List Item) (words : List (List ℕ)) → are_some parts ≡ true → items ≡ [] → FitsParts parts items words → ⊥
some_needs [] items words e none fit = false≢true e
some_needs (Nothing ∷ parts) items words e none fit = some_needs parts items words e none fit
some_needs (One symbol ∷ parts) items words e none fit =
    let both : [] ≡ fit.first ∷ fit.rest = sym none ∙ fit.joined in cc
some_needs (Many symbol ∷ parts) items words e none fit =
    elim (split_run symbol (FitsParts parts) items words fit) as (λ w. ⊥) [
      | inl here ↦ some_needs parts items here.0 e none here.1
      | inr further ↦ let both : [] ≡ further.first ∷ further.more = sym none ∙ further.joined in cc
    ]

one_apart : (symbol : Symbol) (parts : List Part) (rest : List Part → Bool) → ((others : List Part) → rest others ≡ true → AreApart parts others) → (others : List Part) → apart_one symbol rest others ≡ true → AreApart (One symbol ∷ parts) others
one_apart symbol parts rest claim [] e items words given led fit =
    let both : [] ≡ led.first ∷ led.rest = sym fit.0 ∙ led.joined in cc
one_apart symbol parts rest claim (Nothing ∷ others) e items words given led fit = one_apart symbol parts rest claim others e items words given led fit
one_apart symbol parts rest claim (One other ∷ others) e items words given led fit =
    let both : led.first ∷ led.rest ≡ fit.first ∷ fit.rest = sym led.joined ∙ fit.joined in
    let first : led.first ≡ fit.first = cc in
    let behind : fit.rest ≡ led.rest = cc in
    elim (or_cases (disjoint symbol other) (rest others) e) as (λ w. ⊥) [
      | inl differs ↦ disjoint_sound symbol other fit.first differs (ap (is_of symbol) (sym first) ∙ led.is) fit.is
      | inr apart ↦ claim others apart led.rest led.others fit.others led.behind (subst (λ is. FitsParts others is fit.others) behind fit.behind)
    ]
one_apart symbol parts rest claim (Many other ∷ others) e items words given led fit =
    let tests = and_parts (disjoint symbol other || rest (Many other ∷ others)) (apart_one symbol rest others) e in
    elim (split_run other (FitsParts others) items given fit) as (λ w. ⊥) [
      | inl here ↦ one_apart symbol parts rest claim others tests.1 items words here.0 led here.1
      | inr further ↦
          let both : led.first ∷ led.rest ≡ further.first ∷ further.more = sym led.joined ∙ further.joined in
          let first : led.first ≡ further.first = cc in
          let behind : further.more ≡ led.rest = cc in
          elim (or_cases (disjoint symbol other) (rest (Many other ∷ others)) tests.0) as (λ w. ⊥) [
            | inl differs ↦ disjoint_sound symbol other further.first differs (ap (is_of symbol) (sym first) ∙ led.is) further.is
            | inr apart ↦ claim (Many other ∷ others) apart led.rest led.others further.words led.behind (subst (λ is. IsRun other (FitsParts others) is further.words) behind further.behind)
          ]
    ]

-- two runs: where one of them ends, what follows is apart from the other one
runs_apart : (one other : Symbol) (parts others : List Part) → AreApart parts (Many other ∷ others) → AreApart (Many one ∷ parts) others → (items : List Item) (words given : List (List ℕ)) → IsRun one (FitsParts parts) items words → IsRun other (FitsParts others) items given → ⊥
runs_apart one other parts others left right [] words given run fit =
    elim (split_run one (FitsParts parts) [] words run) as (λ w. ⊥) [
      | inl here ↦ left [] here.0 given here.1 fit
      | inr further ↦ let both : [] ≡ further.first ∷ further.more = further.joined in cc
    ]
runs_apart one other parts others left right (item ∷ items) words given run fit =
    elim (split_run one (FitsParts parts) (item ∷ items) words run) as (λ w. ⊥) [
      | inl here ↦ left (item ∷ items) here.0 given here.1 fit
      | inr further ↦
          elim (split_run other (FitsParts others) (item ∷ items) given fit) as (λ w. ⊥) [
            | inl here ↦ right (item ∷ items) words here.0 run here.1
            | inr beside ↦
                let mine : further.more ≡ items = cc further.joined in
                let theirs : beside.more ≡ items = cc beside.joined in
                runs_apart one other parts others left right items further.words beside.words
                (subst (λ is. IsRun one (FitsParts parts) is further.words) mine further.behind)
                (subst (λ is. IsRun other (FitsParts others) is beside.words) theirs beside.behind)
          ]
    ]

many_apart : (symbol : Symbol) (parts : List Part) (rest : List Part → Bool) → ((others : List Part) → rest others ≡ true → AreApart parts others) → (others : List Part) → apart_many symbol rest others ≡ true → AreApart (Many symbol ∷ parts) others
many_apart symbol parts rest claim [] e items words given run fit =
    elim (split_run symbol (FitsParts parts) items words run) as (λ w. ⊥) [
      | inl here ↦ claim [] e items here.0 given here.1 fit
      | inr further ↦ let both : [] ≡ further.first ∷ further.more = sym fit.0 ∙ further.joined in cc
    ]
many_apart symbol parts rest claim (Nothing ∷ others) e items words given run fit = many_apart symbol parts rest claim others e items words given run fit
many_apart symbol parts rest claim (One other ∷ others) e items words given run fit =
    let tests = and_parts (disjoint symbol other || apart_many symbol rest others) (rest (One other ∷ others)) e in
    elim (split_run symbol (FitsParts parts) items words run) as (λ w. ⊥) [
      | inl here ↦ claim (One other ∷ others) tests.1 items here.0 given here.1 fit
      | inr further ↦
          let both : further.first ∷ further.more ≡ fit.first ∷ fit.rest = sym further.joined ∙ fit.joined in
          let first : further.first ≡ fit.first = cc in
          let behind : fit.rest ≡ further.more = cc in
          elim (or_cases (disjoint symbol other) (apart_many symbol rest others) tests.0) as (λ w. ⊥) [
            | inl differs ↦ disjoint_sound symbol other fit.first differs (ap (is_of symbol) (sym first) ∙ further.is) fit.is
            | inr apart ↦ many_apart symbol parts rest claim others apart further.more further.words fit.others further.behind (subst (λ is. FitsParts others is fit.others) behind fit.behind)
          ]
    ]
many_apart symbol parts rest claim (Many other ∷ others) e items words given run fit =
    let tests = and_parts (rest (Many other ∷ others)) (apart_many symbol rest others) e in
    runs_apart symbol other parts others (claim (Many other ∷ others) tests.0) (many_apart symbol parts rest claim others tests.1) items words given run fit

apart_sound : (parts others : List Part) → apart parts others ≡ true → AreApart parts others
apart_sound [] others e items words given fit beside = some_needs others items given e fit.0 beside
apart_sound (Nothing ∷ parts) others e items words given fit beside = apart_sound parts others e items words given fit beside
apart_sound (One symbol ∷ parts) others e items words given fit beside = one_apart symbol parts (apart parts) (apart_sound parts) others e items words given fit beside
apart_sound (Many symbol ∷ parts) others e items words given fit beside = many_apart symbol parts (apart parts) (apart_sound parts) others e items words given fit beside

-- an element of a list is the first one, or one of the others
pub split_contains : {X : Type 0} (first : X) (rest : List X) (x : X) → Contains (first ∷ rest) x → (first ≡ x) ⊎ Contains rest x
split_contains first rest x contained = by_place contained.0 contained.1 contained.2
  where
    by_place : (place : ℕ) → place < length (first ∷ rest) → get_or (first ∷ rest) place x ≡ x → (first ≡ x) ⊎ Contains rest x
    by_place zero within is = inl is
    by_place (suc place) within is = inr (place, omega arith, is)

pub all_at : {X : Type 0} (test : X → Bool) (xs : List X) (x : X) → list_all test xs ≡ true → Contains xs x → test x ≡ true
all_at test [] x all contained = absurd (omega (arith, contained.1))
all_at test (first ∷ rest) x all contained =
    let both = and_parts (test first) (list_all test rest) all in
    elim (split_contains first rest x contained) as (λ w. test x ≡ true) [
      | inl here ↦ subst (λ y. test y ≡ true) here both.0
      | inr there ↦ all_at test rest x both.1 there
    ]

-- two forms that a line is in are one
pub one_form : (forms : List CommandForm) (one other : CommandForm) (items : List Item) (words given : List (List ℕ)) → all_apart forms ≡ true → Contains forms one → Contains forms other → FitsParts (parts_of one) items words → FitsParts (parts_of other) items given → one ≡ other
one_form [] one other items words given e here there fit beside = absurd (omega (arith, here.1))
one_form (form ∷ forms) one other items words given e here there fit beside =
    let tests = and_parts (list_all (λ (next : CommandForm). apart (parts_of form) (parts_of next)) forms) (all_apart forms) e in
    elim (split_contains form forms one here) as (λ w. one ≡ other) [
      | inl first ↦
          elim (split_contains form forms other there) as (λ w. one ≡ other) [
            | inl same ↦ sym first ∙ same
            | inr later ↦
                absurd
                (apart_sound (parts_of form) (parts_of other) (all_at (λ (next : CommandForm). apart (parts_of form) (parts_of next)) forms other tests.0 later) items words given (subst (λ f. FitsParts (parts_of f) items words) (sym first) fit) beside)
          ]
      | inr earlier ↦
          elim (split_contains form forms other there) as (λ w. one ≡ other) [
            | inl first ↦
                absurd
                (apart_sound (parts_of form) (parts_of one) (all_at (λ (next : CommandForm). apart (parts_of form) (parts_of next)) forms one tests.0 earlier) items given words (subst (λ f. FitsParts (parts_of f) items given) (sym first) beside) fit)
            | inr later ↦ one_form forms one other items words given tests.1 earlier later fit beside
          ]
    ]

-- what the tests say of one form
pub sound_at : (forms : List CommandForm) (form : CommandForm) → list_all is_sound forms ≡ true → Contains forms form → is_sound form ≡ true
sound_at forms form all contained = all_at is_sound forms form all contained
