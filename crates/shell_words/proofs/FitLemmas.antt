-- What a form's parts take of a line, stated by the plain program and by the form's meaning.
use Rattle.std.proofs.Common.{◌≡◌, ◌≤◌, ◌+◌, ℕ, List, [], ◌∷◌, ◌++◌, length, take, drop, Bool, true, false, cond, refl, sym, ap, subst, ◌∙◌, arith, length-append, add_comm, add-one}
use Rattle.std.specs.List.{list_all}
use Rattle.std.proofs.lemmas.Bool.{false≢true, and_parts, and_from}
use Rattle.std.proofs.lemmas.List.{append_assoc, take-append-drop, take_at, drop_at}
use Rattle.std.proofs.Math.Seq.{take-add}
use Rattle.shell_words.specs.declared.form.Symbol.{Symbol}
use Rattle.shell_words.specs.declared.form.Part.{Part}
use Rattle.shell_words.specs.declared.form.Part.TheVariants.{Nothing, One, Many}
use Rattle.shell_words.specs.Item.{Item}
use Rattle.shell_words.specs.Form.{is_of, names, given_by, FitsParts, IsLed}
use Rattle.shell_words.specs.Walk.{run_len, reach, fits, given}
use Rattle.shell_words.proofs.FormTests.{ends, are_ended, example, have_examples}
use Rattle.shell_words.proofs.SymbolLemmas.{disjoint_sound, is_not}

-- no token of the symbol stands first
abbrev pub Stops : Symbol → List Item → Type 0
Stops symbol [] = Unit {0}
Stops symbol (item ∷ items) = is_of symbol item ≡ false

-- a run is as long as the tokens of its symbol go
run_is : (symbol : Symbol) (run rest : List Item) → list_all (is_of symbol) run ≡ true → Stops symbol rest → run_len symbol (run ++ rest) ≡ length run
run_is symbol [] [] all stops = refl
run_is symbol [] (item ∷ rest) all stops = ap (λ t. cond t (1 + run_len symbol rest) 0) stops
run_is symbol (item ∷ run) rest all stops =
    let parts = and_parts (is_of symbol item) (list_all (is_of symbol) run) all in
    ap (λ t. cond t (1 + run_len symbol (run ++ rest)) 0) parts.0 ∙ omega (arith, run_is symbol run rest parts.1 stops)

-- the tokens that are counted are of the symbol
run_all : (symbol : Symbol) (items : List Item) → list_all (is_of symbol) (take (run_len symbol items) items) ≡ true
run_all symbol [] = refl
run_all symbol (item ∷ items) =
    elim (is_of symbol item) as (λ t. is_of symbol item ≡ t → list_all (is_of symbol) (take (cond t (1 + run_len symbol items) 0) (item ∷ items)) ≡ true) [
      | true ↦ λ e. rw (add_comm 1 (run_len symbol items), add-one) (and_from (is_of symbol item) (list_all (is_of symbol) (take (run_len symbol items) items)) e (run_all symbol items))
      | false ↦ λ e. refl
    ] refl

-- what the program finds is so
pub sound : (parts : List Part) (items : List Item) → fits parts items ≡ true → FitsParts parts items (given parts items)
sound [] [] e = (refl, refl)
sound [] (item ∷ items) e = absurd (false≢true e)
sound (Nothing ∷ parts) items e = sound parts items e
sound (One symbol ∷ parts) [] e = absurd (false≢true e)
sound (One symbol ∷ parts) (item ∷ items) e =
    elim (is_of symbol item) as (λ t. is_of symbol item ≡ t → cond t (fits parts items) false ≡ true → IsLed symbol (FitsParts parts) (item ∷ items) (given_by (names symbol) (item ∷ []) ++ given parts items)) [
      | true ↦ λ is fit. record { first = item; rest = items; others = given parts items; joined = refl; given = refl; is = is; behind = sound parts items fit }
      | false ↦ λ isnt fit. absurd (false≢true fit)
    ] refl e
sound (Many symbol ∷ parts) items e = record {
  run = take (run_len symbol items) items;
  rest = drop (run_len symbol items) items;
  others = given parts (drop (run_len symbol items) items);
  joined = sym (take-append-drop (run_len symbol items) items);
  given = refl;
  all = run_all symbol items;
  behind = sound parts (drop (run_len symbol items) items) e;
}

-- no token of a run stands first in what follows it
ends_stops : (symbol : Symbol) (parts : List Part) (rest : List Item) (words : List (List ℕ)) → ends symbol parts ≡ true → FitsParts parts rest words → Stops symbol rest
ends_stops symbol [] rest words e fit = subst (Stops symbol) (sym fit.0) tt
ends_stops symbol (Nothing ∷ parts) rest words e fit = ends_stops symbol parts rest words e fit
ends_stops symbol (One next ∷ parts) rest words e fit =
    subst (Stops symbol) (sym fit.joined) (is_not (is_of symbol fit.first) (λ is. disjoint_sound symbol next fit.first e is fit.is))
ends_stops symbol (Many next ∷ parts) rest words e fit = absurd (false≢true e)

-- what is so the program finds
pub complete : (parts : List Part) (items : List Item) (words : List (List ℕ)) → are_ended parts ≡ true → FitsParts parts items words → (fits parts items ≡ true) × (words ≡ given parts items)
complete [] items words e fit = (ap (fits []) fit.0, fit.1)
complete (Nothing ∷ parts) items words e fit = complete parts items words e fit
complete (One symbol ∷ parts) items words e fit =
    let further = complete parts fit.rest fit.others e fit.behind in (
      ap (fits (One symbol ∷ parts)) fit.joined ∙ ap (λ t. cond t (fits parts fit.rest) false) fit.is ∙ further.0,
      fit.given ∙ ap (λ ws. given_by (names symbol) (fit.first ∷ []) ++ ws) further.1 ∙ sym (ap (given (One symbol ∷ parts)) fit.joined),
    )
complete (Many symbol ∷ parts) items words e fit =
    let sure = and_parts (ends symbol parts) (are_ended parts) e in
    let further = complete parts fit.rest fit.others sure.1 fit.behind in
    let stops = ends_stops symbol parts fit.rest fit.others sure.0 fit.behind in
    let size : run_len symbol items ≡ length fit.run = ap (run_len symbol) fit.joined ∙ run_is symbol fit.run fit.rest fit.all stops in
    let back : drop (run_len symbol items) items ≡ fit.rest = ap (drop (run_len symbol items)) fit.joined ∙ drop_at fit.run fit.rest (run_len symbol items) (sym size) in
    let front : take (run_len symbol items) items ≡ fit.run = ap (take (run_len symbol items)) fit.joined ∙ take_at fit.run fit.rest (run_len symbol items) (sym size) in (
      ap (fits parts) back ∙ further.0,
      fit.given
          ∙ ap (λ ws. given_by (names symbol) fit.run ++ ws) further.1
          ∙ ap (λ run. given_by (names symbol) run ++ given parts fit.rest) (sym front)
          ∙ ap (λ rest. given_by (names symbol) (take (run_len symbol items) items) ++ given parts rest) (sym back),
    )

given_none : (named : Bool) → given_by named [] ≡ []
given_none true = refl
given_none false = refl

-- a line of the parts goes on from these tokens
abbrev pub Completion : List Part → List Item → Type 0
Completion parts front = (more : List Item) × (words : List (List ℕ)) × FitsParts parts (front ++ more) words

-- a line of the parts
pub completed : (parts : List Part) → have_examples parts ≡ true → Completion parts []
completed [] e = ([], [], (refl, refl))
completed (Nothing ∷ parts) e = completed parts e
completed (One symbol ∷ parts) e =
    let both = and_parts (is_of symbol (example symbol)) (have_examples parts) e in
    let on = completed parts both.1 in (
      example symbol ∷ on.0,
      given_by (names symbol) (example symbol ∷ []) ++ on.1,
      record { first = example symbol; rest = on.0; others = on.1; joined = refl; given = refl; is = both.0; behind = on.2 },
    )
completed (Many symbol ∷ parts) e =
    let on = completed parts e in
    (on.0, on.1, record { run = []; rest = on.0; others = on.1; joined = refl; given = sym (ap (λ ws. ws ++ on.1) (given_none (names symbol))); all = refl; behind = on.2 })

-- the tokens that the parts go on with begin a line of theirs
pub goes_on : (parts : List Part) (items : List Item) → have_examples parts ≡ true → Completion parts (take (reach parts items) items)
goes_on [] items e = ([], [], (refl, refl))
goes_on (Nothing ∷ parts) items e = goes_on parts items e
goes_on (One symbol ∷ parts) [] e = completed (One symbol ∷ parts) e
goes_on (One symbol ∷ parts) (item ∷ items) e =
    elim (is_of symbol item) as (λ t. is_of symbol item ≡ t → Completion (One symbol ∷ parts) (take (cond t (1 + reach parts items) 0) (item ∷ items))) [
      | true ↦ λ is.
          let on = goes_on parts items (and_parts (is_of symbol (example symbol)) (have_examples parts) e).1 in (
            on.0,
            given_by (names symbol) (item ∷ []) ++ on.1,
            record {
              first = item;
              rest = take (reach parts items) items ++ on.0;
              others = on.1;
              joined = rw (add_comm 1 (reach parts items), add-one) refl;
              given = refl;
              is = is;
              behind = on.2;
            },
          )
      | false ↦ λ isnt. completed (One symbol ∷ parts) e
    ] refl
goes_on (Many symbol ∷ parts) items e =
    let count : ℕ = run_len symbol items in
    let on = goes_on parts (drop count items) e in (
      on.0,
      given_by (names symbol) (take count items) ++ on.1,
      record {
        run = take count items;
        rest = take (reach parts (drop count items)) (drop count items) ++ on.0;
        others = on.1;
        joined = ap (λ is. is ++ on.0) (take-add count (reach parts (drop count items)) items) ∙ append_assoc (take count items) (take (reach parts (drop count items)) (drop count items)) on.0;
        given = refl;
        all = run_all symbol items;
        behind = on.2;
      },
    )

-- the parts go on at least with the front of a line of theirs, whatever stands after it
abbrev Reaches : List Part → Type 0
Reaches parts = (xs ys zs : List Item) (words : List (List ℕ)) → FitsParts parts (xs ++ ys) words → length xs ≤ reach parts (xs ++ zs)

run_reaches : (symbol : Symbol) (parts : List Part) → Reaches parts → (run rest xs ys zs : List Item) (words : List (List ℕ)) → list_all (is_of symbol) run ≡ true → Stops symbol rest → xs ++ ys ≡ run ++ rest → FitsParts parts rest words → length xs ≤ reach (Many symbol ∷ parts) (xs ++ zs)
run_reaches symbol parts on [] rest [] ys zs words all stops joined fit = omega arith
run_reaches symbol parts on [] rest (x ∷ xs) ys zs words all stops joined fit =
    let none : is_of symbol x ≡ false = subst (Stops symbol) (sym joined) stops in
    let further = on (x ∷ xs) ys zs words (subst (λ is. FitsParts parts is words) (sym joined) fit) in
    subst (λ t. length (x ∷ xs) ≤ cond t (1 + run_len symbol (xs ++ zs)) 0 + reach parts (drop (cond t (1 + run_len symbol (xs ++ zs)) 0) (x ∷ (xs ++ zs)))) (sym none) (omega (arith, further))
run_reaches symbol parts on (r ∷ run) rest [] ys zs words all stops joined fit = omega arith
run_reaches symbol parts on (r ∷ run) rest (x ∷ xs) ys zs words all stops joined fit =
    let both = and_parts (is_of symbol r) (list_all (is_of symbol) run) all in
    let same : x ≡ r = cc in
    let is : is_of symbol x ≡ true = ap (is_of symbol) same ∙ both.0 in
    let further = run_reaches symbol parts on run rest xs ys zs words both.1 stops (cc) fit in
    subst (λ t. length (x ∷ xs) ≤ cond t (1 + run_len symbol (xs ++ zs)) 0 + reach parts (drop (cond t (1 + run_len symbol (xs ++ zs)) 0) (x ∷ (xs ++ zs)))) (sym is)
    (rw (add_comm 1 (run_len symbol (xs ++ zs)), add-one) (omega (arith, further)))

pub reaches : (parts : List Part) → are_ended parts ≡ true → Reaches parts
reaches [] e xs ys zs words fit = omega (arith, ap length fit.0, length-append xs ys)
reaches (Nothing ∷ parts) e xs ys zs words fit = reaches parts e xs ys zs words fit
reaches (One symbol ∷ parts) e [] ys zs words fit = omega arith
reaches (One symbol ∷ parts) e (x ∷ xs) ys zs words fit =
    let first : x ≡ fit.first = cc fit.joined in
    let rest : fit.rest ≡ xs ++ ys = cc fit.joined in
    let is : is_of symbol x ≡ true = ap (is_of symbol) first ∙ fit.is in
    let further = reaches parts e xs ys zs fit.others (subst (λ is. FitsParts parts is fit.others) rest fit.behind) in
    subst (λ t. length (x ∷ xs) ≤ cond t (1 + reach parts (xs ++ zs)) 0) (sym is) (omega (arith, further))
reaches (Many symbol ∷ parts) e xs ys zs words fit =
    let sure = and_parts (ends symbol parts) (are_ended parts) e in
    run_reaches symbol parts (reaches parts sure.1) fit.run fit.rest xs ys zs fit.others fit.all
    (ends_stops symbol parts fit.rest fit.others sure.0 fit.behind) fit.joined fit.behind
