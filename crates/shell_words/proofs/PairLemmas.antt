-- A change of two statements: what stands on either side of its mark.
use Rattle.std.proofs.Common.{◌≡◌, ◌<◌, ◌+◌, ℕ, List, [], ◌∷◌, ◌++◌, length, map, take, drop, Bool, true, false, not, cond, ◌&&◌, refl, sym, ap, subst, ◌∙◌, arith}
use Rattle.std.specs.List.{list_all}
use Rattle.std.proofs.lemmas.Bool.{false≢true, and_parts, and_from}
use Rattle.std.proofs.lemmas.List.{append-nil, append_assoc, length-map, take_at, drop_at}
use Rattle.cfg_base.specs.Words.{same_word}
use Rattle.cfg_lex.specs.Lexed.{is_bare_kind}
use Rattle.commands.specs.declared.mover.Mover.{Mover}
use Rattle.shell_words.specs.declared.form.Symbol.{Symbol}
use Rattle.shell_words.specs.declared.form.Symbol.TheVariants.{Keyword, Mark, Word, Neither, Number, Time, OpenBracket, CloseBracket}
use Rattle.shell_words.specs.declared.form.Part.{Part}
use Rattle.shell_words.specs.declared.form.Part.TheVariants.{Nothing, One, Many}
use Rattle.shell_words.specs.declared.form.Makes.TheVariants.{Move}
use Rattle.shell_words.specs.declared.form.CommandForm.{CommandForm}
use Rattle.shell_words.specs.declared.keyword.Keyword as keywords
use Rattle.shell_words.specs.declared.keyword.Keyword.TheVariants as key
use Rattle.shell_words.specs.Item.{Item}
use Rattle.shell_words.specs.Keyword.{spelled}
use Rattle.shell_words.specs.Form.{is_mark, is_of, names, given_by, FitsParts, parts_of, IsIn}
use Rattle.shell_words.specs.Form.{forms_of}
use Rattle.shell_words.specs.Pair.{tokens_before, front_words, back_words, words_behind_first, AreSides}
use Rattle.shell_words.proofs.FormTests.{disjoint, leads, runs, is_end, passes, is_the_mark, behind_mark, from_mark, from_words, have_sides, are_sides}
use Rattle.shell_words.proofs.FormFacts.{forms_sided}
use Rattle.shell_words.proofs.SymbolLemmas.{disjoint_sound, is_not, same_is}
use Rattle.shell_words.proofs.ApartLemmas.{all_at}

abbrev words_in : List Item → List (List ℕ)
words_in items = map (λ (item : Item). item.token.word) items

abbrev pub no_mark : keywords.Keyword → Item → Bool
no_mark mark item = not (is_mark mark item)

-- the first tokens are no marks, then comes one, and the words are those of the two sides
record Sided (mark : keywords.Keyword) (items : List Item) (words : List (List ℕ)) : Type 0 where
  front : List Item
  middle : Item
  back : List Item
  joined : items ≡ front ++ middle ∷ back
  none : list_all (no_mark mark) front ≡ true
  is : is_mark mark middle ≡ true
  given : words ≡ words_in front ++ words_in back
  some : 0 < length back

-- tokens of a symbol that names something give their words, and others give none
gives : (symbol : Symbol) (items : List Item) → names symbol ≡ true → given_by (names symbol) items ≡ words_in items
gives symbol items e = ap (λ t. given_by t items) e

gives_none : (symbol : Symbol) (items : List Item) → names symbol ≡ false → given_by (names symbol) items ≡ []
gives_none symbol items e = ap (λ t. given_by t items) e

not_true : (t : Bool) → not t ≡ true → t ≡ false
not_true true e = absurd (false≢true e)
not_true false e = refl

-- no token of the symbol is the mark
pub passes_by : (mark : keywords.Keyword) (symbol : Symbol) (item : Item) → disjoint symbol (Mark mark) ≡ true → is_of symbol item ≡ true → no_mark mark item ≡ true
passes_by mark symbol item e is = ap not (is_not (is_mark mark item) (λ marked. disjoint_sound symbol (Mark mark) item e is marked))

pub all_pass : (mark : keywords.Keyword) (symbol : Symbol) (items : List Item) → disjoint symbol (Mark mark) ≡ true → list_all (is_of symbol) items ≡ true → list_all (no_mark mark) items ≡ true
all_pass mark symbol [] e all = refl
all_pass mark symbol (item ∷ items) e all =
    let both = and_parts (is_of symbol item) (list_all (is_of symbol) items) all in
    and_from (no_mark mark item) (list_all (no_mark mark) items) (passes_by mark symbol item e both.0) (all_pass mark symbol items e both.1)

all_join : (mark : keywords.Keyword) (front back : List Item) → list_all (no_mark mark) front ≡ true → list_all (no_mark mark) back ≡ true → list_all (no_mark mark) (front ++ back) ≡ true
all_join mark [] back one other = other
all_join mark (item ∷ front) back one other =
    let both = and_parts (no_mark mark item) (list_all (no_mark mark) front) one in
    and_from (no_mark mark item) (list_all (no_mark mark) (front ++ back)) both.0 (all_join mark front back both.1 other)

words_join : (front back : List Item) → words_in (front ++ back) ≡ words_in front ++ words_in back
words_join [] back = refl
words_join (item ∷ front) back = ap (λ ws. item.token.word ∷ ws) (words_join front back)

-- no token is behind the end
none_behind : (parts : List Part) (items : List Item) (words : List (List ℕ)) → is_end parts ≡ true → FitsParts parts items words → (items ≡ []) × (words ≡ [])
none_behind [] items words e fit = fit
none_behind (Nothing ∷ parts) items words e fit = none_behind parts items words e fit
none_behind (One symbol ∷ parts) items words e fit = absurd (false≢true e)
none_behind (Many symbol ∷ parts) items words e fit = absurd (false≢true e)

-- the last words
last_words : (parts : List Part) (items : List Item) (words : List (List ℕ)) → runs names is_end parts ≡ true → FitsParts parts items words → words ≡ words_in items
last_words [] items words e fit = absurd (false≢true e)
last_words (Nothing ∷ parts) items words e fit = absurd (false≢true e)
last_words (One symbol ∷ parts) items words e fit = absurd (false≢true e)
last_words (Many symbol ∷ parts) items words e fit =
    let both = and_parts (names symbol) (is_end parts) e in
    let none = none_behind parts fit.rest fit.others both.1 fit.behind in
    let all : items ≡ fit.run = fit.joined ∙ ap (λ rest. fit.run ++ rest) none.0 ∙ append-nil fit.run in
    fit.given ∙ ap (λ others. given_by (names symbol) fit.run ++ others) none.1 ∙ append-nil (given_by (names symbol) fit.run) ∙ gives symbol fit.run both.0 ∙ ap words_in (sym all)

record Behind (items : List Item) (words : List (List ℕ)) : Type 0 where
  some : 0 < length items
  given : words ≡ words_in items

words_behind : (parts : List Part) (items : List Item) (words : List (List ℕ)) → behind_mark parts ≡ true → FitsParts parts items words → Behind items words
words_behind [] items words e fit = absurd (false≢true e)
words_behind (Nothing ∷ parts) items words e fit = absurd (false≢true e)
words_behind (One symbol ∷ parts) items words e fit =
    let both = and_parts (names symbol) (runs names is_end parts) e in
    record {
      some = subst (λ is. 0 < length is) (sym fit.joined) (omega arith);
      given = fit.given ∙ ap (λ ws. ws ++ fit.others) (gives symbol (fit.first ∷ []) both.0)
          ∙ ap (λ ws. fit.first.token.word ∷ ws) (last_words parts fit.rest fit.others both.1 fit.behind) ∙ ap words_in (sym fit.joined);
    }
words_behind (Many symbol ∷ parts) items words e fit = absurd (false≢true e)

mark_is : (mark : keywords.Keyword) (symbol : Symbol) (item : Item) → is_the_mark mark symbol ≡ true → is_of symbol item ≡ true → (is_mark mark item ≡ true) × (names symbol ≡ false)
mark_is mark (Mark other) item e is = (
  subst (λ word. (is_bare_kind item.token.kind && same_word word item.token.word) ≡ true) (sym (same_is (spelled mark) (spelled other) e)) is,
  refl,
)
mark_is mark (Keyword other) item e is = absurd (false≢true e)
mark_is mark Word item e is = absurd (false≢true e)
mark_is mark (Neither one other) item e is = absurd (false≢true e)
mark_is mark (Number low high) item e is = absurd (false≢true e)
mark_is mark Time item e is = absurd (false≢true e)
mark_is mark OpenBracket item e is = absurd (false≢true e)
mark_is mark CloseBracket item e is = absurd (false≢true e)

at_mark : (mark : keywords.Keyword) (parts : List Part) (items : List Item) (words : List (List ℕ)) → from_mark mark parts ≡ true → FitsParts parts items words → Sided mark items words
at_mark mark [] items words e fit = absurd (false≢true e)
at_mark mark (Nothing ∷ parts) items words e fit = absurd (false≢true e)
at_mark mark (One symbol ∷ parts) items words e fit =
    let both = and_parts (is_the_mark mark symbol) (behind_mark parts) e in
    let is = mark_is mark symbol fit.first both.0 fit.is in
    let behind = words_behind parts fit.rest fit.others both.1 fit.behind in
    record {
      front = [];
      middle = fit.first;
      back = fit.rest;
      joined = fit.joined;
      none = refl;
      is = is.0;
      given = fit.given ∙ ap (λ ws. ws ++ fit.others) (gives_none symbol (fit.first ∷ []) is.1) ∙ behind.given;
      some = behind.some;
    }
at_mark mark (Many symbol ∷ parts) items words e fit = absurd (false≢true e)

-- tokens that pass and name something stand before a mark
abbrev before_mark : (mark : keywords.Keyword) (symbol : Symbol) (run rest items : List Item) (words others : List (List ℕ)) → passes mark (λ named. named) symbol ≡ true → list_all (is_of symbol) run ≡ true → items ≡ run ++ rest → words ≡ given_by (names symbol) run ++ others → (on : Sided mark rest others) → Sided mark items words
before_mark mark symbol run rest items words others e all joined given on =
    let both = and_parts (disjoint symbol (Mark mark)) (names symbol) e in
    record {
      front = run ++ on.front;
      middle = on.middle;
      back = on.back;
      joined = joined ∙ ap (λ is. run ++ is) on.joined ∙ sym (append_assoc run on.front (on.middle ∷ on.back));
      none = all_join mark run on.front (all_pass mark symbol run both.0 all) on.none;
      is = on.is;
      given = given ∙ ap (λ ws. ws ++ others) (gives symbol run both.1) ∙ ap (λ ws. words_in run ++ ws) on.given
          ∙ sym (append_assoc (words_in run) (words_in on.front) (words_in on.back))
          ∙ ap (λ ws. ws ++ words_in on.back) (sym (words_join run on.front));
      some = on.some;
    }

in_words : (mark : keywords.Keyword) (parts : List Part) (items : List Item) (words : List (List ℕ)) → from_words mark parts ≡ true → FitsParts parts items words → Sided mark items words
in_words mark [] items words e fit = absurd (false≢true e)
in_words mark (Nothing ∷ parts) items words e fit = absurd (false≢true e)
in_words mark (One symbol ∷ parts) items words e fit = absurd (false≢true e)
in_words mark (Many symbol ∷ parts) items words e fit =
    let both = and_parts (passes mark (λ named. named) symbol) (from_mark mark parts) e in
    before_mark mark symbol fit.run fit.rest items words fit.others both.0 fit.all fit.joined fit.given
    (at_mark mark parts fit.rest fit.others both.1 fit.behind)

-- how many stand before the first mark
pub before_is : (mark : keywords.Keyword) (front back : List Item) (middle : Item) → list_all (no_mark mark) front ≡ true → is_mark mark middle ≡ true → tokens_before mark (front ++ middle ∷ back) ≡ length front
before_is mark [] back middle none is = ap (λ t. cond (not t) (1 + tokens_before mark back) 0) is
before_is mark (item ∷ front) back middle none is =
    let both = and_parts (no_mark mark item) (list_all (no_mark mark) front) none in
    ap (λ t. cond t (1 + tokens_before mark (front ++ middle ∷ back)) 0) both.0 ∙ omega (arith, before_is mark front back middle both.1 is)

-- a word, and further ones, stand before the mark
first_word : (mark : keywords.Keyword) (parts : List Part) (items : List Item) (words : List (List ℕ)) → leads (passes mark (λ named. named)) (from_words mark) parts ≡ true → FitsParts parts items words → (sided : Sided mark items words) × (0 < length sided.front)
first_word mark [] items words e fit = absurd (false≢true e)
first_word mark (Nothing ∷ parts) items words e fit = absurd (false≢true e)
first_word mark (One symbol ∷ parts) items words e fit =
    let both = and_parts (passes mark (λ named. named) symbol) (from_words mark parts) e in (
      before_mark mark symbol (fit.first ∷ []) fit.rest items words fit.others both.0 (and_from (is_of symbol fit.first) true fit.is refl) fit.joined fit.given
          (in_words mark parts fit.rest fit.others both.1 fit.behind),
      omega arith,
    )
first_word mark (Many symbol ∷ parts) items words e fit = absurd (false≢true e)

sides : (mark : keywords.Keyword) (parts : List Part) (items : List Item) (words : List (List ℕ)) → have_sides mark parts ≡ true → FitsParts parts items words → AreSides (front_words mark items) (back_words mark items) words
sides mark [] items words e fit = absurd (false≢true e)
sides mark (Nothing ∷ parts) items words e fit = absurd (false≢true e)
sides mark (One symbol ∷ parts) items words e fit =
    let both = and_parts (passes mark not symbol) (leads (passes mark (λ named. named)) (from_words mark) parts) e in
    let tests = and_parts (disjoint symbol (Mark mark)) (not (names symbol)) both.0 in
    let on = first_word mark parts fit.rest fit.others both.1 fit.behind in
    let front : List Item = fit.first ∷ on.0.front in
    let back : List Item = on.0.middle ∷ on.0.back in
    let joined : items ≡ front ++ back = fit.joined ∙ ap (λ is. fit.first ∷ is) on.0.joined in
    let none : list_all (no_mark mark) front ≡ true = and_from (no_mark mark fit.first) (list_all (no_mark mark) on.0.front) (passes_by mark symbol fit.first tests.0 fit.is) on.0.none in
    let size : tokens_before mark items ≡ length front = ap (tokens_before mark) joined ∙ before_is mark front on.0.back on.0.middle none on.0.is in
    let before : front_words mark items ≡ words_in on.0.front = ap words_behind_first (ap (take (tokens_before mark items)) joined ∙ take_at front back (tokens_before mark items) (sym size)) in
    let behind : back_words mark items ≡ words_in on.0.back = ap words_behind_first (ap (drop (tokens_before mark items)) joined ∙ drop_at front back (tokens_before mark items) (sym size)) in
    let given : words ≡ words_in on.0.front ++ words_in on.0.back = fit.given ∙ ap (λ ws. ws ++ fit.others) (gives_none symbol (fit.first ∷ []) (not_true (names symbol) tests.1)) ∙ on.0.given in
    record {
      some_front = subst (λ ws. 0 < length ws) (sym before) (omega (arith, on.1, length-map on.0.front (λ (item : Item). item.token.word)));
      some_back = subst (λ ws. 0 < length ws) (sym behind) (omega (arith, on.0.some, length-map on.0.back (λ (item : Item). item.token.word)));
      joined = given ∙ ap (λ ws. ws ++ words_in on.0.back) (sym before) ∙ ap (λ ws. front_words mark items ++ ws) (sym behind);
    }
sides mark (Many symbol ∷ parts) items words e fit = absurd (false≢true e)

pub two_sides : (configuring : Bool) (items : List Item) (form : CommandForm) (words : List (List ℕ)) (mover : Mover) → IsIn configuring items form words → form.makes ≡ Move mover → AreSides (front_words (key.Mark mover) items) (back_words (key.Mark mover) items) words
two_sides configuring items form words mover line makes =
    let tested = all_at (λ (each : CommandForm). are_sides each.makes (parts_of each)) (forms_of configuring) form (forms_sided configuring) line.served in
    sides (key.Mark mover) (parts_of form) items words (subst (λ made. are_sides made (parts_of form) ≡ true) makes tested) line.fits
