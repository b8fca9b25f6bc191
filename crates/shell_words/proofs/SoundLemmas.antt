-- The words of a line are of printing bytes, and the commands that lines ask are sound.
use Rattle.std.proofs.Common.{◌≡◌, ◌≤◌, ◌-◌, ℕ, zero, suc, List, [], ◌∷◌, ◌++◌, length, map, get_or, Bool, true, false, cond, not, ◌&&◌, ◌||◌, eqb, leb, Option, None, Some, Result, Ok, Err, inl, inr, refl, sym, ap, subst, ◌∙◌, arith}
use Rattle.std.specs.List.{list_all, AllByRecursion}
use Rattle.std.specs.Prelude.{unwrap_or, IfOk}
use Rattle.std.proofs.lemmas.Bool.{false≢true, and_parts, and_from, or_cases, eqb-true}
use Rattle.std.proofs.lemmas.Bool.Decides.{nat_tests}
use Rattle.std.proofs.lemmas.List.Folds.{list_all-append}
use Rattle.cfg_lex.specs.declared.fault.LexFault.{LexFault}
use Rattle.cfg_lex.specs.declared.token.Token.{Token}
use Rattle.cfg_lex.specs.declared.token.TokenKind.{TokenKind}
use Rattle.cfg_lex.specs.Bytes.{is_bare, is_in_run, is_run, is_angle_byte, is_printing, read_byte, is_escape, unescaped, begins_with}
use Rattle.cfg_lex.specs.Lexed.{is_word_kind}
use Rattle.cfg_lex.specs.Lexeme.{Lexeme, Space, LineComment, Comment, Sign, BareWord, AngleWord, QuotedWord, kind_of, word_of, Stands, BeginsWith}
use Rattle.cfg_lex.specs.Printed.{IsPrintable}
use Rattle.cfg_lex.specs.Tokens.{word_in, word_at, words_of, IsTokens, IsCut}
use Rattle.cfg_lex.proofs.WordLemmas.{words_are}
use Rattle.shell_words.specs.declared.form.Confirmed.{Confirmed}
use Rattle.shell_words.specs.declared.form.Confirmed.TheVariants.{No, InTen, InMinutes}
use Rattle.shell_words.specs.declared.form.Makes.{Makes}
use Rattle.shell_words.specs.declared.form.Makes.TheVariants as makes
use Rattle.shell_words.specs.declared.form.Symbol.{Symbol}
use Rattle.shell_words.specs.declared.form.Symbol.TheVariants.{Keyword, Mark, Word, Neither, Number, Time, OpenBracket, CloseBracket}
use Rattle.shell_words.specs.declared.form.Part.{Part}
use Rattle.shell_words.specs.declared.form.Part.TheVariants.{Nothing, One, Many}
use Rattle.shell_words.specs.declared.form.CommandForm.{CommandForm}
use Rattle.shell_words.specs.declared.making.Words0.{Words0}
use Rattle.shell_words.specs.declared.reader.ReadFault.{ReadFault}
use Rattle.shell_words.specs.Item.{Item, item_in}
use Rattle.shell_words.specs.Form.{is_of, names, given_by, parts_of, FitsParts, forms_of, IsIn}
use Rattle.shell_words.specs.Number.{number_of, is_between}
use Rattle.shell_words.specs.Made.{number_or, minutes_in, comment_in, made_by, AsksSound}
use Rattle.shell_words.specs.Reading.{AnswersWhole, Answers, IsReading, Gives}
use Rattle.shell_words.proofs.FormTests.{leads, are_timed, from_minutes, is_unnamed, is_minutes}
use Rattle.shell_words.proofs.FormFacts.{forms_timed}
use Rattle.shell_words.proofs.ApartLemmas.{all_at}
use Rattle.shell_words.proofs.TimeLemmas.{time_sound}

-- bytes that are all printing
abbrev ArePrinting : List ℕ → Type 0
ArePrinting bytes = list_all is_printing bytes ≡ true

both_printing : (front back : List ℕ) → ArePrinting front → ArePrinting back → ArePrinting (front ++ back)
both_printing front back one other = list_all-append is_printing front back ∙ and_from (list_all is_printing front) (list_all is_printing back) one other

bare_printing : (b : ℕ) → is_bare b ≡ true → is_printing b ≡ true
bare_printing b e =
    let range = and_parts (leb 33 b) (leb b 126) (and_parts (leb 33 b && leb b 126) (not (eqb b 123 || (eqb b 125 || (eqb b 91 || (eqb b 93 || (eqb b 59 || (eqb b 34 || (eqb b 35 || (eqb b 92 || (eqb b 60 || eqb b 62)))))))))) e).0 in
    and_from (leb 32 b) (leb b 126) (grind (arith, nat_tests, range.0)) range.1

run_printing : (bytes : List ℕ) → is_run bytes ≡ true → ArePrinting bytes
run_printing [] e = refl
run_printing (b ∷ bytes) e =
    let both = and_parts (is_in_run b bytes) (is_run bytes) e in
    and_from (is_printing b) (list_all is_printing bytes) (bare_printing b (and_parts (is_bare b) (not (eqb b 47 && begins_with 42 bytes)) both.0).0) (run_printing bytes both.1)

angle_printing : (b : ℕ) → is_angle_byte b ≡ true → is_printing b ≡ true
angle_printing b e =
    elim (or_cases (is_bare b) (eqb b 91 || eqb b 93) e) as (λ w. is_printing b ≡ true) [
      | inl bare ↦ bare_printing b bare
      | inr bracket ↦
          elim (or_cases (eqb b 91) (eqb b 93) bracket) as (λ w. is_printing b ≡ true) [
            | inl first ↦ ap is_printing (eqb-true b 91 first)
            | inr last ↦ ap is_printing (eqb-true b 93 last)
          ]
    ]

angles_printing : (bytes : List ℕ) → list_all is_angle_byte bytes ≡ true → ArePrinting bytes
angles_printing [] e = refl
angles_printing (b ∷ bytes) e =
    let both = and_parts (is_angle_byte b) (list_all is_angle_byte bytes) e in
    and_from (is_printing b) (list_all is_printing bytes) (angle_printing b both.0) (angles_printing bytes both.1)

-- what a byte in quotes stands for
read_printing : (backslash : Bool) (b : ℕ) → is_printing b ≡ true → ArePrinting (read_byte backslash b)
read_printing true b e = by_test (eqb b 34 || eqb b 92)
  where
    by_test : (t : Bool) → ArePrinting (cond t (b ∷ []) (92 ∷ b ∷ []))
    by_test true = and_from (is_printing b) true e refl
    by_test false = and_from (is_printing b) true e refl
read_printing false b e = by_test (eqb b 92)
  where
    by_test : (t : Bool) → ArePrinting (cond t [] (b ∷ []))
    by_test true = refl
    by_test false = and_from (is_printing b) true e refl

unescaped_printing : (backslash : Bool) (bytes : List ℕ) → ArePrinting bytes → ArePrinting (unescaped backslash bytes)
unescaped_printing true [] e = refl
unescaped_printing false [] e = refl
unescaped_printing backslash (b ∷ bytes) e =
    let both = and_parts (is_printing b) (list_all is_printing bytes) e in
    both_printing (read_byte backslash b) (unescaped (is_escape backslash b) bytes) (read_printing backslash b both.0) (unescaped_printing (is_escape backslash b) bytes both.1)

-- the word of a lexeme
lexeme_printable : (lexeme : Lexeme) (rest : List ℕ) → Stands lexeme rest → IsPrintable (word_of lexeme)
lexeme_printable (Space byte) rest stands = record { short = omega arith; printing = refl }
lexeme_printable (LineComment bytes) rest stands = record { short = omega arith; printing = refl }
lexeme_printable (Comment bytes) rest stands = record { short = omega arith; printing = refl }
lexeme_printable (Sign byte kind) rest stands = record { short = omega arith; printing = refl }
lexeme_printable (BareWord bytes) rest stands = record { short = stands.short; printing = run_printing bytes stands.shaped.1 }
lexeme_printable (AngleWord bytes) rest stands =
    record { short = stands.short; printing = both_printing bytes (62 ∷ []) (angles_printing bytes stands.shaped.1) refl }
lexeme_printable (QuotedWord bytes) rest stands = record { short = stands.short; printing = unescaped_printing false bytes stands.printing }

-- words that are all printable
abbrev ArePrintable : List (List ℕ) → Type 0
ArePrintable words = AllByRecursion IsPrintable words

lexemes_printable : (lexemes : List Lexeme) (text rest : List ℕ) → BeginsWith lexemes text rest → ArePrintable (words_of lexemes)
lexemes_printable [] text rest begins = tt
lexemes_printable (lexeme ∷ lexemes) text rest begins =
    by_kind (kind_of lexeme) (lexeme_printable lexeme begins.0 begins.2) (lexemes_printable lexemes begins.0 rest begins.3)
  where
    by_kind : (kind : Option TokenKind) → IsPrintable (word_of lexeme) → ArePrintable (words_of lexemes) → ArePrintable (word_at kind (word_of lexeme) ++ words_of lexemes)
    by_kind None first others = others
    by_kind (Some kind) first others = (first, others)

-- the words of tokens, taken one by one
abbrev words_in : List Item → List (List ℕ)
words_in items = map (λ (item : Item). item.token.word) items

item_words : (line : List ℕ) (tokens : List Token) → words_in (map (item_in line) tokens) ≡ map (word_in line) tokens
item_words line [] = refl
item_words line (token ∷ tokens) = ap (λ words. word_in line token ∷ words) (item_words line tokens)

items_printable : (line : List ℕ) (tokens : List Token) → IsTokens line tokens → ArePrintable (words_in (map (item_in line) tokens))
items_printable line tokens is =
    subst ArePrintable (sym (item_words line tokens ∙ ap (map (word_in line)) is.listed ∙ words_are line [] is.lexemes is.whole))
    (lexemes_printable is.lexemes line [] is.whole)

split_printable : (front back : List Item) → ArePrintable (words_in (front ++ back)) → ArePrintable (words_in front) × ArePrintable (words_in back)
split_printable [] back all = (tt, all)
split_printable (item ∷ front) back all = let rest = split_printable front back all.1 in ((all.0, rest.0), rest.1)

join_printable : (front back : List (List ℕ)) → ArePrintable front → ArePrintable back → ArePrintable (front ++ back)
join_printable [] back one other = other
join_printable (word ∷ front) back one other = (one.0, join_printable front back one.1 other)

given_printable : (named : Bool) (items : List Item) → ArePrintable (words_in items) → ArePrintable (given_by named items)
given_printable true items all = all
given_printable false items all = tt

-- what a form is given are words of the line
fit_printable : (parts : List Part) (items : List Item) (words : List (List ℕ)) → ArePrintable (words_in items) → FitsParts parts items words → ArePrintable words
fit_printable [] items words all fit = subst ArePrintable (sym fit.1) tt
fit_printable (Nothing ∷ parts) items words all fit = fit_printable parts items words all fit
fit_printable (One symbol ∷ parts) items words all fit =
    let both = split_printable (fit.first ∷ []) fit.rest (subst (λ is. ArePrintable (words_in is)) fit.joined all) in
    subst ArePrintable (sym fit.given)
    (join_printable (given_by (names symbol) (fit.first ∷ [])) fit.others (given_printable (names symbol) (fit.first ∷ []) both.0) (fit_printable parts fit.rest fit.others both.1 fit.behind))
fit_printable (Many symbol ∷ parts) items words all fit =
    let both = split_printable fit.run fit.rest (subst (λ is. ArePrintable (words_in is)) fit.joined all) in
    subst ArePrintable (sym fit.given)
    (join_printable (given_by (names symbol) fit.run) fit.others (given_printable (names symbol) fit.run both.0) (fit_printable parts fit.rest fit.others both.1 fit.behind))

word_printable : (words : List (List ℕ)) (place : ℕ) → ArePrintable words → IsPrintable (get_or words place [])
word_printable [] place all = record { short = omega arith; printing = refl }
word_printable (word ∷ words) zero all = all.0
word_printable (word ∷ words) (suc place) all = word_printable words place all.1

comment_printable : (comment : Bool) (words : List (List ℕ)) → ArePrintable words → IsPrintable (comment_in comment words)
comment_printable true words all = word_printable words (length words - 1) all
comment_printable false words all = record { short = omega arith; printing = refl }

-- a part that names nothing gives no word
behind_unnamed : (rest : List Part → Bool) (Goal : List (List ℕ) → Type 0) → ((parts : List Part) (items : List Item) (words : List (List ℕ)) → rest parts ≡ true → FitsParts parts items words → Goal words) → (parts : List Part) (items : List Item) (words : List (List ℕ)) → leads is_unnamed rest parts ≡ true → FitsParts parts items words → Goal words
behind_unnamed rest Goal on [] items words e fit = absurd (false≢true e)
behind_unnamed rest Goal on (Nothing ∷ parts) items words e fit = absurd (false≢true e)
behind_unnamed rest Goal on (One symbol ∷ parts) items words e fit =
    let both = and_parts (is_unnamed symbol) (rest parts) e in
    subst Goal (sym (fit.given ∙ ap (λ given. given ++ fit.others) (none (names symbol) both.0))) (on parts fit.rest fit.others both.1 fit.behind)
  where
    none : (named : Bool) → not named ≡ true → given_by named (fit.first ∷ []) ≡ []
    none true e = absurd (false≢true e)
    none false e = refl
behind_unnamed rest Goal on (Many symbol ∷ parts) items words e fit = absurd (false≢true e)

abbrev AreMinutes : List (List ℕ) → Type 0
AreMinutes words = number_or 10 words ≤ 65535

between_minutes : (low high : ℕ) (number : Option ℕ) → leb high 65535 ≡ true → is_between low high number ≡ true → unwrap_or number 10 ≤ 65535
between_minutes low high None small e = omega arith
between_minutes low high (Some number) small e =
    let range = and_parts (leb low number) (leb number high) e in
    grind (arith, nat_tests, range.1, small)

-- a number of minutes is small
minutes_small : (symbol : Symbol) (item : Item) (others : List (List ℕ)) → is_minutes symbol ≡ true → is_of symbol item ≡ true → AreMinutes (given_by (names symbol) (item ∷ []) ++ others)
minutes_small (Number low high) item others e is =
    between_minutes low high (number_of item.token.word) e (and_parts (is_word_kind item.token.kind) (is_between low high (number_of item.token.word)) is).1
minutes_small (Keyword keyword) item others e is = absurd (false≢true e)
minutes_small (Mark keyword) item others e is = absurd (false≢true e)
minutes_small Word item others e is = absurd (false≢true e)
minutes_small (Neither one other) item others e is = absurd (false≢true e)
minutes_small Time item others e is = absurd (false≢true e)
minutes_small OpenBracket item others e is = absurd (false≢true e)
minutes_small CloseBracket item others e is = absurd (false≢true e)

first_minutes : (parts : List Part) (items : List Item) (words : List (List ℕ)) → leads is_minutes (λ others. true) parts ≡ true → FitsParts parts items words → AreMinutes words
first_minutes [] items words e fit = absurd (false≢true e)
first_minutes (Nothing ∷ parts) items words e fit = absurd (false≢true e)
first_minutes (One symbol ∷ parts) items words e fit =
    subst AreMinutes (sym fit.given) (minutes_small symbol fit.first fit.others (and_parts (is_minutes symbol) true e).0 fit.is)
first_minutes (Many symbol ∷ parts) items words e fit = absurd (false≢true e)

second_minutes : (parts : List Part) (items : List Item) (words : List (List ℕ)) → from_minutes parts ≡ true → FitsParts parts items words → AreMinutes words
second_minutes parts items words e fit = behind_unnamed (leads is_minutes (λ others. true)) AreMinutes first_minutes parts items words e fit

-- the minutes of a commit are after its two keywords, or three of one that is synchronized
third_minutes : (parts : List Part) (items : List Item) (words : List (List ℕ)) → leads is_unnamed from_minutes parts ≡ true → FitsParts parts items words → AreMinutes words
third_minutes parts items words e fit = behind_unnamed from_minutes AreMinutes second_minutes parts items words e fit

minutes_sound : (confirmed : Confirmed) (comment quit : Bool) (parts : List Part) (items : List Item) (words : List (List ℕ)) → are_timed (makes.Commit confirmed comment quit) parts ≡ true → FitsParts parts items words → minutes_in confirmed words ≤ 65535
minutes_sound No comment quit parts items words e fit = omega arith
minutes_sound InTen comment quit parts items words e fit = omega arith
minutes_sound InMinutes comment quit parts items words e fit = third_minutes parts items words e fit

synced_sound : (confirmed : Confirmed) (comment quit : Bool) (parts : List Part) (items : List Item) (words : List (List ℕ)) → are_timed (makes.Synchronize confirmed comment quit) parts ≡ true → FitsParts parts items words → minutes_in confirmed words ≤ 65535
synced_sound No comment quit parts items words e fit = omega arith
synced_sound InTen comment quit parts items words e fit = omega arith
synced_sound InMinutes comment quit parts items words e fit = behind_unnamed (leads is_unnamed from_minutes) AreMinutes third_minutes parts items words e fit

-- what a form makes of a line is sound
made_sound : (made : Makes) (parts : List Part) (items : List Item) (words : List (List ℕ)) → are_timed made parts ≡ true → ArePrintable (words_in items) → FitsParts parts items words → AsksSound (Some (made_by made items words))
made_sound (makes.Configure mode) parts items words e all fit = tt
made_sound (makes.ShowActive form) parts items words e all fit = tt
made_sound makes.ShowJson parts items words e all fit = tt
made_sound makes.ShowCommits parts items words e all fit = tt
made_sound makes.ClearCommit parts items words e all fit = tt
made_sound makes.Logout parts items words e all fit = tt
made_sound (makes.Change verb) parts items words e all fit = tt
made_sound (makes.Move mover) parts items words e all fit = tt
made_sound makes.Edit parts items words e all fit = tt
made_sound makes.Up parts items words e all fit = tt
made_sound makes.Top parts items words e all fit = tt
made_sound makes.Exit parts items words e all fit = tt
made_sound makes.ExitAll parts items words e all fit = tt
made_sound (makes.Show form) parts items words e all fit = tt
made_sound (makes.Load way) parts items words e all fit = tt
made_sound (makes.LoadJson way) parts items words e all fit = tt
made_sound makes.Rollback parts items words e all fit = tt
made_sound makes.CheckOnly parts items words e all fit = tt
made_sound (makes.Commit confirmed comment quit) parts items words e all fit = (
  minutes_sound confirmed comment quit parts items words e fit,
  comment_printable comment words (fit_printable parts items words all fit),
)
made_sound (makes.Synchronize confirmed comment quit) parts items words e all fit = (
  synced_sound confirmed comment quit parts items words e fit,
  comment_printable comment words (fit_printable parts items words all fit),
)
made_sound (makes.CommitAt comment) parts items words e all fit = (time_sound words, comment_printable comment words (fit_printable parts items words all fit))
made_sound makes.Update parts items words e all fit = tt
made_sound makes.Status parts items words e all fit = tt

line_sound : (configuring : Bool) (items : List Item) (form : CommandForm) (words : List (List ℕ)) → IsIn configuring items form words → ArePrintable (words_in items) → AsksSound (Some (made_by form.makes items words))
line_sound configuring items form words line all =
    let timed = all_at (λ (each : CommandForm). are_timed each.makes (parts_of each)) (forms_of configuring) form (forms_timed configuring) line.served in
    made_sound form.makes (parts_of form) items words timed all line.fits

-- what is asked is what the form makes
abbrev answer_of : Option Words0 → Result (Option Words0) ℕ
answer_of made = Ok made

asked_sound : (made : Option Words0) (other : Words0) → answer_of made ≡ answer_of (Some other) → AsksSound (Some other) → AsksSound made
asked_sound made other e sound = let same : Some other ≡ made = cc in subst AsksSound same sound

whole_sound : (configuring : Bool) (items : List Item) (end : ℕ) (made : Option Words0) → ArePrintable (words_in items) → AnswersWhole configuring items end (Ok made) → AsksSound made
whole_sound configuring [] end made all answers = let none : None ≡ made = cc in subst AsksSound none tt
whole_sound configuring (item ∷ items) end made all (inl asks) =
    asked_sound made (made_by asks.form.makes (item ∷ items) asks.words) asks.is (line_sound configuring (item ∷ items) asks.form asks.words asks.line all)
whole_sound configuring (item ∷ items) end made all (inr misfit) = let is = misfit.1.is in absurd cc

answer_sound : (configuring : Bool) (line : List ℕ) (tokens : List Token) (fault : Option LexFault) (made : Option Words0) → IsCut line tokens fault → Answers configuring (map (item_in line) tokens) fault (length line) (Ok made) → AsksSound made
answer_sound configuring line tokens None made cut answers =
    whole_sound configuring (map (item_in line) tokens) (length line) made (items_printable line tokens cut) answers
answer_sound configuring line tokens (Some fault) made cut misfit = let is = misfit.is in absurd cc

pub reading_sound : (configuring : Bool) (line : List ℕ) (made : Option Words0) → IsReading configuring line (Ok made) → AsksSound made
reading_sound configuring line made reading = answer_sound configuring line reading.tokens reading.fault made reading.cut reading.answers

-- what a reader of the line answers is sound
pub result_sound : (configuring : Bool) (line : List ℕ) (result : Result (Option Words0) ReadFault) → Gives (IsReading configuring line) result → IfOk result AsksSound
result_sound configuring line (Ok made) gives = reading_sound configuring line made gives
result_sound configuring line (Err fault) gives = tt
