-- Printed lines are read as what they ask for.
use Rattle.std.proofs.Common.{◌≡◌, ◌<◌, ◌≤◌, ◌+◌, ℕ, Bool, true, false, cond, eqb, ◌||◌, List, [], ◌∷◌, ◌++◌, length, map as each, filter, flat_map, Option, None, Some, inl, inr, refl, sym, ap, subst, ◌∙◌, arith, append_assoc, if◌then◌else◌}
use Rattle.std.specs.List.{list_all, AllByRecursion}
use Rattle.std.proofs.lemmas.Bool.{and_parts, and_from}
use Rattle.std.proofs.lemmas.Bool.Decides.{nat_tests}
use Rattle.std.proofs.lemmas.List.Folds.{list_all-append}
use Rattle.cfg_base.specs.Bytes.{without_last_cr}
use Rattle.cfg_lex.specs.declared.token.Token.{Token}
use Rattle.cfg_lex.specs.declared.token.TokenKind.{TokenKind}
use Rattle.cfg_lex.specs.declared.token.TokenKind.TheVariants as kind
use Rattle.cfg_lex.specs.Bytes.{is_in_line, is_printing, is_run, goes_on}
use Rattle.cfg_lex.specs.Lexeme.{Lexeme, Space, BareWord, spelled, kind_of, word_of, BeginsWith}
use Rattle.cfg_lex.specs.Tokens.{token_at, tokens_at, word_in, word_at, words_of}
use Rattle.cfg_lex.specs.Printed.{escaped, is_plain, printed_kind, printed_word, IsPrintable}
use Rattle.cfg_lex.proofs.WordLemmas.{printed_as, words_are}
use Rattle.set_text.specs.declared.form.Form.TheVariants.{OneList}
use Rattle.commands.specs.declared.verb.Verb.{Verb}
use Rattle.commands.specs.declared.verb.Verb.TheVariants.{Set, Delete, Activate, Deactivate, Protect, Unprotect}
use Rattle.set_text.specs.Printed.{Line, spaced, printed_lines}
use Rattle.commands.specs.Verb.{keyword, op_of}
use Rattle.cfg_lex.specs.Lexed.{Lexed, is_word_kind}
use Rattle.set_text.specs.Form.{form_of, parts_in, kinds_of, IsPlain, IsTail, words_among, Spells}
use Rattle.set_text.specs.Lines.{lines_in, AsksChange, AreRead, AsksFor}
use Rattle.set_text.specs.Back.{changes_of, IsReadable, AreReadable}
use Rattle.set_text.proofs.CutLemmas.{line_ended, without_cr_more}

-- a line without its LF
abbrev body : Line → List ℕ
body it = keyword it.verb ++ flat_map spaced it.words

all_both : (xs ys : List ℕ) (test : ℕ → Bool) → list_all test xs ≡ true → list_all test ys ≡ true → list_all test (xs ++ ys) ≡ true
all_both xs ys test h k = list_all-append test xs ys ∙ and_from (list_all test xs) (list_all test ys) h k

-- the bytes of a printed word
escaped_printing : (b : ℕ) → is_printing b ≡ true → list_all is_printing (escaped b) ≡ true
escaped_printing b printing = by_test (eqb b 34 || eqb b 92)
  where
    by_test : (t : Bool) → list_all is_printing (if t then 92 ∷ b ∷ [] else b ∷ []) ≡ true
    by_test true = and_from (is_printing b) true printing refl
    by_test false = and_from (is_printing b) true printing refl

all_escaped : (bytes : List ℕ) → list_all is_printing bytes ≡ true → list_all is_printing (flat_map escaped bytes) ≡ true
all_escaped [] h = refl
all_escaped (b ∷ bytes) h =
    let parts = and_parts (is_printing b) (list_all is_printing bytes) h in
    all_both (escaped b) (flat_map escaped bytes) is_printing (escaped_printing b parts.0) (all_escaped bytes parts.1)

word_printing : (word : List ℕ) → IsPrintable word → list_all is_printing (printed_word word) ≡ true
word_printing word printable = by_plain (is_plain word)
  where
    by_plain : (t : Bool) → list_all is_printing (if t then word else 34 ∷ (flat_map escaped word ++ 34 ∷ [])) ≡ true
    by_plain true = printable.printing
    by_plain false = all_both (flat_map escaped word) (34 ∷ []) is_printing (all_escaped word printable.printing) refl

words_printing : (words : List (List ℕ)) → AllByRecursion IsPrintable words → list_all is_printing (flat_map spaced words) ≡ true
words_printing [] h = refl
words_printing (w ∷ words) h = all_both (printed_word w) (flat_map spaced words) is_printing (word_printing w h.0) (words_printing words h.1)

-- what is known of each keyword
record IsKeyword (verb : Verb) : Type 0 where
  some : 0 < length (keyword verb)
  run : is_run (keyword verb) ≡ true
  short : length (keyword verb) ≤ 255
  printing : list_all is_printing (keyword verb) ≡ true
  brackets : Bool
  begun : form_of (keyword verb) ≡ Some (OneList verb brackets)

keyword_is : (verb : Verb) → IsKeyword verb
keyword_is Set = record { some = omega arith; run = refl; short = omega arith; printing = refl; brackets = true; begun = refl }
keyword_is Delete = record { some = omega arith; run = refl; short = omega arith; printing = refl; brackets = true; begun = refl }
keyword_is Activate = record { some = omega arith; run = refl; short = omega arith; printing = refl; brackets = false; begun = refl }
keyword_is Deactivate = record { some = omega arith; run = refl; short = omega arith; printing = refl; brackets = false; begun = refl }
keyword_is Protect = record { some = omega arith; run = refl; short = omega arith; printing = refl; brackets = false; begun = refl }
keyword_is Unprotect = record { some = omega arith; run = refl; short = omega arith; printing = refl; brackets = false; begun = refl }

-- printing bytes have no line end among them
printing_in_line : (b : ℕ) → is_printing b ≡ true → is_in_line b ≡ true
printing_in_line b h = grind (arith, nat_tests)

no_cr : (b : ℕ) → is_printing b ≡ true → eqb b 13 ≡ false
no_cr b h = grind (arith, nat_tests)

all_in_line : (bytes : List ℕ) → list_all is_printing bytes ≡ true → list_all is_in_line bytes ≡ true
all_in_line [] h = refl
all_in_line (b ∷ bytes) h =
    let parts = and_parts (is_printing b) (list_all is_printing bytes) h in
    and_from (is_in_line b) (list_all is_in_line bytes) (printing_in_line b parts.0) (all_in_line bytes parts.1)

whole_line : (bytes : List ℕ) → list_all is_printing bytes ≡ true → without_last_cr bytes ≡ bytes
whole_line [] h = refl
whole_line (b ∷ []) h = ap (λ (t : Bool). cond t [] (b ∷ [])) (no_cr b (and_parts (is_printing b) true h).0)
whole_line (b ∷ c ∷ bytes) h =
    without_cr_more b c bytes ∙ ap (λ (line : List ℕ). b ∷ line) (whole_line (c ∷ bytes) (and_parts (is_printing b) (list_all is_printing (c ∷ bytes)) h).1)

body_printing : (it : Line) → IsReadable it → list_all is_printing (body it) ≡ true
body_printing it readable = all_both (keyword it.verb) (flat_map spaced it.words) is_printing (keyword_is it.verb).printing (words_printing it.words readable.words)

-- printed lines are cut where they were joined
printed_cut : (lines : List Line) → AreReadable lines → lines_in (printed_lines lines) ≡ each body lines
printed_cut [] readable = refl
printed_cut (it ∷ lines) readable =
    ap lines_in
    (append_assoc (keyword it.verb) (flat_map spaced it.words ++ 10 ∷ []) (printed_lines lines)
    ∙ ap (λ (bytes : List ℕ). keyword it.verb ++ bytes) (append_assoc (flat_map spaced it.words) (10 ∷ []) (printed_lines lines))
    ∙ sym (append_assoc (keyword it.verb) (flat_map spaced it.words) (10 ∷ printed_lines lines)))
    ∙ line_ended (body it) (printed_lines lines) (all_in_line (body it) (body_printing it readable.0))
    ∙ ap (λ (line : List ℕ). line ∷ lines_in (printed_lines lines)) (whole_line (body it) (body_printing it readable.0))
    ∙ ap (λ (ls : List (List ℕ)). body it ∷ ls) (printed_cut lines readable.1)

-- the kinds of the tokens among lexemes
abbrev kind_at : Option TokenKind → List TokenKind
kind_at None = []
kind_at (Some k) = k ∷ []

abbrev kinds_among : List Lexeme → List TokenKind
kinds_among [] = []
kinds_among (lexeme ∷ lexemes) = kind_at (kind_of lexeme) ++ kinds_among lexemes

token_kinds : (place : ℕ) (lexemes : List Lexeme) → each (λ (t : Token). t.kind) (tokens_at place lexemes) ≡ kinds_among lexemes
token_kinds place [] = refl
token_kinds place (x ∷ xs) = by_kind (kind_of x) (token_kinds (place + length (spelled x)) xs)
  where
    by_kind : (k : Option TokenKind) → each (λ (t : Token). t.kind) (tokens_at (place + length (spelled x)) xs) ≡ kinds_among xs
        → each (λ (t : Token). t.kind) (token_at k place (length (spelled x)) ++ tokens_at (place + length (spelled x)) xs) ≡ kind_at k ++ kinds_among xs
    by_kind None go = go
    by_kind (Some k) go = ap (λ (ks : List TokenKind). k ∷ ks) go

-- spaced words are read as these words
record AreLexed (words : List (List ℕ)) : Type 0 where
  lexemes : List Lexeme
  begins : BeginsWith lexemes (flat_map spaced words) []
  kinds : kinds_among lexemes ≡ each printed_kind words
  means : words_of lexemes ≡ words

stops : (words : List (List ℕ)) → goes_on (flat_map spaced words) ≡ false
stops [] = refl
stops (w ∷ words) = refl

words_lexed : (words : List (List ℕ)) → AllByRecursion IsPrintable words → AreLexed words
words_lexed [] h = record { lexemes = []; begins = refl; kinds = refl; means = refl }
words_lexed (w ∷ words) h =
    let rest = words_lexed words h.1 in
    let one = printed_as w (flat_map spaced words) h.0 (stops words) in
    record {
      lexemes = Space 32 ∷ one.0 ∷ rest.lexemes;
      begins = (
        printed_word w ++ flat_map spaced words,
        refl,
        record { shaped = refl; short = omega arith; printing = tt },
        (flat_map spaced words, ap (λ (bytes : List ℕ). bytes ++ flat_map spaced words) (sym one.1.spells), one.1.stands, rest.begins),
      );
      kinds = ap (λ (k : Option TokenKind). kind_at k ++ kinds_among rest.lexemes) one.1.kind ∙ ap (λ (ks : List TokenKind). printed_kind w ∷ ks) rest.kinds;
      means =
          ap (λ (k : Option TokenKind). word_at k (word_of one.0) ++ words_of rest.lexemes) one.1.kind
          ∙ ap (λ (v : List ℕ). v ∷ words_of rest.lexemes) one.1.means
          ∙ ap (λ (ws : List (List ℕ)). w ∷ ws) rest.means;
    }

abbrev word_part : List ℕ → Lexed
word_part word = record { kind = printed_kind word; word = word }

same_parts : (tokens : List Token) (text : List ℕ) (parts : List Lexed) → each (λ (t : Token). t.kind) tokens ≡ kinds_of parts → each (word_in text) tokens ≡ each (λ (p : Lexed). p.word) parts → parts_in text tokens ≡ parts
same_parts [] text [] e f = refl
same_parts [] text (p ∷ parts) e f = cc
same_parts (t ∷ tokens) text [] e f = cc
same_parts (t ∷ tokens) text (p ∷ parts) e f =
    let kinds : (t.kind ≡ p.kind) × (each (λ (u : Token). u.kind) tokens ≡ kinds_of parts) = (cc, cc) in
    let words : (word_in text t ≡ p.word) × (each (word_in text) tokens ≡ each (λ (q : Lexed). q.word) parts) = (cc, cc) in
    ap (λ (k : TokenKind). record { kind = k; word = word_in text t } ∷ parts_in text tokens) kinds.0
    ∙ ap (λ (w : List ℕ). record { kind = p.kind; word = w } ∷ parts_in text tokens) words.0
    ∙ ap (λ (ps : List Lexed). p ∷ ps) (same_parts tokens text parts kinds.1 words.1)

printed_is_word : (word : List ℕ) → is_word_kind (printed_kind word) ≡ true
printed_is_word word = by_plain (is_plain word)
  where
    by_plain : (t : Bool) → is_word_kind (if t then kind.Bare else kind.Quoted) ≡ true
    by_plain true = refl
    by_plain false = refl

part_kinds : (words : List (List ℕ)) → kinds_of (each word_part words) ≡ each printed_kind words
part_kinds [] = refl
part_kinds (w ∷ words) = ap (λ (ks : List TokenKind). printed_kind w ∷ ks) (part_kinds words)

part_words : (words : List (List ℕ)) → each (λ (p : Lexed). p.word) (each word_part words) ≡ words
part_words [] = refl
part_words (w ∷ words) = ap (λ (ws : List (List ℕ)). w ∷ ws) (part_words words)

are_words : (words : List (List ℕ)) → list_all is_word_kind (kinds_of (each word_part words)) ≡ true
are_words [] = refl
are_words (w ∷ words) = and_from (is_word_kind (printed_kind w)) (list_all is_word_kind (kinds_of (each word_part words))) (printed_is_word w) (are_words words)

all_among : (words : List (List ℕ)) → words_among (each word_part words) ≡ words
all_among [] = refl
all_among (w ∷ words) =
    ap (λ (t : Bool). each (λ (p : Lexed). p.word) (cond t (word_part w ∷ filter (λ (p : Lexed). is_word_kind p.kind) (each word_part words)) (filter (λ (p : Lexed). is_word_kind p.kind) (each word_part words)))) (printed_is_word w)
    ∙ ap (λ (ws : List (List ℕ)). w ∷ ws) (all_among words)

parts_some : (words : List (List ℕ)) → 0 < length words → 0 < length (kinds_of (each word_part words))
parts_some [] some = some
parts_some (w ∷ words) some = omega arith

tail_is : (brackets : Bool) (kinds : List TokenKind) → IsPlain kinds → IsTail brackets kinds
tail_is true kinds plain = inl plain
tail_is false kinds plain = plain

-- a printed line asks for its change
line_asks : (it : Line) → IsReadable it → AsksChange (body it) (op_of it.verb it.words)
line_asks it readable =
    let key = keyword_is it.verb in
    let lexed = words_lexed it.words readable.words in
    let lexemes : List Lexeme = BareWord (keyword it.verb) ∷ lexed.lexemes in
    let begins : BeginsWith (BareWord (keyword it.verb) ∷ lexed.lexemes) (body it) [] =
    (flat_map spaced it.words, refl, record { shaped = (key.some, key.run, stops it.words); short = key.short; printing = tt }, lexed.begins) in
    let parts : parts_in (body it) (tokens_at 0 lexemes) ≡ record { kind = kind.Bare; word = keyword it.verb } ∷ each word_part it.words =
    same_parts (tokens_at 0 lexemes) (body it) (record { kind = kind.Bare; word = keyword it.verb } ∷ each word_part it.words)
    (token_kinds 0 lexemes ∙ ap (λ (ks : List TokenKind). kind.Bare ∷ ks) (lexed.kinds ∙ sym (part_kinds it.words)))
    (words_are (body it) [] lexemes begins ∙ ap (λ (ws : List (List ℕ)). keyword it.verb ∷ ws) (lexed.means ∙ sym (part_words it.words))) in
    record {
      tokens = tokens_at 0 lexemes;
      cut = record { lexemes = lexemes; whole = begins; listed = refl };
      spelled = subst (λ (ps : List Lexed). Spells ps (op_of it.verb it.words)) (sym parts)
          (record {
            first = record { kind = kind.Bare; word = keyword it.verb };
            rest = each word_part it.words;
            joined = refl;
            word = refl;
            form = OneList it.verb key.brackets;
            begun = key.begun;
            asked = (
              tail_is key.brackets (kinds_of (each word_part it.words)) (record { words = are_words it.words; some = parts_some it.words readable.some }),
              ap (op_of it.verb) (sym (all_among it.words)),
            );
          });
    }

lines_ask : (number : ℕ) (lines : List Line) → AreReadable lines → AreRead number (each body lines) (changes_of number lines)
lines_ask number [] readable = refl
lines_ask number (it ∷ lines) readable =
    inr (op_of it.verb it.words, changes_of (number + 1) lines, line_asks it readable.0, refl, lines_ask (number + 1) lines readable.1)

-- printed lines are read back
pub read_back : (lines : List Line) → AreReadable lines → AsksFor (printed_lines lines) (changes_of 1 lines)
read_back lines readable = subst (λ (ls : List (List ℕ)). AreRead 1 ls (changes_of 1 lines)) (sym (printed_cut lines readable)) (lines_ask 1 lines readable)
