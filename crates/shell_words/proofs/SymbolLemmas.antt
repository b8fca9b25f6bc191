-- Symbols that share no token.
use Rattle.std.proofs.Common.{◌≡◌, ℕ, List, [], ◌∷◌, Bool, true, false, not, ◌&&◌, ◌||◌, is_some, refl, sym, ap, subst, ◌∙◌, inl, inr, eqb}
use Rattle.std.proofs.lemmas.Bool.{false≢true, and_parts, and_from, or_cases, eqb-true}
use Rattle.cfg_base.specs.Words.{same_word}
use Rattle.cfg_lex.specs.declared.token.TokenKind.{TokenKind}
use Rattle.cfg_lex.specs.declared.token.TokenKind.TheVariants.{OpenBrace, CloseBrace, Semicolon, Bare, Quoted}
use Rattle.cfg_lex.specs.declared.token.TokenKind.TheVariants as kind
use Rattle.cfg_lex.specs.Lexed.{is_word_kind, is_bare_kind, is_open_bracket, is_close_bracket}
use Rattle.shell_words.specs.declared.form.Symbol.{Symbol}
use Rattle.shell_words.specs.declared.form.Symbol.TheVariants.{Keyword, Mark, Word, Neither, Number, Time, OpenBracket, CloseBracket}
use Rattle.shell_words.specs.declared.keyword.Keyword as keywords
use Rattle.shell_words.specs.Item.{Item}
use Rattle.shell_words.specs.Form.{is_keyword, is_mark, is_of}
use Rattle.shell_words.specs.Keyword.{spelled}
use Rattle.shell_words.specs.Number.{number_of, is_between}
use Rattle.shell_words.specs.Time.{when_of}
use Rattle.shell_words.proofs.FormTests.{are_words, differ, disjoint}

pub same_is : (one other : List ℕ) → same_word one other ≡ true → one ≡ other
same_is [] [] e = refl
same_is [] (b ∷ other) e = absurd (false≢true e)
same_is (a ∷ one) [] e = absurd (false≢true e)
same_is (a ∷ one) (b ∷ other) e =
    let parts = and_parts (eqb a b) (same_word one other) e in
    ap (λ x. x ∷ one) (eqb-true a b parts.0) ∙ ap (λ xs. b ∷ xs) (same_is one other parts.1)

-- two words that are the same as one
both_same : (word one other : List ℕ) → same_word one word ≡ true → same_word other word ≡ true → same_word one other ≡ true
both_same word one other a b =
    subst (λ w. same_word one w ≡ true) (sym (same_is other word b)) a

not_both : (t : Bool) → t ≡ true → not t ≡ true → ⊥
not_both true e f = false≢true f
not_both false e f = false≢true e

bare_is_word : (kind : TokenKind) → is_bare_kind kind ≡ true → is_word_kind kind ≡ true
bare_is_word OpenBrace e = e
bare_is_word CloseBrace e = e
bare_is_word kind.OpenBracket e = e
bare_is_word kind.CloseBracket e = e
bare_is_word Semicolon e = e
bare_is_word Bare e = refl
bare_is_word Quoted e = refl

no_open_word : (kind : TokenKind) → is_word_kind kind ≡ true → is_open_bracket kind ≡ true → ⊥
no_open_word OpenBrace e f = false≢true e
no_open_word CloseBrace e f = false≢true e
no_open_word kind.OpenBracket e f = false≢true e
no_open_word kind.CloseBracket e f = false≢true e
no_open_word Semicolon e f = false≢true e
no_open_word Bare e f = false≢true f
no_open_word Quoted e f = false≢true f

no_close_word : (kind : TokenKind) → is_word_kind kind ≡ true → is_close_bracket kind ≡ true → ⊥
no_close_word OpenBrace e f = false≢true e
no_close_word CloseBrace e f = false≢true e
no_close_word kind.OpenBracket e f = false≢true e
no_close_word kind.CloseBracket e f = false≢true e
no_close_word Semicolon e f = false≢true e
no_close_word Bare e f = false≢true f
no_close_word Quoted e f = false≢true f

word_is : (symbol : Symbol) (item : Item) → are_words symbol ≡ true → is_of symbol item ≡ true → is_word_kind item.token.kind ≡ true
word_is (Keyword keyword) item words is = (and_parts (is_word_kind item.token.kind) (same_word (spelled keyword) item.token.word) is).0
word_is (Mark keyword) item words is = bare_is_word item.token.kind (and_parts (is_bare_kind item.token.kind) (same_word (spelled keyword) item.token.word) is).0
word_is Word item words is = is
word_is (Neither one other) item words is = (and_parts (is_word_kind item.token.kind) (not (is_mark one item || is_mark other item)) is).0
word_is (Number low high) item words is = (and_parts (is_word_kind item.token.kind) (is_between low high (number_of item.token.word)) is).0
word_is Time item words is = (and_parts (is_word_kind item.token.kind) (is_some (when_of item.token.word)) is).0
word_is OpenBracket item words is = absurd (false≢true words)
word_is CloseBracket item words is = absurd (false≢true words)

keywords_differ : (one other : keywords.Keyword) (first second : Bool) (item : Item) → not (same_word (spelled one) (spelled other)) ≡ true → (first && same_word (spelled one) item.token.word) ≡ true → (second && same_word (spelled other) item.token.word) ≡ true → ⊥
keywords_differ one other first second item e a b =
    not_both (same_word (spelled one) (spelled other))
    (both_same item.token.word (spelled one) (spelled other) (and_parts first (same_word (spelled one) item.token.word) a).1 (and_parts second (same_word (spelled other) item.token.word) b).1) e

-- a mark is a word that is neither of two, of which it is one
marked : (mark one : keywords.Keyword) (item : Item) → same_word (spelled one) (spelled mark) ≡ true → is_mark mark item ≡ true → is_mark one item ≡ true
marked mark one item e is =
    let parts = and_parts (is_bare_kind item.token.kind) (same_word (spelled mark) item.token.word) is in
    and_from (is_bare_kind item.token.kind) (same_word (spelled one) item.token.word) parts.0 (subst (λ w. same_word w item.token.word ≡ true) (sym (same_is (spelled one) (spelled mark) e)) parts.1)

or_left : (a b : Bool) → a ≡ true → (a || b) ≡ true
or_left true b e = refl
or_left false b e = absurd (false≢true e)

or_right : (a b : Bool) → b ≡ true → (a || b) ≡ true
or_right true b e = refl
or_right false b e = e

neither_mark : (one other mark : keywords.Keyword) (item : Item) → (same_word (spelled one) (spelled mark) || same_word (spelled other) (spelled mark)) ≡ true → is_of (Neither one other) item ≡ true → is_mark mark item ≡ true → ⊥
neither_mark one other mark item e neither is =
    let none = (and_parts (is_word_kind item.token.kind) (not (is_mark one item || is_mark other item)) neither).1 in
    elim (or_cases (same_word (spelled one) (spelled mark)) (same_word (spelled other) (spelled mark)) e) as (λ w. ⊥) [
      | inl first ↦ not_both (is_mark one item || is_mark other item) (or_left (is_mark one item) (is_mark other item) (marked mark one item first is)) none
      | inr second ↦ not_both (is_mark one item || is_mark other item) (or_right (is_mark one item) (is_mark other item) (marked mark other item second is)) none
    ]

number_keyword : (low high : ℕ) (keyword : keywords.Keyword) (item : Item) → not (is_between low high (number_of (spelled keyword))) ≡ true → is_of (Number low high) item ≡ true → is_keyword keyword item ≡ true → ⊥
number_keyword low high keyword item e number is =
    let word = same_is (spelled keyword) item.token.word (and_parts (is_word_kind item.token.kind) (same_word (spelled keyword) item.token.word) is).1 in
    not_both (is_between low high (number_of (spelled keyword)))
    (subst (λ w. is_between low high (number_of w) ≡ true) (sym word) (and_parts (is_word_kind item.token.kind) (is_between low high (number_of item.token.word)) number).1) e

open_word : (symbol : Symbol) (item : Item) → are_words symbol ≡ true → is_of symbol item ≡ true → is_open_bracket item.token.kind ≡ true → ⊥
open_word symbol item words is bracket = no_open_word item.token.kind (word_is symbol item words is) bracket

close_word : (symbol : Symbol) (item : Item) → are_words symbol ≡ true → is_of symbol item ≡ true → is_close_bracket item.token.kind ≡ true → ⊥
close_word symbol item words is bracket = no_close_word item.token.kind (word_is symbol item words is) bracket

differ_sound : (one other : Symbol) (item : Item) → differ one other ≡ true → is_of one item ≡ true → is_of other item ≡ true → ⊥
differ_sound (Keyword one) (Keyword other) item e a b = keywords_differ one other (is_word_kind item.token.kind) (is_word_kind item.token.kind) item e a b
differ_sound (Keyword one) (Mark other) item e a b = keywords_differ one other (is_word_kind item.token.kind) (is_bare_kind item.token.kind) item e a b
differ_sound (Mark one) (Mark other) item e a b = keywords_differ one other (is_bare_kind item.token.kind) (is_bare_kind item.token.kind) item e a b
differ_sound (Number low high) (Keyword other) item e a b = number_keyword low high other item e a b
differ_sound (Neither one other) (Mark mark) item e a b = neither_mark one other mark item e a b
differ_sound (Keyword one) OpenBracket item e a b = open_word (Keyword one) item e a b
differ_sound (Mark one) OpenBracket item e a b = open_word (Mark one) item e a b
differ_sound Word OpenBracket item e a b = open_word Word item e a b
differ_sound (Neither one other) OpenBracket item e a b = open_word (Neither one other) item e a b
differ_sound (Number low high) OpenBracket item e a b = open_word (Number low high) item e a b
differ_sound Time OpenBracket item e a b = open_word Time item e a b
differ_sound (Keyword one) CloseBracket item e a b = close_word (Keyword one) item e a b
differ_sound (Mark one) CloseBracket item e a b = close_word (Mark one) item e a b
differ_sound Word CloseBracket item e a b = close_word Word item e a b
differ_sound (Neither one other) CloseBracket item e a b = close_word (Neither one other) item e a b
differ_sound (Number low high) CloseBracket item e a b = close_word (Number low high) item e a b
differ_sound Time CloseBracket item e a b = close_word Time item e a b
differ_sound one other item e a b = absurd (false≢true e)

pub disjoint_sound : (one other : Symbol) (item : Item) → disjoint one other ≡ true → is_of one item ≡ true → is_of other item ≡ true → ⊥
disjoint_sound one other item e a b =
    elim (or_cases (differ one other) (differ other one) e) as (λ w. ⊥) [
      | inl here ↦ differ_sound one other item here a b
      | inr there ↦ differ_sound other one item there b a
    ]

pub is_not : (t : Bool) → (t ≡ true → ⊥) → t ≡ false
is_not true never = absurd (never refl)
is_not false never = refl
