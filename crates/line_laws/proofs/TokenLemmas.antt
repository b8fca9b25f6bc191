-- The tokens of a line, as both readers see them.
use Rattle.std.proofs.Common.{◌≡◌, ℕ, List, [], ◌∷◌, ◌++◌, map, filter, Bool, true, false, ◌&&◌, cond, refl, ap, ◌∙◌}
use Rattle.std.specs.List.{list_all}
use Rattle.std.proofs.lemmas.Bool.{false≢true, and_parts}
use Rattle.std.proofs.lemmas.List.{map-append}
use Rattle.cfg_lex.specs.declared.token.Token.{Token}
use Rattle.cfg_lex.specs.declared.token.TokenKind.{TokenKind}
use Rattle.cfg_lex.specs.declared.token.TokenKind.TheVariants as kind
use Rattle.cfg_lex.specs.Lexed.{Lexed, lexed_in, is_word_kind, is_open_bracket, is_close_bracket}
use Rattle.set_text.specs.Form.{parts_in, kinds_of, words_among}
use Rattle.shell_words.proofs.Names.{any}
use Rattle.shell_words.specs.Item.{Item, item_in}
use Rattle.shell_words.specs.Form.{is_of}

abbrev pub tokens_of : List Item → List Lexed
tokens_of items = map (λ (item : Item). item.token) items

abbrev pub kinds_in : List Item → List TokenKind
kinds_in items = kinds_of (tokens_of items)

abbrev pub words_in : List Item → List (List ℕ)
words_in items = map (λ (item : Item). item.token.word) items

abbrev pub AreWords : List Item → Type 0
AreWords items = list_all (is_of any) items ≡ true

pub tokens_of_line : (line : List ℕ) (tokens : List Token) → tokens_of (map (item_in line) tokens) ≡ parts_in line tokens
tokens_of_line line [] = refl
tokens_of_line line (token ∷ tokens) = ap (λ parts. lexed_in line token ∷ parts) (tokens_of_line line tokens)

pub tokens_join : (front back : List Item) → tokens_of (front ++ back) ≡ tokens_of front ++ tokens_of back
tokens_join front back = map-append (λ (item : Item). item.token) front back

pub kinds_join : (front back : List Item) → kinds_in (front ++ back) ≡ kinds_in front ++ kinds_in back
kinds_join [] back = refl
kinds_join (item ∷ front) back = ap (λ kinds. item.token.kind ∷ kinds) (kinds_join front back)

-- a list of tokens is parted as what is said of each of them
pub record Split {X : Type 0} (told : Item → X) (items : List Item) (front back : List X) : Type 0 where
  pub ahead : List Item
  pub behind : List Item
  pub joined : items ≡ ahead ++ behind
  pub first : map told ahead ≡ front
  pub last : map told behind ≡ back

pub split : {X : Type 0} (told : Item → X) (items : List Item) (front back : List X) → map told items ≡ front ++ back → Split told items front back
split told items [] back e = record { ahead = []; behind = items; joined = refl; first = refl; last = e }
split told [] (x ∷ front) back e = cc
split told (item ∷ items) (x ∷ front) back e =
    let head : told item ≡ x = cc in
    let tail : map told items ≡ front ++ back = cc in
    let on = split told items front back tail in
    record {
      ahead = item ∷ on.ahead;
      behind = on.behind;
      joined = ap (λ is. item ∷ is) on.joined;
      first = ap (λ y. y ∷ map told on.ahead) head ∙ ap (λ ys. x ∷ ys) on.first;
      last = on.last;
    }

pub kinds_told : (items : List Item) → kinds_in items ≡ map (λ (item : Item). item.token.kind) items
kinds_told [] = refl
kinds_told (item ∷ items) = ap (λ kinds. item.token.kind ∷ kinds) (kinds_told items)

-- words by their kinds
pub words_by_kind : (items : List Item) → list_all is_word_kind (kinds_in items) ≡ list_all (is_of any) items
words_by_kind [] = refl
words_by_kind (item ∷ items) = ap (λ t. is_word_kind item.token.kind && t) (words_by_kind items)

-- the words among words and what follows
pub words_then : (items : List Item) (rest : List Lexed) → AreWords items → words_among (tokens_of items ++ rest) ≡ words_in items ++ words_among rest
words_then [] rest all = refl
words_then (item ∷ items) rest all =
    let both = and_parts (is_of any item) (list_all (is_of any) items) all in
    ap (λ (t : Bool). map (λ (p : Lexed). p.word) (cond t (item.token ∷ filter (λ (p : Lexed). is_word_kind p.kind) (tokens_of items ++ rest)) (filter (λ (p : Lexed). is_word_kind p.kind) (tokens_of items ++ rest)))) both.0
    ∙ ap (λ ws. item.token.word ∷ ws) (words_then items rest both.1)

pub words_all : (items : List Item) → AreWords items → words_among (tokens_of items) ≡ words_in items
words_all [] all = refl
words_all (item ∷ items) all =
    let both = and_parts (is_of any item) (list_all (is_of any) items) all in
    ap (λ (t : Bool). map (λ (p : Lexed). p.word) (cond t (item.token ∷ filter (λ (p : Lexed). is_word_kind p.kind) (tokens_of items)) (filter (λ (p : Lexed). is_word_kind p.kind) (tokens_of items)))) both.0
    ∙ ap (λ ws. item.token.word ∷ ws) (words_all items both.1)

-- what is no word is none among them
dropped : (part : Lexed) (parts : List Lexed) → is_word_kind part.kind ≡ false → words_among (part ∷ parts) ≡ words_among parts
dropped part parts none =
    ap (λ (t : Bool). map (λ (p : Lexed). p.word) (cond t (part ∷ filter (λ (p : Lexed). is_word_kind p.kind) parts) (filter (λ (p : Lexed). is_word_kind p.kind) parts))) none

-- brackets are none of the words
pub bracketed_words : (front inside : List Item) (opening closing : Item) → AreWords front → AreWords inside → is_word_kind opening.token.kind ≡ false → is_word_kind closing.token.kind ≡ false → words_among (tokens_of (front ++ opening ∷ (inside ++ closing ∷ []))) ≡ words_in front ++ (words_in inside ++ [])
bracketed_words front inside opening closing before within no_word none =
    ap words_among (tokens_join front (opening ∷ (inside ++ closing ∷ [])))
    ∙ words_then front (tokens_of (opening ∷ (inside ++ closing ∷ []))) before
    ∙ ap (λ ws. words_in front ++ ws)
    (dropped opening.token (tokens_of (inside ++ closing ∷ [])) no_word
    ∙ ap words_among (tokens_join inside (closing ∷ []))
    ∙ words_then inside (closing.token ∷ []) within
    ∙ ap (λ ws. words_in inside ++ ws) (dropped closing.token [] none))

pub open_is : (k : TokenKind) → is_open_bracket k ≡ true → k ≡ kind.OpenBracket
open_is kind.OpenBrace e = absurd (false≢true e)
open_is kind.CloseBrace e = absurd (false≢true e)
open_is kind.OpenBracket e = refl
open_is kind.CloseBracket e = absurd (false≢true e)
open_is kind.Semicolon e = absurd (false≢true e)
open_is kind.Bare e = absurd (false≢true e)
open_is kind.Quoted e = absurd (false≢true e)

pub close_is : (k : TokenKind) → is_close_bracket k ≡ true → k ≡ kind.CloseBracket
close_is kind.OpenBrace e = absurd (false≢true e)
close_is kind.CloseBrace e = absurd (false≢true e)
close_is kind.OpenBracket e = absurd (false≢true e)
close_is kind.CloseBracket e = refl
close_is kind.Semicolon e = absurd (false≢true e)
close_is kind.Bare e = absurd (false≢true e)
close_is kind.Quoted e = absurd (false≢true e)
