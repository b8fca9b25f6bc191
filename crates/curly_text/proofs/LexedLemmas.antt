-- Bytes and the tokens that they are read as, before what follows.
use Rattle.std.proofs.Common.{◌≡◌, ℕ, zero, suc, ◌+◌, ◌<◌, ◌≤◌, true, false, List, [], ◌∷◌, ◌++◌, length, map as each, replicate, refl, sym, ap, subst, ◌∙◌, Option, Some, None, arith, append-nil}
use Rattle.std.proofs.lemmas.List.{append_assoc}
use Rattle.cfg_lex.specs.declared.token.Token.{Token}
use Rattle.cfg_lex.specs.declared.token.TokenKind.{TokenKind}
use Rattle.cfg_lex.specs.declared.token.TokenKind.TheVariants as kind
use Rattle.cfg_lex.specs.Lexed.{Lexed, lexed_in}
use Rattle.cfg_lex.specs.Bytes.{is_space, is_run, goes_on, sign_of}
use Rattle.cfg_lex.specs.Lexeme.{Lexeme, Space, Sign, BareWord, spelled, kind_of, word_of, BeginsWith}
use Rattle.cfg_lex.specs.Tokens.{IsTokens, token_at, tokens_at, word_in, word_at, words_of}
use Rattle.cfg_lex.specs.Printed.{IsPrintable, printed_kind, printed_word}
use Rattle.cfg_lex.proofs.WordLemmas.{printed_as, words_are}
use Rattle.curly_grammar.specs.Grammar.{sign}

-- the token of a lexeme, and the word that it means
abbrev pub lexed_as : Option TokenKind → List ℕ → List Lexed
lexed_as None word = []
lexed_as (Some kind) word = record { kind = kind; word = word } ∷ []

-- those of several
abbrev pub lexed : List Lexeme → List Lexed
lexed [] = []
lexed (lexeme ∷ lexemes) = lexed_as (kind_of lexeme) (word_of lexeme) ++ lexed lexemes

lexed-append : (xs ys : List Lexeme) → lexed (xs ++ ys) ≡ lexed xs ++ lexed ys
lexed-append [] ys = refl
lexed-append (x ∷ xs) ys =
    ap (λ (ts : List Lexed). lexed_as (kind_of x) (word_of x) ++ ts) (lexed-append xs ys)
    ∙ sym (append_assoc (lexed_as (kind_of x) (word_of x)) (lexed xs) (lexed ys))

begins_more : (xs ys : List Lexeme) (a b c : List ℕ) → BeginsWith xs a b → BeginsWith ys b c → BeginsWith (xs ++ ys) a c
begins_more [] ys a b c h k = subst (λ (text : List ℕ). BeginsWith ys text c) (sym h) k
begins_more (x ∷ xs) ys a b c h k = (h.0, h.1, h.2, begins_more xs ys h.0 b c h.3 k)

-- bytes are read as these tokens before what follows
pub record Makes (bytes : List ℕ) (tokens : List Lexed) (rest : List ℕ) : Type 0 where
  pub lexemes : List Lexeme
  pub begins : BeginsWith lexemes (bytes ++ rest) rest
  pub lexed_is : lexed lexemes ≡ tokens

makes_both : (a b rest : List ℕ) (t u : List Lexed) → Makes a t (b ++ rest) → Makes b u rest → Makes (a ++ b) (t ++ u) rest
makes_both a b rest t u one two = record {
  lexemes = one.lexemes ++ two.lexemes;
  begins = subst (λ (text : List ℕ). BeginsWith (one.lexemes ++ two.lexemes) text rest) (sym (append_assoc a b rest))
      (begins_more one.lexemes two.lexemes (a ++ (b ++ rest)) (b ++ rest) rest one.begins two.begins);
  lexed_is =
      lexed-append one.lexemes two.lexemes
      ∙ ap (λ (ts : List Lexed). ts ++ lexed two.lexemes) one.lexed_is
      ∙ ap (λ (ts : List Lexed). t ++ ts) two.lexed_is;
}

-- whatever follows; or before what doesn't go on with a bare word
abbrev pub Closed : List ℕ → List Lexed → Type 0
Closed bytes tokens = (rest : List ℕ) → Makes bytes tokens rest

abbrev pub Open : List ℕ → List Lexed → Type 0
Open bytes tokens = (rest : List ℕ) → goes_on rest ≡ false → Makes bytes tokens rest

-- bytes that don't go on with a bare word, where what follows them doesn't; or at all
abbrev pub Stops : List ℕ → Type 0
Stops bytes = (rest : List ℕ) → goes_on rest ≡ false → goes_on (bytes ++ rest) ≡ false

abbrev pub Shuts : List ℕ → Type 0
Shuts bytes = (rest : List ℕ) → goes_on (bytes ++ rest) ≡ false

module _ {a b : List ℕ} {t u : List Lexed} where
  pub closed_closed : Closed a t → Closed b u → Closed (a ++ b) (t ++ u)
  closed_closed one two rest = makes_both a b rest t u (one (b ++ rest)) (two rest)

  pub closed_open : Closed a t → Open b u → Open (a ++ b) (t ++ u)
  closed_open one two rest h = makes_both a b rest t u (one (b ++ rest)) (two rest h)

  pub open_open : Open a t → Open b u → Stops b → Open (a ++ b) (t ++ u)
  open_open one two stops rest h = makes_both a b rest t u (one (b ++ rest) (stops rest h)) (two rest h)

  pub open_closed : Open a t → Closed b u → Shuts b → Closed (a ++ b) (t ++ u)
  open_closed one two shuts rest = makes_both a b rest t u (one (b ++ rest) (shuts rest)) (two rest)

pub nothing_made : Closed [] []
nothing_made rest = record { lexemes = []; begins = refl; lexed_is = refl }

pub space_made : (byte : ℕ) → is_space byte ≡ true → Closed (byte ∷ []) []
space_made byte e rest = record {
  lexemes = Space byte ∷ [];
  begins = (rest, refl, record { shaped = e; short = omega arith; printing = tt }, refl);
  lexed_is = refl;
}

pub sign_made : (byte : ℕ) (kind : TokenKind) → sign_of byte ≡ Some kind → Closed (byte ∷ []) (sign kind ∷ [])
sign_made byte kind e rest = record {
  lexemes = Sign byte kind ∷ [];
  begins = (rest, refl, record { shaped = e; short = omega arith; printing = tt }, refl);
  lexed_is = refl;
}

-- a bare word
pub bare_made : (bytes : List ℕ) → 0 < length bytes → is_run bytes ≡ true → length bytes ≤ 255 → Open bytes (record { kind = kind.Bare; word = bytes } ∷ [])
bare_made bytes some run short rest h = record {
  lexemes = BareWord bytes ∷ [];
  begins = (rest, refl, record { shaped = (some, run, h); short = short; printing = tt }, refl);
  lexed_is = refl;
}

-- a printed word
abbrev pub lexed_word : List ℕ → Lexed
lexed_word word = record { kind = printed_kind word; word = word }

pub word_made : (word : List ℕ) → IsPrintable word → Open (printed_word word) (lexed_word word ∷ [])
word_made word printable rest h =
    let one = printed_as word rest printable h
    in record {
      lexemes = one.0 ∷ [];
      begins = (rest, ap (λ (bytes : List ℕ). bytes ++ rest) (sym one.1.spells), one.1.stands, refl);
      lexed_is =
          ap (λ (k : Option TokenKind). lexed_as k (word_of one.0) ++ []) one.1.kind
          ∙ ap (λ (w : List ℕ). record { kind = printed_kind word; word = w } ∷ []) one.1.means;
    }

pub spaces_made : (count : ℕ) → Closed (replicate count 32) []
spaces_made zero = nothing_made
spaces_made (suc count) = closed_closed {t = []} {u = []} (space_made 32 refl) (spaces_made count)

-- the tokens of a text, each with its word, are those of its lexemes
abbrev kind_at : Option TokenKind → List TokenKind
kind_at None = []
kind_at (Some kind) = kind ∷ []

abbrev kinds_of : List Lexeme → List TokenKind
kinds_of [] = []
kinds_of (lexeme ∷ lexemes) = kind_at (kind_of lexeme) ++ kinds_of lexemes

token_kinds : (place : ℕ) (lexemes : List Lexeme) → each (λ (t : Token). t.kind) (tokens_at place lexemes) ≡ kinds_of lexemes
token_kinds place [] = refl
token_kinds place (x ∷ xs) = by_kind (kind_of x) (token_kinds (place + length (spelled x)) xs)
  where
    by_kind : (k : Option TokenKind) → each (λ (t : Token). t.kind) (tokens_at (place + length (spelled x)) xs) ≡ kinds_of xs
        → each (λ (t : Token). t.kind) (token_at k place (length (spelled x)) ++ tokens_at (place + length (spelled x)) xs) ≡ kind_at k ++ kinds_of xs
    by_kind None go = go
    by_kind (Some k) go = ap (λ (ks : List TokenKind). k ∷ ks) go

lexed_kinds : (lexemes : List Lexeme) → each (λ (t : Lexed). t.kind) (lexed lexemes) ≡ kinds_of lexemes
lexed_kinds [] = refl
lexed_kinds (x ∷ xs) = by_kind (kind_of x) (lexed_kinds xs)
  where
    by_kind : (k : Option TokenKind) → each (λ (t : Lexed). t.kind) (lexed xs) ≡ kinds_of xs
        → each (λ (t : Lexed). t.kind) (lexed_as k (word_of x) ++ lexed xs) ≡ kind_at k ++ kinds_of xs
    by_kind None go = go
    by_kind (Some k) go = ap (λ (ks : List TokenKind). k ∷ ks) go

lexed_words : (lexemes : List Lexeme) → each (λ (t : Lexed). t.word) (lexed lexemes) ≡ words_of lexemes
lexed_words [] = refl
lexed_words (x ∷ xs) = by_kind (kind_of x) (lexed_words xs)
  where
    by_kind : (k : Option TokenKind) → each (λ (t : Lexed). t.word) (lexed xs) ≡ words_of xs
        → each (λ (t : Lexed). t.word) (lexed_as k (word_of x) ++ lexed xs) ≡ word_at k (word_of x) ++ words_of xs
    by_kind None go = go
    by_kind (Some k) go = ap (λ (ws : List (List ℕ)). word_of x ∷ ws) go

same_lexed : (tokens : List Token) (text : List ℕ) (others : List Lexed) → each (λ (t : Token). t.kind) tokens ≡ each (λ (t : Lexed). t.kind) others
    → each (word_in text) tokens ≡ each (λ (t : Lexed). t.word) others → each (lexed_in text) tokens ≡ others
same_lexed [] text [] e f = refl
same_lexed [] text (y ∷ ys) e f = cc
same_lexed (x ∷ xs) text [] e f = cc
same_lexed (x ∷ xs) text (y ∷ ys) e f =
    let kinds : (x.kind ≡ y.kind) × (each (λ (t : Token). t.kind) xs ≡ each (λ (t : Lexed). t.kind) ys) = (cc, cc)
    in let words : (word_in text x ≡ y.word) × (each (word_in text) xs ≡ each (λ (t : Lexed). t.word) ys) = (cc, cc)
    in ap (λ (k : TokenKind). record { kind = k; word = word_in text x } ∷ each (lexed_in text) xs) kinds.0
    ∙ ap (λ (w : List ℕ). record { kind = y.kind; word = w } ∷ each (lexed_in text) xs) words.0
    ∙ ap (λ (ts : List Lexed). y ∷ ts) (same_lexed xs text ys kinds.1 words.1)

-- a whole text's tokens
pub record Tokens (text : List ℕ) (tokens : List Lexed) : Type 0 where
  pub all : List Token
  pub are_tokens : IsTokens text all
  pub lexed_are : each (lexed_in text) all ≡ tokens

pub whole_made : (text : List ℕ) (tokens : List Lexed) → Closed text tokens → Tokens text tokens
whole_made text tokens made =
    let one = made []
    in let begins = subst (λ (bytes : List ℕ). BeginsWith one.lexemes bytes []) (append-nil text) one.begins
    in record {
      all = tokens_at 0 one.lexemes;
      are_tokens = record { lexemes = one.lexemes; whole = begins; listed = refl };
      lexed_are =
          same_lexed (tokens_at 0 one.lexemes) text (lexed one.lexemes)
          (token_kinds 0 one.lexemes ∙ sym (lexed_kinds one.lexemes))
          (words_are text [] one.lexemes begins ∙ sym (lexed_words one.lexemes))
          ∙ one.lexed_is;
    }
