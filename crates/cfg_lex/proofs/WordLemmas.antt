-- Words in quotes, as they are read and as they are printed; and the words of tokens.
use Rattle.std.proofs.Common.{◌≡◌, ◌<◌, ◌≤◌, ◌+◌, ◌-◌, ◌⊎◌, zero, suc, ℕ, List, [], ◌∷◌, ◌++◌, length, take, drop, map, get_or, eqb, ltb, ◌&&◌, ◌||◌, not, Bool, true, false, cond, Option, None, Some, inl, inr, refl, sym, ap, subst, ◌∙◌, arith, length-append}
use Rattle.std.specs.List.{list_all, list_any, flat_map}
use Rattle.std.proofs.lemmas.Bool.{false≢true, and_parts, and_from, or_cases, eqb-true, ltb-true}
use Rattle.std.proofs.lemmas.List.{append_assoc, append-nil, map-append, take_at, drop_at, take_all, take_more}
use Rattle.std.proofs.lemmas.List.Folds.{list_all-append}
use Rattle.cfg_lex.specs.declared.token.TokenKind.{TokenKind}
use Rattle.cfg_lex.specs.declared.token.TokenKind.TheVariants.{OpenBrace, CloseBrace, OpenBracket, CloseBracket, Semicolon, Bare, Quoted}
use Rattle.cfg_lex.specs.Bytes.{sign_of, is_inside, is_printing, is_run, is_angle_byte, goes_on, unescaped}
use Rattle.cfg_lex.specs.Lexeme.{Lexeme, Space, LineComment, Comment, Sign, BareWord, AngleWord, QuotedWord, spelled, kind_of, word_of, IsShaped, Stands, BeginsWith}
use Rattle.cfg_lex.specs.Tokens.{token_at, tokens_at, IsTokens, between, word_spelled, word_in, word_at, words_of}
use Rattle.cfg_lex.specs.Mark.{is_mark}
use Rattle.cfg_lex.specs.Printed.{is_wildcard, is_plain, escaped, printed_word, printed_kind, printed_token, IsPrintable, IsPrintedAs}
use Rattle.cfg_lex.proofs.RunLemmas.{or_parts}

-- bytes without a backslash are the word
pub plain_unescaped : (bytes : List ℕ) → list_any (λ b. eqb b 92) bytes ≡ false → unescaped false bytes ≡ bytes
plain_unescaped [] e = refl
plain_unescaped (b ∷ bytes) e =
    let parts = or_parts (eqb b 92) (list_any (λ c. eqb c 92) bytes) e in
    ap (λ t. cond t [] (b ∷ []) ++ unescaped t bytes) parts.0 ∙ ap (λ bs. b ∷ bs) (plain_unescaped bytes parts.1)

-- a printed word in quotes is closed by its last quote
inside_escaped : (b : ℕ) (rest : List ℕ) → is_inside false rest ≡ true → is_inside false (escaped b ++ rest) ≡ true
inside_escaped b rest inner =
    elim (eqb b 34 || eqb b 92) as (λ t. (eqb b 34 || eqb b 92) ≡ t → is_inside false (cond t (92 ∷ b ∷ []) (b ∷ []) ++ rest) ≡ true) [
      | true ↦ λ e. inner
      | false ↦ λ e.
          let parts = or_parts (eqb b 34) (eqb b 92) e in
          and_from (not (eqb b 34)) (is_inside (eqb b 92) rest) (ap not parts.0) (ap (λ t. is_inside t rest) parts.1 ∙ inner)
    ] refl

inside_printed : (word : List ℕ) → is_inside false (flat_map escaped word) ≡ true
inside_printed [] = refl
inside_printed (b ∷ word) = inside_escaped b (flat_map escaped word) (inside_printed word)

-- and is read as itself
read_escaped : (b : ℕ) (rest : List ℕ) → unescaped false (escaped b ++ rest) ≡ b ∷ unescaped false rest
read_escaped b rest =
    elim (eqb b 34 || eqb b 92) as (λ t. (eqb b 34 || eqb b 92) ≡ t → unescaped false (cond t (92 ∷ b ∷ []) (b ∷ []) ++ rest) ≡ b ∷ unescaped false rest) [
      | true ↦ λ e. ap (λ t. cond t (b ∷ []) (92 ∷ b ∷ []) ++ unescaped false rest) e
      | false ↦ λ e. ap (λ t. cond t [] (b ∷ []) ++ unescaped t rest) (or_parts (eqb b 34) (eqb b 92) e).1
    ] refl

read_printed : (word : List ℕ) → unescaped false (flat_map escaped word) ≡ word
read_printed [] = refl
read_printed (b ∷ word) = read_escaped b (flat_map escaped word) ∙ ap (λ bs. b ∷ bs) (read_printed word)

-- of printing bytes alone
printing_escaped : (b : ℕ) → is_printing b ≡ true → list_all is_printing (escaped b) ≡ true
printing_escaped b e =
    elim (eqb b 34 || eqb b 92) as (λ t. list_all is_printing (cond t (92 ∷ b ∷ []) (b ∷ [])) ≡ true) [
      | true ↦ and_from (is_printing b) true e refl
      | false ↦ and_from (is_printing b) true e refl
    ]

printing_printed : (word : List ℕ) → list_all is_printing word ≡ true → list_all is_printing (flat_map escaped word) ≡ true
printing_printed [] e = refl
printing_printed (b ∷ word) e =
    let parts = and_parts (is_printing b) (list_all is_printing word) e in
    list_all-append is_printing (escaped b) (flat_map escaped word)
    ∙ and_from (list_all is_printing (escaped b)) (list_all is_printing (flat_map escaped word)) (printing_escaped b parts.0) (printing_printed word parts.1)

-- a wildcard name is an angle word
last_of : (bytes : List ℕ) → 0 < length bytes → bytes ≡ take (length bytes - 1) bytes ++ get_or bytes (length bytes - 1) 0 ∷ []
last_of bytes some =
    sym (take_all (length bytes - 1 + 1) bytes (omega arith)) ∙ take_more bytes (length bytes - 1) 0 (omega arith)

angle_parts : (word : List ℕ) → 2 < length word → get_or word 0 0 ≡ 60 → get_or word (length word - 1) 0 ≡ 62 → 60 ∷ (between word ++ 62 ∷ []) ≡ word
angle_parts [] long first last = absurd (omega arith)
angle_parts (b ∷ bytes) long first last =
    let size : length (b ∷ bytes) - 2 ≡ length bytes - 1 = omega arith in
    let place : length (b ∷ bytes) - 1 ≡ suc (length bytes - 1) = omega arith in
    let end_is : get_or bytes (length bytes - 1) 0 ≡ 62 = ap (λ n. get_or (b ∷ bytes) n 0) (sym place) ∙ last in
    ap (λ n. 60 ∷ (take n bytes ++ 62 ∷ [])) size
    ∙ ap (λ d. 60 ∷ (take (length bytes - 1) bytes ++ d ∷ [])) (sym end_is)
    ∙ ap (λ bs. 60 ∷ bs) (sym (last_of bytes (omega arith)))
    ∙ ap (λ d. d ∷ bytes) (sym first)

positive : (n : ℕ) → not (eqb n 0) ≡ true → 0 < n
positive zero e = absurd (false≢true e)
positive (suc n) e = omega arith

wildcard_stands : (word rest : List ℕ) → IsPrintable word → is_wildcard word ≡ true → (spelled (AngleWord (between word)) ≡ word) × Stands (AngleWord (between word)) rest
wildcard_stands word rest able wild =
    let sizes = and_parts (ltb 2 (length word) && ltb (length word) 65) ((eqb (get_or word 0 0) 60 && eqb (get_or word (length word - 1) 0) 62) && list_all is_angle_byte (between word)) wild in
    let long = and_parts (ltb 2 (length word)) (ltb (length word) 65) sizes.0 in
    let bytes = and_parts (eqb (get_or word 0 0) 60 && eqb (get_or word (length word - 1) 0) 62) (list_all is_angle_byte (between word)) sizes.1 in
    let ends = and_parts (eqb (get_or word 0 0) 60) (eqb (get_or word (length word - 1) 0) 62) bytes.0 in
    let over = ltb-true 2 (length word) long.0 in
    let whole = angle_parts word over (eqb-true (get_or word 0 0) 60 ends.0) (eqb-true (get_or word (length word - 1) 0) 62 ends.1) in
    let size = length-append (between word) (62 ∷ []) in (
      whole,
      record {
        shaped = (omega (arith, ap length whole, size, over), bytes.1);
        short = omega (arith, ap length whole, able.short);
        printing = tt;
      },
    )

-- what is printed of a word is one lexeme that means it
pub printed_as : (word rest : List ℕ) → IsPrintable word → goes_on rest ≡ false → (lexeme : Lexeme) × IsPrintedAs word rest lexeme
printed_as word rest able stops =
    elim (is_plain word) as (λ t. is_plain word ≡ t → (lexeme : Lexeme) × IsPrintedAs word rest lexeme) [
      | true ↦ λ plain.
          let some = and_parts (not (eqb (length word) 0)) (not (is_mark word) && (is_wildcard word || is_run word)) plain in
          let other = and_parts (not (is_mark word)) (is_wildcard word || is_run word) some.1 in
          let text : word ≡ printed_word word = sym (ap (λ t. cond t word (34 ∷ (flat_map escaped word ++ 34 ∷ []))) plain) in
          let kind : Some Bare ≡ Some (printed_kind word) = ap (λ t. Some (cond t Bare Quoted)) (sym plain) in
          plain_as word rest able stops (positive (length word) some.0) text kind (or_cases (is_wildcard word) (is_run word) other.1)
      | false ↦ λ quoted. (
        QuotedWord (flat_map escaped word),
        record {
          spells = sym (ap (λ t. cond t word (34 ∷ (flat_map escaped word ++ 34 ∷ []))) quoted);
          stands = record {
            shaped = inside_printed word;
            short = subst (λ bs. length bs ≤ 255) (sym (read_printed word)) able.short;
            printing = printing_printed word able.printing;
          };
          kind = ap (λ t. Some (cond t Bare Quoted)) (sym quoted);
          means = read_printed word;
        },
      )
    ] refl
  where
    plain_as : (word rest : List ℕ) → IsPrintable word → goes_on rest ≡ false → 0 < length word → word ≡ printed_word word → Some Bare ≡ Some (printed_kind word) → (is_wildcard word ≡ true) ⊎ (is_run word ≡ true) → (lexeme : Lexeme) × IsPrintedAs word rest lexeme
    plain_as word rest able stops some text kind (inl wild) =
        let angle = wildcard_stands word rest able wild in
        (AngleWord (between word), record { spells = angle.0 ∙ text; stands = angle.1; kind = kind; means = angle.0 })
    plain_as word rest able stops some text kind (inr run) = (
      BareWord word,
      record {
        spells = text;
        stands = record { shaped = (some, run, stops); short = able.short; printing = tt };
        kind = kind;
        means = refl;
      },
    )

by_test : (t : Bool) (P : Option TokenKind → Type 0) (x y : Option TokenKind) → P x → P y → P (cond t x y)
by_test true P x y this other = this
by_test false P x y this other = other

-- what holds of each sign, and of what is none
sign_cases : (b : ℕ) (P : Option TokenKind → Type 0) → P (Some OpenBrace) → P (Some CloseBrace) → P (Some OpenBracket) → P (Some CloseBracket) → P (Some Semicolon) → P None → P (sign_of b)
sign_cases b P p1 p2 p3 p4 p5 none =
    let s5 = by_test (eqb b 59) P (Some Semicolon) None p5 none in
    let s4 = by_test (eqb b 93) P (Some CloseBracket) (cond (eqb b 59) (Some Semicolon) None) p4 s5 in
    let s3 = by_test (eqb b 91) P (Some OpenBracket) (cond (eqb b 93) (Some CloseBracket) (cond (eqb b 59) (Some Semicolon) None)) p3 s4 in
    let s2 = by_test (eqb b 125) P (Some CloseBrace) (cond (eqb b 91) (Some OpenBracket) (cond (eqb b 93) (Some CloseBracket) (cond (eqb b 59) (Some Semicolon) None))) p2 s3 in
    by_test (eqb b 123) P (Some OpenBrace) (cond (eqb b 125) (Some CloseBrace) (cond (eqb b 91) (Some OpenBracket) (cond (eqb b 93) (Some CloseBracket) (cond (eqb b 59) (Some Semicolon) None)))) p1 s2

no_bare_sign : (b : ℕ) → sign_of b ≡ Some Bare → ⊥
no_bare_sign b = sign_cases b (λ s. s ≡ Some Bare → ⊥) (λ e. cc) (λ e. cc) (λ e. cc) (λ e. cc) (λ e. cc) (λ e. cc)

no_quoted_sign : (b : ℕ) → sign_of b ≡ Some Quoted → ⊥
no_quoted_sign b = sign_cases b (λ s. s ≡ Some Quoted → ⊥) (λ e. cc) (λ e. cc) (λ e. cc) (λ e. cc) (λ e. cc) (λ e. cc)

-- a sign is no word
no_sign : (b : ℕ) (kind : TokenKind) (bytes : List ℕ) → sign_of b ≡ Some kind → word_spelled kind bytes ≡ []
no_sign b OpenBrace bytes e = refl
no_sign b CloseBrace bytes e = refl
no_sign b OpenBracket bytes e = refl
no_sign b CloseBracket bytes e = refl
no_sign b Semicolon bytes e = refl
no_sign b Bare bytes e = absurd (no_bare_sign b e)
no_sign b Quoted bytes e = absurd (no_quoted_sign b e)

between_ends : (inside : List ℕ) → between (34 ∷ (inside ++ 34 ∷ [])) ≡ inside
between_ends inside =
    take_at inside (34 ∷ []) (length (34 ∷ (inside ++ 34 ∷ [])) - 2) (omega (arith, length-append inside (34 ∷ [])))

-- the word of a lexeme's bytes is the lexeme's
pub spelled_word : (lexeme : Lexeme) (rest : List ℕ) (kind : TokenKind) → IsShaped lexeme rest → kind_of lexeme ≡ Some kind → word_spelled kind (spelled lexeme) ≡ word_of lexeme
spelled_word (Space byte) rest kind shaped e = absurd cc
spelled_word (LineComment bytes) rest kind shaped e = absurd cc
spelled_word (Comment bytes) rest kind shaped e = absurd cc
spelled_word (Sign byte own) rest kind shaped e = no_sign byte kind (byte ∷ []) (shaped ∙ e)
spelled_word (BareWord bytes) rest kind shaped e =
    let is : Bare ≡ kind = cc in
    ap (λ k. word_spelled k bytes) (sym is)
spelled_word (AngleWord bytes) rest kind shaped e =
    let is : Bare ≡ kind = cc in
    ap (λ k. word_spelled k (60 ∷ (bytes ++ 62 ∷ []))) (sym is)
spelled_word (QuotedWord bytes) rest kind shaped e =
    let is : Quoted ≡ kind = cc in
    ap (λ k. word_spelled k (34 ∷ (bytes ++ 34 ∷ []))) (sym is) ∙ ap (unescaped false) (between_ends bytes)

-- the word of a token that stands after some bytes
word_behind : (front behind : List ℕ) (x : Lexeme) (kind : Option TokenKind) → IsShaped x behind → kind_of x ≡ kind → map (word_in (front ++ (spelled x ++ behind))) (token_at kind (length front) (length (spelled x))) ≡ word_at kind (word_of x)
word_behind front behind x None shaped is = refl
word_behind front behind x (Some kind) shaped is =
    let text : List ℕ = front ++ (spelled x ++ behind) in
    let size : length front + length (spelled x) - length front ≡ length (spelled x) = omega arith in
    ap (λ n. word_spelled kind (take n (drop (length front) text)) ∷ []) size
    ∙ ap (λ bs. word_spelled kind (take (length (spelled x)) bs) ∷ []) (drop_at front (spelled x ++ behind) (length front) refl)
    ∙ ap (λ bs. word_spelled kind bs ∷ []) (take_at (spelled x) behind (length (spelled x)) refl)
    ∙ ap (λ w. w ∷ []) (spelled_word x behind kind shaped is)

words_behind : (front text rest : List ℕ) (xs : List Lexeme) → BeginsWith xs text rest → map (word_in (front ++ text)) (tokens_at (length front) xs) ≡ words_of xs
words_behind front text rest [] begins = refl
words_behind front text rest (x ∷ xs) begins =
    let behind : List ℕ = begins.0 in
    let count : ℕ = length (spelled x) in
    let further : map (word_in ((front ++ spelled x) ++ behind)) (tokens_at (length (front ++ spelled x)) xs) ≡ words_of xs = words_behind (front ++ spelled x) behind rest xs begins.3 in
    let whole : (front ++ spelled x) ++ behind ≡ front ++ (spelled x ++ behind) = append_assoc front (spelled x) behind in
    let moved = subst (λ n. map (word_in ((front ++ spelled x) ++ behind)) (tokens_at n xs) ≡ words_of xs) (length-append front (spelled x)) further in
    let joined = subst (λ t. map (word_in t) (tokens_at (length front + count) xs) ≡ words_of xs) whole moved in
    ap (λ t. map (word_in (front ++ t)) (tokens_at (length front) (x ∷ xs))) begins.1
    ∙ map-append (word_in (front ++ (spelled x ++ behind))) (token_at (kind_of x) (length front) count) (tokens_at (length front + count) xs)
    ∙ ap (λ ws. ws ++ map (word_in (front ++ (spelled x ++ behind))) (tokens_at (length front + count) xs)) (word_behind front behind x (kind_of x) begins.2.shaped refl)
    ∙ ap (λ ws. word_at (kind_of x) (word_of x) ++ ws) joined

-- the words of a text's tokens are those of its lexemes
pub words_are : (text rest : List ℕ) (lexemes : List Lexeme) → BeginsWith lexemes text rest → map (word_in text) (tokens_at 0 lexemes) ≡ words_of lexemes
words_are text rest lexemes begins = words_behind [] text rest lexemes begins

-- a text that is one lexeme is one token
one_token : (text : List ℕ) (kind : TokenKind) (lexeme : Lexeme) → spelled lexeme ≡ text → Stands lexeme [] → kind_of lexeme ≡ Some kind → IsTokens text (record { kind = kind; start = 0; end = length text } ∷ [])
one_token text kind lexeme spells stands is =
    let size : 0 + length (spelled lexeme) ≡ length text = omega (arith, ap length spells) in
    record {
      lexemes = lexeme ∷ [];
      whole = ([], sym (append-nil (spelled lexeme) ∙ spells), stands, refl);
      listed = ap (λ n. record { kind = kind; start = 0; end = n } ∷ []) (sym size) ∙ ap (λ k. token_at k 0 (length (spelled lexeme)) ++ []) (sym is);
    }

one_word : (text : List ℕ) (kind : TokenKind) (lexeme : Lexeme) → spelled lexeme ≡ text → Stands lexeme [] → kind_of lexeme ≡ Some kind → word_in text (record { kind = kind; start = 0; end = length text }) ≡ word_of lexeme
one_word text kind lexeme spells stands is =
    ap (word_spelled kind) (take_all (length text - 0) text (omega arith) ∙ sym spells) ∙ spelled_word lexeme [] kind stands.shaped is

-- a printed word is one token of that word
pub printed_tokens : (word : List ℕ) → IsPrintable word → IsTokens (printed_word word) (printed_token word ∷ [])
printed_tokens word able =
    let one = printed_as word [] able refl in
    one_token (printed_word word) (printed_kind word) one.0 one.1.spells one.1.stands one.1.kind

pub printed_means : (word : List ℕ) → IsPrintable word → word_in (printed_word word) (printed_token word) ≡ word
printed_means word able =
    let one = printed_as word [] able refl in
    one_word (printed_word word) (printed_kind word) one.0 one.1.spells one.1.stands one.1.kind ∙ one.1.means
