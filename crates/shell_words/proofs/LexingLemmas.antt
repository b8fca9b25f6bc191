-- The tokens of a line of words, quoted words and brackets with single spaces between them, as a plain program finds them.
use Rattle.std.proofs.Common.{◌≡◌, ◌<◌, ◌≤◌, ◌-◌, ℕ, List, [], ◌∷◌, ◌++◌, length, take, drop, flat_map, Bool, true, false, not, ◌&&◌, Option, None, Some, refl, ap, subst, arith, if◌then◌else◌}
use Rattle.std.specs.Prelude.{◌==◌, nat_le, nat_lt}
use Rattle.std.specs.List.{list_all}
use Rattle.std.proofs.lemmas.Bool.{false≢true, and_parts, eqb-true}
use Rattle.std.proofs.lemmas.Bool.Decides.{nat_tests}
use Rattle.cfg_base.specs.Words.{same_word}
use Rattle.cfg_lex.specs.declared.token.TokenKind.{TokenKind}
use Rattle.cfg_lex.specs.declared.token.TokenKind.TheVariants as kind
use Rattle.cfg_lex.specs.Bytes.{is_space, is_printing, is_run, is_inside, goes_on, sign_of, unescaped}
use Rattle.cfg_lex.specs.Lexeme.{Lexeme, Space, LineComment, Comment, Sign, BareWord, AngleWord, QuotedWord, spelled, Stands, BeginsWith}
use Rattle.cfg_lex.specs.Tokens.{tokens_at, IsCut}
use Rattle.shell_words.proofs.SymbolLemmas.{same_is}

-- what stands between the spaces of a line that are in no quotes
abbrev in_first : ℕ → List (List ℕ) → List (List ℕ)
in_first b [] = (b ∷ []) ∷ []
in_first b (piece ∷ pieces) = (b ∷ piece) ∷ pieces

abbrev add_byte : Bool → ℕ → List (List ℕ) → List (List ℕ)
add_byte true b pieces = [] ∷ pieces
add_byte false b pieces = in_first b pieces

abbrev pieces_of : Bool → List ℕ → List (List ℕ)
pieces_of quoted [] = [] ∷ []
pieces_of quoted (b ∷ bytes) = add_byte (b == 32 && not quoted) b (pieces_of (if b == 34 then not quoted else quoted) bytes)

-- a sign, a quoted word or a bare one
abbrev lexeme_at : Option TokenKind → ℕ → List ℕ → Lexeme
lexeme_at (Some kind) b bytes = Sign b kind
lexeme_at None b bytes = if b == 34 then QuotedWord (take (length bytes - 1) bytes) else BareWord (b ∷ bytes)

abbrev lexemes_of : List ℕ → List Lexeme
lexemes_of [] = []
lexemes_of (b ∷ bytes) = lexeme_at (sign_of b) b bytes ∷ []

abbrev behind_spaces : List (List ℕ) → List Lexeme
behind_spaces [] = []
behind_spaces (piece ∷ pieces) = Space 32 ∷ (lexemes_of piece ++ behind_spaces pieces)

-- the lexemes of a line
abbrev pub lexemes_in : List ℕ → List Lexeme
lexemes_in line = drop 1 (behind_spaces (pieces_of false line))

-- the byte is this bracket
abbrev is_bracket : ℕ → TokenKind → Bool
is_bracket b kind.OpenBrace = false
is_bracket b kind.CloseBrace = false
is_bracket b kind.OpenBracket = b == 91
is_bracket b kind.CloseBracket = b == 93
is_bracket b kind.Semicolon = false
is_bracket b kind.Bare = false
is_bracket b kind.Quoted = false

-- a test that a lexeme stands before what follows
abbrev stands : Lexeme → List ℕ → Bool
stands (Space byte) rest = is_space byte
stands (LineComment bytes) rest = false
stands (Comment bytes) rest = false
stands (Sign byte kind) rest = is_bracket byte kind
stands (BareWord bytes) rest = (nat_lt 0 (length bytes) && nat_le (length bytes) 255) && (is_run bytes && not (goes_on rest))
stands (AngleWord bytes) rest = false
stands (QuotedWord bytes) rest = nat_le (length (unescaped false bytes)) 255 && (is_inside false bytes && list_all is_printing bytes)

abbrev all_stand : List Lexeme → Bool
all_stand [] = true
all_stand (lexeme ∷ lexemes) = stands lexeme (flat_map spelled lexemes) && all_stand lexemes

-- a test that the line is made of these lexemes
abbrev pub is_simple : List ℕ → Bool
is_simple line = all_stand (lexemes_in line) && same_word (flat_map spelled (lexemes_in line)) line

bracket_is : (b : ℕ) (kind : TokenKind) → is_bracket b kind ≡ true → sign_of b ≡ Some kind
bracket_is b kind.OpenBrace e = absurd (false≢true e)
bracket_is b kind.CloseBrace e = absurd (false≢true e)
bracket_is b kind.OpenBracket e = ap sign_of (eqb-true b 91 e)
bracket_is b kind.CloseBracket e = ap sign_of (eqb-true b 93 e)
bracket_is b kind.Semicolon e = absurd (false≢true e)
bracket_is b kind.Bare e = absurd (false≢true e)
bracket_is b kind.Quoted e = absurd (false≢true e)

at_most : (n m : ℕ) → nat_le n m ≡ true → n ≤ m
at_most n m h = grind (arith, nat_tests)

less : (n m : ℕ) → nat_lt n m ≡ true → n < m
less n m h = grind (arith, nat_tests)

is_false : (t : Bool) → not t ≡ true → t ≡ false
is_false true e = absurd (false≢true e)
is_false false e = refl

stand : (lexeme : Lexeme) (rest : List ℕ) → stands lexeme rest ≡ true → Stands lexeme rest
stand (Space byte) rest e = record { shaped = e; short = omega arith; printing = tt }
stand (LineComment bytes) rest e = absurd (false≢true e)
stand (Comment bytes) rest e = absurd (false≢true e)
stand (Sign byte kind) rest e = record { shaped = bracket_is byte kind e; short = omega arith; printing = tt }
stand (BareWord bytes) rest e =
    let both = and_parts (nat_lt 0 (length bytes) && nat_le (length bytes) 255) (is_run bytes && not (goes_on rest)) e in
    let sized = and_parts (nat_lt 0 (length bytes)) (nat_le (length bytes) 255) both.0 in
    let run = and_parts (is_run bytes) (not (goes_on rest)) both.1 in
    record { shaped = (less 0 (length bytes) sized.0, run.0, is_false (goes_on rest) run.1); short = at_most (length bytes) 255 sized.1; printing = tt }
stand (AngleWord bytes) rest e = absurd (false≢true e)
stand (QuotedWord bytes) rest e =
    let sized = and_parts (nat_le (length (unescaped false bytes)) 255) (is_inside false bytes && list_all is_printing bytes) e in
    let both = and_parts (is_inside false bytes) (list_all is_printing bytes) sized.1 in
    record { shaped = both.0; short = at_most (length (unescaped false bytes)) 255 sized.0; printing = both.1 }

begins : (lexemes : List Lexeme) → all_stand lexemes ≡ true → BeginsWith lexemes (flat_map spelled lexemes) []
begins [] e = refl
begins (lexeme ∷ lexemes) e =
    let both = and_parts (stands lexeme (flat_map spelled lexemes)) (all_stand lexemes) e in
    (flat_map spelled lexemes, refl, stand lexeme (flat_map spelled lexemes) both.0, begins lexemes both.1)

-- such a line is cut into the tokens of its lexemes
pub cut_simple : (line : List ℕ) → is_simple line ≡ true → IsCut line (tokens_at 0 (lexemes_in line)) None
cut_simple line e =
    let both = and_parts (all_stand (lexemes_in line)) (same_word (flat_map spelled (lexemes_in line)) line) e in
    record {
      lexemes = lexemes_in line;
      whole = subst (λ text. BeginsWith (lexemes_in line) text []) (same_is (flat_map spelled (lexemes_in line)) line both.1) (begins (lexemes_in line) both.0);
      listed = refl;
    }
