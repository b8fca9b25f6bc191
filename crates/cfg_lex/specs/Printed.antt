-- How a word is printed, so that it is read again as that word. This project's own.
use Rattle.std.specs.Prelude.{◌≡◌, ◌≤◌, Some, ℕ, List, [], ◌∷◌, ◌++◌, length, ◌-◌}
use Rattle.std.specs.Prelude.{Bool, true, ◌||◌, ◌&&◌, ◌==◌, nat_lt, not, if◌then◌else◌, slice_index}
use Rattle.std.specs.List.{flat_map, list_all}
use Rattle.cfg_lex.specs.declared.token.TokenKind.{TokenKind}
use Rattle.cfg_lex.specs.declared.token.TokenKind.TheVariants.{Bare, Quoted}
use Rattle.cfg_lex.specs.declared.token.Token.{Token}
use Rattle.cfg_lex.specs.Bytes.{is_run, is_angle_byte, is_printing}
use Rattle.cfg_lex.specs.Lexeme.{Lexeme, spelled, kind_of, word_of, Stands}
use Rattle.cfg_lex.specs.Mark.{is_mark}
use Rattle.cfg_lex.specs.Tokens.{between}

-- a wildcard name: 1 to 62 bytes between angles
abbrev pub is_wildcard : List ℕ → Bool
is_wildcard word =
    (nat_lt 2 (length word) && nat_lt (length word) 65)
    && ((slice_index word 0 == 60 && slice_index word (length word - 1) == 62) && list_all is_angle_byte (between word))

-- a word that is printed as it is: not empty, no mark, and either a wildcard name or made of bare bytes without `/*` among them
abbrev pub is_plain : List ℕ → Bool
is_plain word = not (length word == 0) && (not (is_mark word) && (is_wildcard word || is_run word))

-- a byte inside quotes: a quote and a backslash have a backslash before them
abbrev pub escaped : ℕ → List ℕ
escaped b = if b == 34 || b == 92 then 92 ∷ b ∷ [] else b ∷ []

-- a word as it is printed: as it is, or in quotes
abbrev pub printed_word : List ℕ → List ℕ
printed_word word = if is_plain word then word else 34 ∷ (flat_map escaped word ++ 34 ∷ [])

-- the token that a printed word is
abbrev pub printed_kind : List ℕ → TokenKind
printed_kind word = if is_plain word then Bare else Quoted

abbrev pub printed_token : List ℕ → Token
printed_token word = record { kind = printed_kind word; start = 0; end = length (printed_word word) }

-- a word that can be printed so that it is read again: at most 255 bytes, from 0x20 to 0x7E
pub record IsPrintable (word : List ℕ) : Type 0 where
  pub short : length word ≤ 255
  pub printing : list_all is_printing word ≡ true

-- what is printed of a word is one lexeme before what follows, and that word
pub record IsPrintedAs (word rest : List ℕ) (lexeme : Lexeme) : Type 0 where
  pub spells : spelled lexeme ≡ printed_word word
  pub stands : Stands lexeme rest
  pub kind : kind_of lexeme ≡ Some (printed_kind word)
  pub means : word_of lexeme ≡ word
