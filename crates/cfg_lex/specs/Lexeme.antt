-- What a configuration text is made of. Junos OS CLI User Guide, on configuration statements and on comments; the quotes' escapes, angle
-- words and the longest word are this project's own.
use Rattle.std.specs.Prelude.{◌≡◌, ◌<◌, ◌≤◌, ℕ, List, [], ◌∷◌, ◌++◌, length, true, false, Option, Some, None}
use Rattle.std.specs.List.{list_all}
use Rattle.cfg_lex.specs.declared.token.TokenKind.{TokenKind}
use Rattle.cfg_lex.specs.declared.token.TokenKind.TheVariants.{Bare, Quoted}
use Rattle.cfg_lex.specs.Bytes.{is_space, is_in_line, is_run, goes_on, is_angle_byte, is_printing, sign_of, closes, is_inside, unescaped}

-- a part of a text: white space, a comment, a sign or a word
pub data Lexeme : Type 0 where
  Space : (byte : ℕ) → Lexeme
  LineComment : (bytes : List ℕ) → Lexeme
  Comment : (bytes : List ℕ) → Lexeme
  Sign : (byte : ℕ) → (kind : TokenKind) → Lexeme
  BareWord : (bytes : List ℕ) → Lexeme
  AngleWord : (bytes : List ℕ) → Lexeme
  QuotedWord : (bytes : List ℕ) → Lexeme

-- how a lexeme is written: `#` to the line's end, `/* .. */`, a bare word, `<..>`, a word in quotes
abbrev pub spelled : Lexeme → List ℕ
spelled (Space byte) = byte ∷ []
spelled (LineComment bytes) = 35 ∷ bytes
spelled (Comment bytes) = 47 ∷ 42 ∷ (bytes ++ 42 ∷ 47 ∷ [])
spelled (Sign byte kind) = byte ∷ []
spelled (BareWord bytes) = bytes
spelled (AngleWord bytes) = 60 ∷ (bytes ++ 62 ∷ [])
spelled (QuotedWord bytes) = 34 ∷ (bytes ++ 34 ∷ [])

-- the token that a lexeme is: white space and comments are none
abbrev pub kind_of : Lexeme → Option TokenKind
kind_of (Space byte) = None
kind_of (LineComment bytes) = None
kind_of (Comment bytes) = None
kind_of (Sign byte kind) = Some kind
kind_of (BareWord bytes) = Some Bare
kind_of (AngleWord bytes) = Some Bare
kind_of (QuotedWord bytes) = Some Quoted

-- the word that a lexeme means; of a lexeme that is no word the empty one
abbrev pub word_of : Lexeme → List ℕ
word_of (Space byte) = []
word_of (LineComment bytes) = []
word_of (Comment bytes) = []
word_of (Sign byte kind) = []
word_of (BareWord bytes) = bytes
word_of (AngleWord bytes) = 60 ∷ (bytes ++ 62 ∷ [])
word_of (QuotedWord bytes) = unescaped false bytes

-- the bytes are none, or begin with a line feed
abbrev pub EndsLine : List ℕ → Type 0
EndsLine [] = Unit {0}
EndsLine (b ∷ bytes) = b ≡ 10

-- the lexeme may stand before what follows: a comment is closed by the first `*/`, a quoted word by the first quote that no backslash
-- takes up, and a bare word is as long as it can be
abbrev pub IsShaped : Lexeme → List ℕ → Type 0
IsShaped (Space byte) rest = is_space byte ≡ true
IsShaped (LineComment bytes) rest = (list_all is_in_line bytes ≡ true) × EndsLine rest
IsShaped (Comment bytes) rest = closes (bytes ++ 42 ∷ []) ≡ false
IsShaped (Sign byte kind) rest = sign_of byte ≡ Some kind
IsShaped (BareWord bytes) rest = (0 < length bytes) × (is_run bytes ≡ true) × (goes_on rest ≡ false)
IsShaped (AngleWord bytes) rest = (0 < length bytes) × (list_all is_angle_byte bytes ≡ true)
IsShaped (QuotedWord bytes) rest = is_inside false bytes ≡ true

-- quotes hold printing bytes alone
abbrev pub IsPrinting : Lexeme → Type 0
IsPrinting (Space byte) = Unit {0}
IsPrinting (LineComment bytes) = Unit {0}
IsPrinting (Comment bytes) = Unit {0}
IsPrinting (Sign byte kind) = Unit {0}
IsPrinting (BareWord bytes) = Unit {0}
IsPrinting (AngleWord bytes) = Unit {0}
IsPrinting (QuotedWord bytes) = list_all is_printing bytes ≡ true

-- the lexeme stands before what follows, and is no fault: a word has at most 255 bytes
pub record Stands (lexeme : Lexeme) (rest : List ℕ) : Type 0 where
  pub shaped : IsShaped lexeme rest
  pub short : length (word_of lexeme) ≤ 255
  pub printing : IsPrinting lexeme

-- a text begins with these lexemes, and the rest is left
abbrev pub BeginsWith : List Lexeme → List ℕ → List ℕ → Type 0
BeginsWith [] text rest = text ≡ rest
BeginsWith (lexeme ∷ lexemes) text rest =
    (behind : List ℕ) × (text ≡ spelled lexeme ++ behind) × Stands lexeme behind × BeginsWith lexemes behind rest
