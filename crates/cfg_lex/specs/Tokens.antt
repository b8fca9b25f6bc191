-- The tokens of a configuration text, and the leftmost fault of one that has none. Junos OS CLI User Guide, on configuration statements;
-- the faults are this project's own.
use Rattle.std.specs.Prelude.{◌≡◌, ◌⊎◌, ◌<◌, ◌≤◌, ◌+◌, ◌-◌, ℕ, List, [], ◌∷◌, ◌++◌, ◌==◌, length, take, drop}
use Rattle.std.specs.Prelude.{min, true, false, Option, Some, None}
use Rattle.std.specs.List.{list_all, list_any, flat_map}
pub use Rattle.cfg_base.specs.Bytes.{between}
use Rattle.cfg_lex.specs.declared.token.TokenKind.{TokenKind}
use Rattle.cfg_lex.specs.declared.token.TokenKind.TheVariants.{OpenBrace, CloseBrace, OpenBracket, CloseBracket, Semicolon, Bare, Quoted}
use Rattle.cfg_lex.specs.declared.token.Token.{Token}
use Rattle.cfg_lex.specs.declared.fault.Cause.{Cause}
use Rattle.cfg_lex.specs.declared.fault.Cause.TheVariants as cause
use Rattle.cfg_lex.specs.declared.fault.LexFault.{LexFault}
use Rattle.cfg_lex.specs.declared.fault.LexFault.TheVariants.{BadByte, OpenComment, OpenQuote, LongWord}
use Rattle.cfg_lex.specs.Bytes.{begins_with, closes, is_inside, is_printing, unescaped}
use Rattle.cfg_lex.specs.Lexeme.{Lexeme, QuotedWord, spelled, kind_of, word_of, IsShaped, BeginsWith}

-- the token of a kind, of that many bytes from a place on; none where there is no kind
abbrev pub token_at : Option TokenKind → ℕ → ℕ → List Token
token_at None place count = []
token_at (Some kind) place count = record { kind = kind; start = place; end = place + count } ∷ []

-- the tokens of lexemes that stand from a place on
abbrev pub tokens_at : ℕ → List Lexeme → List Token
tokens_at place [] = []
tokens_at place (lexeme ∷ lexemes) =
    token_at (kind_of lexeme) place (length (spelled lexeme)) ++ tokens_at (place + length (spelled lexeme)) lexemes

-- the tokens of a text: it is made of lexemes, and they are those among them
pub record IsTokens (text : List ℕ) (tokens : List Token) : Type 0 where
  pub lexemes : List Lexeme
  pub whole : BeginsWith lexemes text []
  pub listed : tokens ≡ tokens_at 0 lexemes

-- the word that a token's bytes mean; of a token that is no word the empty one
abbrev pub word_spelled : TokenKind → List ℕ → List ℕ
word_spelled OpenBrace bytes = []
word_spelled CloseBrace bytes = []
word_spelled OpenBracket bytes = []
word_spelled CloseBracket bytes = []
word_spelled Semicolon bytes = []
word_spelled Bare bytes = bytes
word_spelled Quoted bytes = unescaped false (between bytes)

-- the bytes of a token in its text
abbrev pub bytes_in : List ℕ → Token → List ℕ
bytes_in text token = take (token.end - token.start) (drop token.start text)

-- the word of a token in its text
abbrev pub word_in : List ℕ → Token → List ℕ
word_in text token = word_spelled token.kind (bytes_in text token)

-- a token stands in its text, and its word has at most 255 bytes
pub record IsPlaced (text : List ℕ) (token : Token) : Type 0 where
  pub some : token.start < token.end
  pub within : token.end ≤ length text
  pub short : length (word_in text token) ≤ 255

-- the words of the tokens among lexemes, in their order
abbrev pub word_at : Option TokenKind → List ℕ → List (List ℕ)
word_at None word = []
word_at (Some kind) word = word ∷ []

abbrev pub words_of : List Lexeme → List (List ℕ)
words_of [] = []
words_of (lexeme ∷ lexemes) = word_at (kind_of lexeme) (word_of lexeme) ++ words_of lexemes

-- a quoted word with a backslash in it
pub record HasBackslash (text : List ℕ) (token : Token) : Type 0 where
  pub quoted : token.kind ≡ Quoted
  pub backslash : list_any (λ b. b == 92) (between (bytes_in text token)) ≡ true

-- a byte that begins no lexeme, and neither a comment nor a quoted word that isn't closed
pub record IsStray (text : List ℕ) : Type 0 where
  pub byte : ℕ
  pub rest : List ℕ
  pub joined : text ≡ byte ∷ rest
  pub no_quote : byte ≡ 34 → ⊥
  pub no_comment : byte ≡ 47 → begins_with 42 rest ≡ true → ⊥
  pub no_lexeme : (lexeme : Lexeme) (behind : List ℕ) → text ≡ spelled lexeme ++ behind → IsShaped lexeme behind → ⊥

-- the first byte of a quoted word that may not stand in one, after its quote and the bytes before it; the word itself isn't too long
pub record IsNotPrinting (text : List ℕ) (offset : ℕ) : Type 0 where
  pub front : List ℕ
  pub byte : ℕ
  pub back : List ℕ
  pub behind : List ℕ
  pub joined : text ≡ spelled (QuotedWord (front ++ byte ∷ back)) ++ behind
  pub inside : is_inside false (front ++ byte ∷ back) ≡ true
  pub short : length (unescaped false (front ++ byte ∷ back)) ≤ 255
  pub before : list_all is_printing front ≡ true
  pub bad : is_printing byte ≡ false
  pub place : offset ≡ 1 + length front

-- a comment without its end
pub record IsOpenComment (text : List ℕ) : Type 0 where
  pub bytes : List ℕ
  pub joined : text ≡ 47 ∷ 42 ∷ bytes
  pub unclosed : closes bytes ≡ false

-- a quoted word without its end
pub record IsOpenQuote (text : List ℕ) : Type 0 where
  pub bytes : List ℕ
  pub joined : text ≡ 34 ∷ bytes
  pub unclosed : (inside behind : List ℕ) → bytes ≡ inside ++ 34 ∷ behind → is_inside false inside ≡ true → ⊥

-- a word of over 255 bytes
pub record IsLong (text : List ℕ) : Type 0 where
  pub lexeme : Lexeme
  pub behind : List ℕ
  pub joined : text ≡ spelled lexeme ++ behind
  pub shaped : IsShaped lexeme behind
  pub long : 255 < length (word_of lexeme)

-- what is wrong with a text's front, and how many bytes from its first one
abbrev pub FaultAt : List ℕ → Cause → ℕ → Type 0
FaultAt text cause.BadByte offset = (IsStray text × (offset ≡ 0)) ⊎ IsNotPrinting text offset
FaultAt text cause.OpenComment offset = IsOpenComment text × (offset ≡ 0)
FaultAt text cause.OpenQuote offset = IsOpenQuote text × (offset ≡ 0)
FaultAt text cause.LongWord offset = IsLong text × (offset ≡ 0)

-- a number in 32 bits; one that they can't hold is reported as the last that they can
abbrev pub capped : ℕ → ℕ
capped n = min n 4294967295

-- a fault with its place
abbrev pub fault_at : Cause → ℕ → LexFault
fault_at cause.BadByte place = BadByte (capped place)
fault_at cause.OpenComment place = OpenComment (capped place)
fault_at cause.OpenQuote place = OpenQuote (capped place)
fault_at cause.LongWord place = LongWord (capped place)

-- the leftmost fault of a text: lexemes stand up to where it is
pub record IsLeftmostFault (text : List ℕ) (fault : LexFault) : Type 0 where
  pub lexemes : List Lexeme
  pub rest : List ℕ
  pub cause : Cause
  pub offset : ℕ
  pub front : BeginsWith lexemes text rest
  pub wrong : FaultAt rest cause offset
  pub told : fault ≡ fault_at cause (length (flat_map spelled lexemes) + offset)

-- a text's tokens: up to its end, or up to its leftmost fault where it has one
abbrev pub IsCut : List ℕ → List Token → Option LexFault → Type 0
IsCut text tokens None = IsTokens text tokens
IsCut text tokens (Some fault) = (leftmost : IsLeftmostFault text fault) × (tokens ≡ tokens_at 0 leftmost.lexemes)

-- a text has its tokens, or its leftmost fault
abbrev pub HasAnswer : List ℕ → Type 0
HasAnswer text = ((tokens : List Token) × IsTokens text tokens) ⊎ ((fault : LexFault) × IsLeftmostFault text fault)
