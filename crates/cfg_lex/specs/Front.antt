-- What stands at the front of a text, as a plain program finds it. The laws in proofs/ tie it to the lexemes.
use Rattle.std.specs.Prelude.{◌+◌, ℕ, List, [], ◌∷◌, length, take, drop, Bool, true, false, ◌&&◌, ◌==◌, nat_lt}
use Rattle.std.specs.Prelude.{if◌then◌else◌, Option, Some, None}
use Rattle.std.specs.List.{prefix_len}
use Rattle.cfg_lex.specs.declared.token.TokenKind.{TokenKind}
use Rattle.cfg_lex.specs.declared.token.TokenKind.TheVariants as kind
use Rattle.cfg_lex.specs.declared.fault.Cause.TheVariants.{BadByte, OpenComment, OpenQuote, LongWord}
use Rattle.cfg_lex.specs.declared.front.Front.{Front}
use Rattle.cfg_lex.specs.declared.front.Front.TheVariants.{Gap, Token, Fault}
use Rattle.cfg_lex.specs.Bytes.{is_space, is_in_line, is_in_run, is_angle_byte, is_printing, sign_of, begins_with, unescaped}

-- a place that is one byte further on
abbrev pub later : Option ℕ → Option ℕ
later None = None
later (Some place) = Some (1 + place)

-- how many bytes of a bare word a text begins with
abbrev pub bare_len : List ℕ → ℕ
bare_len [] = 0
bare_len (b ∷ bytes) = if is_in_run b bytes then 1 + bare_len bytes else 0

-- where the first `*/` begins
abbrev pub close_of : List ℕ → Option ℕ
close_of [] = None
close_of (b ∷ bytes) = if b == 42 && begins_with 47 bytes then Some 0 else later (close_of bytes)

-- where the first quote stands that no backslash takes up; the test says whether a backslash stands before these bytes
abbrev pub quote_of : Bool → List ℕ → Option ℕ
quote_of backslash [] = None
quote_of true (b ∷ bytes) = later (quote_of false bytes)
quote_of false (b ∷ bytes) = if b == 34 then Some 0 else later (quote_of (b == 92) bytes)

-- a word of that many bytes, which takes so many of the text
abbrev pub word_front : TokenKind → ℕ → ℕ → Front
word_front kind size count = if nat_lt 255 size then Fault LongWord 0 else Token kind count

-- the front of a text that begins with no other byte
abbrev pub bare_front : ℕ → Front
bare_front count = if count == 0 then Fault BadByte 0 else word_front kind.Bare count count

-- what stands after a `<`, which so many bytes of an angle word follow
abbrev pub angle_front : ℕ → List ℕ → Front
angle_front count rest =
    if nat_lt 0 count && begins_with 62 (drop count rest) then word_front kind.Bare (count + 2) (count + 2) else Fault BadByte 0

-- what stands in quotes, of which so many bytes at the front may stand there
abbrev pub quoted_front : List ℕ → ℕ → Front
quoted_front inside printing =
    if nat_lt 255 (length (unescaped false inside))
    then Fault LongWord 0
    else (if printing == length inside then Token kind.Quoted (length inside + 2) else Fault BadByte (1 + printing))

-- what stands after a quote, by where the next one is
abbrev pub quote_front : List ℕ → Option ℕ → Front
quote_front rest None = Fault OpenQuote 0
quote_front rest (Some count) = quoted_front (take count rest) (prefix_len is_printing (take count rest))

-- what stands after `/*`, by where the next `*/` is
abbrev pub comment_front : Option ℕ → Front
comment_front None = Fault OpenComment 0
comment_front (Some count) = Gap (count + 4)

-- a sign, or else a word that may be bare
abbrev pub sign_front : Option TokenKind → Front → Front
sign_front (Some kind) other = Token kind 1
sign_front None other = other

-- what stands at the front of a text that isn't empty
abbrev pub front_of : List ℕ → Front
front_of [] = Gap 0
front_of (b ∷ rest) =
    if is_space b
    then Gap 1
    else (if b == 35
    then Gap (1 + prefix_len is_in_line rest)
    else (if b == 34
    then quote_front rest (quote_of false rest)
    else (if b == 60
    then angle_front (prefix_len is_angle_byte rest) rest
    else (if b == 47 && begins_with 42 rest
    then comment_front (close_of (drop 1 rest))
    else sign_front (sign_of b) (bare_front (bare_len (b ∷ rest)))))))
