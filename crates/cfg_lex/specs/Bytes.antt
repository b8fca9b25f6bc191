-- The bytes of a configuration text. Junos OS CLI User Guide, on configuration statements and on comments; which bytes a word may have is
-- this project's own.
use Rattle.std.specs.Prelude.{ℕ, List, [], ◌∷◌, ◌++◌, Bool, true, false, ◌||◌, ◌&&◌, ◌==◌, not, nat_le, Option, Some, None, if◌then◌else◌}
pub use Rattle.cfg_base.specs.Bytes.{is_printing}
use Rattle.cfg_lex.specs.declared.token.TokenKind.{TokenKind}
use Rattle.cfg_lex.specs.declared.token.TokenKind.TheVariants.{OpenBrace, CloseBrace, OpenBracket, CloseBracket, Semicolon}

-- white space: a space, a tab, a line feed or a carriage return
abbrev pub is_space : ℕ → Bool
is_space b = b == 32 || (b == 9 || (b == 10 || b == 13))

-- a byte of a bare word: 0x21 to 0x7E, but none of { } [ ] ; " # \ < >
abbrev pub is_bare : ℕ → Bool
is_bare b =
    (nat_le 33 b && nat_le b 126)
    && not (b == 123 || (b == 125 || (b == 91 || (b == 93 || (b == 59 || (b == 34 || (b == 35 || (b == 92 || (b == 60 || b == 62)))))))))

-- a byte of an angle word, between its angles: bare, or a bracket
abbrev pub is_angle_byte : ℕ → Bool
is_angle_byte b = is_bare b || (b == 91 || b == 93)

-- a byte of a line's rest
abbrev pub is_in_line : ℕ → Bool
is_in_line b = not (b == 10)

-- the token that a brace, a bracket or a semicolon is
abbrev pub sign_of : ℕ → Option TokenKind
sign_of b =
    if b == 123
    then Some OpenBrace
    else (if b == 125 then Some CloseBrace else (if b == 91 then Some OpenBracket else (if b == 93 then Some CloseBracket else (if b == 59 then Some Semicolon else None))))

-- the byte is the first of these
abbrev pub begins_with : ℕ → List ℕ → Bool
begins_with byte [] = false
begins_with byte (b ∷ bytes) = b == byte

-- a byte, before those that follow it, belongs to a bare word: it is bare, and no `/*` begins there
abbrev pub is_in_run : ℕ → List ℕ → Bool
is_in_run b bytes = is_bare b && not (b == 47 && begins_with 42 bytes)

-- each byte belongs to a bare word: all are bare, and no `/*` is among them
abbrev pub is_run : List ℕ → Bool
is_run [] = true
is_run (b ∷ bytes) = is_in_run b bytes && is_run bytes

-- a bare word goes on with the first of these bytes
abbrev pub goes_on : List ℕ → Bool
goes_on [] = false
goes_on (b ∷ bytes) = is_in_run b bytes

-- a `*/` is among the bytes
abbrev pub closes : List ℕ → Bool
closes [] = false
closes (b ∷ bytes) = (b == 42 && begins_with 47 bytes) || closes bytes

-- bytes that may stand in quotes as they are written: a quote stands only right after a backslash that no backslash takes up. The test
-- says whether the byte before them is such a backslash.
abbrev pub is_inside : Bool → List ℕ → Bool
is_inside backslash [] = not backslash
is_inside true (b ∷ bytes) = is_inside false bytes
is_inside false (b ∷ bytes) = not (b == 34) && is_inside (b == 92) bytes

-- what a byte in quotes stands for, after a backslash or not: \" and \\ stand for a quote and a backslash, and any other backslash for
-- itself. A backslash is read with the byte after it.
abbrev pub read_byte : Bool → ℕ → List ℕ
read_byte true b = if b == 34 || b == 92 then b ∷ [] else 92 ∷ b ∷ []
read_byte false b = if b == 92 then [] else b ∷ []

-- the byte is a backslash that takes up the byte after it
abbrev pub is_escape : Bool → ℕ → Bool
is_escape true b = false
is_escape false b = b == 92

-- the word that bytes in quotes are
abbrev pub unescaped : Bool → List ℕ → List ℕ
unescaped true [] = 92 ∷ []
unescaped false [] = []
unescaped backslash (b ∷ bytes) = read_byte backslash b ++ unescaped (is_escape backslash b) bytes
