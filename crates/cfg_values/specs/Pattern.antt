-- Wildcard names: `<`, a pattern and `>`. The bytes and the length are this project's own.
use Rattle.std.specs.Prelude.{◌≡◌, ◌<◌, ◌≤◌, ℕ, List, [], ◌∷◌, ◌++◌, length, Bool, ◌||◌, ◌&&◌, ◌==◌, not, nat_le, IsTrue}
use Rattle.std.specs.List.{list_all, list_any}

-- the printable bytes that a bare word can't have: { } [ ] ; " # \ < >
abbrev pub special_bytes : List ℕ
special_bytes = 123 ∷ 125 ∷ 91 ∷ 93 ∷ 59 ∷ 34 ∷ 35 ∷ 92 ∷ 60 ∷ 62 ∷ []

-- a byte of a bare word: 0x21 to 0x7E, and not special
abbrev pub is_bare_byte : ℕ → Bool
is_bare_byte b = (nat_le 33 b && nat_le b 126) && not (list_any (λ special. b == special) special_bytes)

-- a byte of a pattern: bare, or a bracket
abbrev pub is_pattern_byte : ℕ → Bool
is_pattern_byte b = is_bare_byte b || (b == 91 || b == 93)

-- `<`, 1 to 62 bytes of a pattern, and `>`
pub record IsPattern (bytes : List ℕ) : Type 0 where
  pub inner : List ℕ
  pub some : 0 < length inner
  pub short : length inner ≤ 62
  pub each : IsTrue (list_all is_pattern_byte inner)
  pub spelled : bytes ≡ 60 ∷ (inner ++ 62 ∷ [])
