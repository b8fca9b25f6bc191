-- The kinds of words that a user's name and a host's name are. The ranges are this project's own.
use Rattle.std.specs.Prelude.{ℕ, List, length, Bool, ◌||◌, ◌&&◌, ◌==◌, ◌<◌, ◌≤◌, nat_le, IsTrue}
use Rattle.std.specs.List.{list_all}

-- a letter of ASCII, or a decimal digit
abbrev pub is_alphanumeric : ℕ → Bool
is_alphanumeric b = (nat_le 65 b && nat_le b 90) || ((nat_le 97 b && nat_le b 122) || (nat_le 48 b && nat_le b 57))

-- a letter, a digit, or one of . _ - : / + @
abbrev pub is_name_byte : ℕ → Bool
is_name_byte b =
    is_alphanumeric b
    || (b == 46 || (b == 95 || (b == 45 || (b == 58 || (b == 47 || (b == 43 || b == 64))))))

-- a letter, a digit, or one of . - _
abbrev pub is_host_byte : ℕ → Bool
is_host_byte b = is_alphanumeric b || (b == 46 || (b == 45 || b == 95))

-- the name of a user, a group or a policy: 1 to 64 such bytes
abbrev pub IsName : List ℕ → Type 0
IsName bytes = (0 < length bytes) × (length bytes ≤ 64) × IsTrue (list_all is_name_byte bytes)

-- the name of a host or a domain: 1 to 255 such bytes
abbrev pub IsHost : List ℕ → Type 0
IsHost bytes = (0 < length bytes) × (length bytes ≤ 255) × IsTrue (list_all is_host_byte bytes)
