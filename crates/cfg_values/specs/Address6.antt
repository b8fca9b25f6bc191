-- IPv6 addresses, as groups of hexadecimal digits joined by colons; prefixes, as an address and a length.
-- RFC 4291, section 2.2, for the texts that are read, and RFC 5952, section 4, for the one that is kept. That no dotted ending
-- is read or written is this project's own.
use Rattle.std.specs.Prelude.{◌≡◌, ◌≤◌, ◌⊎◌, ℕ, List, ◌∷◌, ◌++◌, Bool, ◌||◌, ◌&&◌, nat_le, IsTrue}
use Rattle.std.specs.List.{list_all}
use Rattle.std.specs.Fmt.{decimal}
use Rattle.std.specs.Net.Grammar.{IsColonHex}
use Rattle.std.specs.Net.Text.{hex_groups_text}

-- a hexadecimal digit of either case, or a colon, which comes right after 9 in ASCII
abbrev pub is_group_byte : ℕ → Bool
is_group_byte b = (nat_le 48 b && nat_le b 58) || ((nat_le 65 b && nat_le b 70) || (nat_le 97 b && nat_le b 102))

-- eight groups of 1 to 4 digits, or fewer round a `::`, which stands for one zero group or more; all of such bytes alone
pub record IsAddress6 (bytes groups : List ℕ) : Type 0 where
  pub bare : IsTrue (list_all is_group_byte bytes)
  pub spelled : IsColonHex bytes groups

-- an address and how many of its bits count
pub record Network6 : Type 0 where
  pub groups : List ℕ
  pub bits : ℕ

-- the network of that address and length
abbrev pub network6 : List ℕ → ℕ → Network6
network6 groups bits = record { groups = groups; bits = bits }

-- an address, a slash, and the length 0 to 128 without leading zeros
pub record IsNetwork6 (bytes : List ℕ) (net : Network6) : Type 0 where
  pub text : List ℕ
  pub address : IsAddress6 text net.groups
  pub within : net.bits ≤ 128
  pub spelled : bytes ≡ text ++ 47 ∷ decimal net.bits

-- an address alone, whose length is 128
pub record IsHostRoute6 (bytes : List ℕ) (net : Network6) : Type 0 where
  pub address : IsAddress6 bytes net.groups
  pub whole : net.bits ≡ 128

-- a prefix: with its length, or an address alone
abbrev pub IsPrefix6 : List ℕ → Network6 → Type 0
IsPrefix6 bytes net = IsHostRoute6 bytes net ⊎ IsNetwork6 bytes net

-- the groups in lower case without leading zeros, `::` in place of the longest run of two zero groups or more, of two such runs
-- the first; a slash and the length
abbrev pub prefix6_text : Network6 → List ℕ
prefix6_text net = hex_groups_text net.groups ++ 47 ∷ decimal net.bits
