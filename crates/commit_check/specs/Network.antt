-- Routes whose prefixes have bits past their length. RFC 4632, section 3.1, on the notation of prefixes; that the bits past the length
-- must be 0 is this project's own. Bytes by number: . is 46, / is 47.
use Rattle.std.specs.Prelude.{◌≡◌, ◌≢◌, ◌==◌, ℕ, ◌+◌, ◌-◌, ◌*◌, ◌^◌, ◌%◌, nat_lt, nat_le, Bool, true, not, ◌&&◌, List, [], ◌∷◌}
use Rattle.std.specs.Prelude.{map, length, Option, Some, None, if◌then◌else◌}
use Rattle.std.specs.List.{before_first, after_first, list_all, slice_split}
use Rattle.std.specs.Int.{w32, from_be_bytes}
use Rattle.std.specs.Str.Parse.{digits_value}
use Rattle.cfg_base.specs.declared.path.Step.{Step}
use Rattle.cfg_base.specs.declared.kind.Kind.TheVariants.{Prefix, Prefix6}
use Rattle.cfg_schema.specs.Profile.{same_word}
use Rattle.cfg_values.specs.Address.{Network, network, prefix_text}
use Rattle.cfg_values.specs.Address6.{Network6, prefix6_text}
use Rattle.cfg_values.specs.Spelling.{Spells}
use Rattle.cfg_tree.specs.Statements.{last_of}
use Rattle.commit_check.specs.Kinds.{is_route}

-- a name spells a network as it is kept
pub record IsKept (name : List ℕ) (net : Network) : Type 0 where
  pub spells : Spells Prefix name net
  pub kept : name ≡ prefix_text net

-- the same of an IPv6 network
pub record IsKept6 (name : List ℕ) (net : Network6) : Type 0 where
  pub spells : Spells Prefix6 name net
  pub kept : name ≡ prefix6_text net

-- the number that the bits of a network's address past its length write
abbrev pub bits_past : Network → ℕ
bits_past net = from_be_bytes w32 net.quad % 2 ^ (32 - net.bits)

-- a route in whose prefix the bits past the length aren't all 0
pub record HasStrayBits (path : List Step) : Type 0 where
  pub route : is_route path ≡ true
  pub net : Network
  pub name : IsKept (last_of path).name net
  pub stray : bits_past net ≢ 0

-- the numbers between the dots before the slash
abbrev pub quad_in : List ℕ → List ℕ
quad_in name = map (digits_value 10) (slice_split (λ b. b == 46) (before_first (λ b. b == 47) name))

-- these, and the number after the slash
abbrev pub network_in : List ℕ → Network
network_in name = network (quad_in name) (digits_value 10 (after_first (λ b. b == 47) name))

-- four numbers that a byte can be, and a length of at most 32
abbrev pub is_network : Network → Bool
is_network net = (length net.quad == 4) && (list_all (λ n. nat_lt n 256) net.quad && nat_le net.bits 32)

-- the name is the text of the network of its numbers
abbrev pub is_kept : List ℕ → Bool
is_kept name = is_network (network_in name) && same_word name (prefix_text (network_in name))

-- 11: the same as a test
abbrev pub has_stray_bits : List Step → Bool
has_stray_bits path = is_route path && (is_kept (last_of path).name && not (bits_past (network_in (last_of path).name) == 0))

-- For the inner functions: the length that one digit writes, and that two write, of which the first is no 0; it is at most 32.
abbrev pub one_digit : ℕ → Option ℕ
one_digit d = (if nat_le 48 d && nat_le d 57 then Some (d - 48) else None)

abbrev pub two_digits : ℕ → ℕ → Option ℕ
two_digits t d =
    (if (nat_le 49 t && nat_le t 51) && ((nat_le 48 d && nat_le d 57) && nat_le ((t - 48) * 10 + (d - 48)) 32)
    then Some ((t - 48) * 10 + (d - 48)) else None)

abbrev pub length_of : List ℕ → Option ℕ
length_of (d ∷ []) = one_digit d
length_of (t ∷ d ∷ []) = two_digits t d
length_of _ = None
