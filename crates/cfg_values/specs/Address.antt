-- IPv4 addresses, as four numbers joined by dots; prefixes, as an address and a length; OSPF areas.
-- Which short forms are read is this project's own.
use Rattle.std.specs.Prelude.{◌≡◌, ◌<◌, ◌≤◌, ◌-◌, ◌⊎◌, ℕ, List, [], ◌∷◌, ◌++◌, length, map, replicate}
use Rattle.std.specs.List.{join_with_byte, AllByRecursion}
use Rattle.std.specs.Fmt.{decimal}
use Rattle.std.specs.Int.{w32, to_be_bytes}
use Rattle.cfg_values.specs.Number.{IsNumberWithin}

-- the numbers in digits without leading zeros, joined by dots
abbrev pub dotted : List ℕ → List ℕ
dotted numbers = join_with_byte 46 (map decimal numbers)

-- each number is one that a byte can be
abbrev pub AreOctets : List ℕ → Type 0
AreOctets numbers = AllByRecursion (λ n. n < 256) numbers

-- four numbers 0 to 255 without leading zeros, joined by dots
pub record IsAddress (bytes quad : List ℕ) : Type 0 where
  pub four : length quad ≡ 4
  pub octets : AreOctets quad
  pub spelled : bytes ≡ dotted quad

-- the four numbers that begin with these and are 0 after them
abbrev pub filled : List ℕ → List ℕ
filled numbers = numbers ++ replicate (4 - length numbers) 0

-- an address and how many of its bits count
pub record Network : Type 0 where
  pub quad : List ℕ
  pub bits : ℕ

-- the network of that address and length
abbrev pub network : List ℕ → ℕ → Network
network quad bits = record { quad = quad; bits = bits }

-- one to four numbers 0 to 255 without leading zeros, joined by dots
pub record IsFront (bytes numbers : List ℕ) : Type 0 where
  pub some : 0 < length numbers
  pub at_most_four : length numbers ≤ 4
  pub octets : AreOctets numbers
  pub spelled : bytes ≡ dotted numbers

-- such numbers, a slash, and the length 0 to 32 without leading zeros; missing numbers are 0
pub record IsNetwork (bytes : List ℕ) (net : Network) : Type 0 where
  pub text : List ℕ
  pub numbers : List ℕ
  pub front : IsFront text numbers
  pub filled_up : net.quad ≡ filled numbers
  pub within : net.bits ≤ 32
  pub spelled : bytes ≡ text ++ 47 ∷ decimal net.bits

-- an address alone, whose length is 32
pub record IsHostRoute (bytes : List ℕ) (net : Network) : Type 0 where
  pub address : IsAddress bytes net.quad
  pub whole : net.bits ≡ 32

-- a prefix: with its length, or an address alone
abbrev pub IsPrefix : List ℕ → Network → Type 0
IsPrefix bytes net = IsHostRoute bytes net ⊎ IsNetwork bytes net

-- the four numbers, a slash and the length
abbrev pub prefix_text : Network → List ℕ
prefix_text net = dotted net.quad ++ 47 ∷ decimal net.bits

-- a number below 2 ^ 32, whose four bytes are the address, the highest first
pub record IsNumberedArea (bytes quad : List ℕ) : Type 0 where
  pub number : ℕ
  pub read : IsNumberWithin 0 4294967295 bytes number
  pub split : quad ≡ to_be_bytes w32 number

-- an area: an address, or its number
abbrev pub IsArea : List ℕ → List ℕ → Type 0
IsArea bytes quad = IsAddress bytes quad ⊎ IsNumberedArea bytes quad

-- the number that the bytes write stands after the others, and there are at most four
pub record AddsOctet (bytes before after : List ℕ) : Type 0 where
  pub number : ℕ
  pub octet : number < 256
  pub spelled : bytes ≡ decimal number
  pub added : after ≡ before ++ number ∷ []
  pub at_most_four : length after ≤ 4
