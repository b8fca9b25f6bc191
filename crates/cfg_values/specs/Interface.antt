-- Names of interfaces and of their units. The bytes and ranges are this project's own.
use Rattle.std.specs.Prelude.{◌≡◌, ◌≢◌, ◌<◌, ◌≤◌, ◌⊎◌, ℕ, List, ◌∷◌, ◌++◌, length, Bool, ◌||◌, ◌&&◌, ◌==◌, nat_le, IsTrue, slice_index, codes}
use Rattle.std.specs.List.{list_all}
use Rattle.std.specs.Fmt.{decimal}
use Rattle.cfg_values.specs.Number.{IsNumberWithin}

-- a to z
abbrev pub is_lowercase : ℕ → Bool
is_lowercase b = nat_le 97 b && nat_le b 122

-- a to z, 0 to 9, or one of - / :
abbrev pub is_interface_byte : ℕ → Bool
is_interface_byte b = is_lowercase b || ((nat_le 48 b && nat_le b 57) || (b == 45 || (b == 47 || b == 58)))

-- 1 to 32 such bytes, the first a to z
pub record IsInterface (bytes : List ℕ) : Type 0 where
  pub some : 0 < length bytes
  pub short : length bytes ≤ 32
  pub first : IsTrue (is_lowercase (slice_index bytes 0))
  pub each : IsTrue (list_all is_interface_byte bytes)

-- all units of all interfaces, or one unit of one interface
pub data Units : Type 0 where
  EveryUnit : Units
  UnitOf : List ℕ → ℕ → Units

-- the word that names every unit
abbrev pub every_unit : List ℕ
every_unit = codes "all"

-- an interface alone, which isn't the word for all: its unit is 0
pub record IsUnitZero (bytes name : List ℕ) (unit : ℕ) : Type 0 where
  pub interface : IsInterface bytes
  pub not_every : bytes ≢ every_unit
  pub same : name ≡ bytes
  pub zero_th : unit ≡ 0

-- an interface, a dot and the number of its unit
pub record IsNumberedUnit (bytes name : List ℕ) (unit : ℕ) : Type 0 where
  pub interface : IsInterface name
  pub digits : List ℕ
  pub number : IsNumberWithin 0 16385 digits unit
  pub spelled : bytes ≡ name ++ 46 ∷ digits

-- which units the bytes name
abbrev pub IsUnits : List ℕ → Units → Type 0
IsUnits bytes EveryUnit = bytes ≡ every_unit
IsUnits bytes (UnitOf name unit) = IsUnitZero bytes name unit ⊎ IsNumberedUnit bytes name unit

-- the word for all, or the interface, a dot and the number without leading zeros
abbrev pub units_text : Units → List ℕ
units_text EveryUnit = every_unit
units_text (UnitOf name unit) = name ++ 46 ∷ decimal unit
