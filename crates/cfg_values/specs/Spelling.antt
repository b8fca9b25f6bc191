-- What the spellings of each kind of value stand for, and how each value is spelled in one way.
-- The kinds and their ranges are this project's own.
use Rattle.std.specs.Prelude.{◌≡◌, ◌≤◌, ℕ, List, length, IsTrue, Contains, Result, MatchResult}
use Rattle.std.specs.List.{list_all}
use Rattle.std.specs.Fmt.{decimal}
use Rattle.cfg_base.specs.Kind.{IsName, IsHost}
use Rattle.cfg_base.specs.Bytes.{is_printing}
use Rattle.cfg_base.specs.declared.kind.Kind.{Kind}
use Rattle.cfg_base.specs.declared.kind.Kind.TheVariants.{Name, Host, Text, Address, Prefix, Prefix6, Area, IfName, IfUnit, Number, OneOf}
use Rattle.cfg_values.specs.declared.fault.ValueFault.{ValueFault}
use Rattle.cfg_values.specs.declared.fault.ValueFault.TheVariants.{NotOfKind, NoMemory}
use Rattle.cfg_values.specs.Number.{IsNumberWithin}
use Rattle.cfg_values.specs.Address.{IsAddress, IsPrefix, IsArea, Network, dotted, prefix_text}
use Rattle.cfg_values.specs.Address6.{Network6, IsPrefix6, prefix6_text}
use Rattle.cfg_values.specs.Interface.{IsInterface, IsUnits, Units, units_text}
use Rattle.cfg_values.specs.Choice.{words_of}

-- 0 to 255 bytes that are printed
pub record IsText (bytes : List ℕ) : Type 0 where
  pub short : length bytes ≤ 255
  pub each : IsTrue (list_all is_printing bytes)

-- what a value of the kind is: its own bytes, four numbers, those or eight groups and a length, units or a number
abbrev pub ValueOf : Kind → Type 0
ValueOf Name = List ℕ
ValueOf Host = List ℕ
ValueOf Text = List ℕ
ValueOf Address = List ℕ
ValueOf Prefix = Network
ValueOf Prefix6 = Network6
ValueOf Area = List ℕ
ValueOf IfName = List ℕ
ValueOf IfUnit = Units
ValueOf (Number from to) = ℕ
ValueOf (OneOf choice) = List ℕ

-- the bytes are a spelling of the value
abbrev pub Spells : (kind : Kind) → List ℕ → ValueOf kind → Type 0
Spells Name bytes value = IsName bytes × (value ≡ bytes)
Spells Host bytes value = IsHost bytes × (value ≡ bytes)
Spells Text bytes value = IsText bytes × (value ≡ bytes)
Spells Address bytes value = IsAddress bytes value
Spells Prefix bytes value = IsPrefix bytes value
Spells Prefix6 bytes value = IsPrefix6 bytes value
Spells Area bytes value = IsArea bytes value
Spells IfName bytes value = IsInterface bytes × (value ≡ bytes)
Spells IfUnit bytes value = IsUnits bytes value
Spells (Number from to) bytes value = IsNumberWithin from to bytes value
Spells (OneOf choice) bytes value = Contains (words_of choice) bytes × (value ≡ bytes)

-- the one spelling in which the value is kept and printed
abbrev pub canonical : (kind : Kind) → ValueOf kind → List ℕ
canonical Name value = value
canonical Host value = value
canonical Text value = value
canonical Address value = dotted value
canonical Prefix value = prefix_text value
canonical Prefix6 value = prefix6_text value
canonical Area value = dotted value
canonical IfName value = value
canonical IfUnit value = units_text value
canonical (Number from to) value = decimal value
canonical (OneOf choice) value = value

-- the bytes are a spelling of some value of the kind
pub record IsSpelling (kind : Kind) (bytes : List ℕ) : Type 0 where
  pub value : ValueOf kind
  pub spells : Spells kind bytes value

-- the word is the canonical spelling of the value that the bytes spell
pub record IsCanonicalOf (kind : Kind) (bytes word : List ℕ) : Type 0 where
  pub value : ValueOf kind
  pub spells : Spells kind bytes value
  pub canonical_is : word ≡ canonical kind value

-- the bytes are the canonical spelling of what they spell
abbrev pub IsCanonical : Kind → List ℕ → Type 0
IsCanonical kind bytes = IsCanonicalOf kind bytes bytes

-- why no word is given: they are no spelling of that kind; or they are one, and memory ran out
abbrev pub IsCause : Kind → List ℕ → ValueFault → Type 0
IsCause kind bytes (NotOfKind refused) = (refused ≡ kind) × ¬ (IsSpelling kind bytes)
IsCause kind bytes NoMemory = IsSpelling kind bytes

-- what reading the bytes answers: the canonical spelling, or the cause
abbrev pub IsAnswer : Kind → List ℕ → Result (List ℕ) ValueFault → Type 0
IsAnswer kind bytes result = MatchResult result (IsCanonicalOf kind bytes) (IsCause kind bytes)
