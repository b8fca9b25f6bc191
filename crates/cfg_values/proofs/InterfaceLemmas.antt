-- Names of interfaces have no dot, so that each text names units in one way.
use Rattle.std.proofs.Common.{◌≡◌, ◌≢◌, refl, ℕ, List, [], ◌∷◌, Bool, true, false, eqb, ◌&&◌, arith, ⊎_elim}
use Rattle.std.specs.Prelude.{All}
use Rattle.std.specs.List.{list_all, AllByRecursion}
use Rattle.std.proofs.lemmas.Bool.Decides.{nat_tests}
use Rattle.std.proofs.lemmas.List.Elements.{All-from_recursion}
use Rattle.cfg_values.specs.Cut.{IsCut}
use Rattle.cfg_values.specs.Interface.{IsInterface, Units, EveryUnit, UnitOf, IsUnits, IsUnitZero, IsNumberedUnit, every_unit, is_interface_byte}

both_true : (a b : Bool) → (a && b) ≡ true → (a ≡ true) × (b ≡ true)
both_true true true e = (refl, refl)
both_true true false e = absurd cc
both_true false b e = absurd cc

-- a byte of such a name is no dot
no_dot : (b : ℕ) → is_interface_byte b ≡ true → eqb b 46 ≡ false
no_dot b e = grind (arith, nat_tests)

no_dot_in_bytes : (bytes : List ℕ) → list_all is_interface_byte bytes ≡ true → AllByRecursion (λ b. eqb b 46 ≡ false) bytes
no_dot_in_bytes [] e = tt
no_dot_in_bytes (b ∷ bytes) e =
    let parts = both_true (is_interface_byte b) (list_all is_interface_byte bytes) e in
    (no_dot b parts.0, no_dot_in_bytes bytes parts.1)

-- no dot stands in the name of an interface
pub no_dot_in_interface : (name : List ℕ) → IsInterface name → All (λ b. eqb b 46 ≡ false) name
no_dot_in_interface name interface =
    All-from_recursion (λ b. eqb b 46 ≡ false) name (no_dot_in_bytes name interface.each)

-- the name of a unit is cut at its dot
pub unit_is_cut : (bytes name : List ℕ) (unit : ℕ) (n : IsNumberedUnit bytes name unit) → IsCut 46 bytes name n.digits
unit_is_cut bytes name unit n = record { joined = n.spelled; first = no_dot_in_interface name n.interface }

-- what isn't the word for every unit names one unit, in one of two ways
pub unit_cases : (bytes : List ℕ) (units : Units) → bytes ≢ every_unit
    → ((name : List ℕ) (unit : ℕ) → IsUnitZero bytes name unit → ⊥) → ((name : List ℕ) (unit : ℕ) → IsNumberedUnit bytes name unit → ⊥)
    → IsUnits bytes units → ⊥
unit_cases bytes EveryUnit one alone numbered named = one named
unit_cases bytes (UnitOf name unit) one alone numbered named = ⊎_elim (alone name unit) (numbered name unit) named
