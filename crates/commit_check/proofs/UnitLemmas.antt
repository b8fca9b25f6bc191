-- The unit that a name is of.
use Rattle.std.proofs.Common.{◌≡◌, ℕ, List, [], ◌∷◌, ap, ◌∙◌, eqb}
use Rattle.std.specs.Fmt.{decimal}
use Rattle.std.specs.List.{after_first}
use Rattle.cfg_values.specs.Interface.{IsInterface, UnitOf, units_text}
use Rattle.cfg_values.proofs.InterfaceLemmas.{no_dot_in_interface}
use Rattle.commit_check.specs.Kinds.{named, plain}
use Rattle.commit_check.specs.Units.{unit_of}
use Rattle.commit_check.proofs.CutLemmas.{before_mark, behind_mark}

-- a name that is kept is cut into its interface and its unit's number
pub unit_is : (interface : List ℕ) (unit : ℕ) → IsInterface interface
    → unit_of (units_text (UnitOf interface unit)) ≡ plain 30 ∷ named 31 interface ∷ named 36 (decimal unit) ∷ []
unit_is interface unit h =
    let none = no_dot_in_interface interface h in
    ap (λ name. plain 30 ∷ named 31 name ∷ named 36 (after_first (λ b. eqb b 46) (units_text (UnitOf interface unit))) ∷ []) (before_mark 46 interface (decimal unit) none)
    ∙ ap (λ number. plain 30 ∷ named 31 interface ∷ named 36 number ∷ []) (behind_mark 46 interface (decimal unit) none)
