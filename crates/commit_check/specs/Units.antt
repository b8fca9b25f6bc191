-- OSPF interfaces and the units that they name. Junos OS CLI User Guide, on the interfaces of an OSPF area, each named as an interface
-- with its unit; that the unit must be configured is this project's own. Bytes by number: . is 46.
use Rattle.std.specs.Prelude.{ℕ, Bool, not, ◌&&◌, ◌==◌, List, [], ◌∷◌}
use Rattle.std.specs.List.{before_first, after_first}
use Rattle.cfg_base.specs.declared.path.Step.{Step}
use Rattle.cfg_schema.specs.Profile.{same_word}
use Rattle.cfg_values.specs.Interface.{every_unit}
use Rattle.cfg_tree.specs.Statements.{last_of}
use Rattle.cfg_tree.specs.Full.{Expansion}
use Rattle.commit_check.specs.Kinds.{begin_as, named, plain, is_in}

-- `protocols ospf area AREA interface NAME`
abbrev pub is_ospf_interface : List Step → Bool
is_ospf_interface path = begin_as (51 ∷ 64 ∷ 66 ∷ 67 ∷ []) path

-- the unit that a name is of: of the interface before its dot, the unit after it
abbrev pub unit_of : List ℕ → List Step
unit_of name = plain 30 ∷ named 31 (before_first (λ b. b == 46) name) ∷ named 36 (after_first (λ b. b == 46) name) ∷ []

-- 10: an OSPF interface, other than that for every unit, whose unit of an interface isn't in the expansion
abbrev pub names_no_unit : Expansion → List Step → Bool
names_no_unit full path =
    is_ospf_interface path && (not (same_word (last_of path).name every_unit) && not (is_in full (unit_of (last_of path).name)))
