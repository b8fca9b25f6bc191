-- Two maps put together, path by path. Junos OS CLI User Guide, on load merge; that it is stated by paths is this project's own.
use Rattle.std.specs.Prelude.{◌≡◌, List, Option, Some, None}
use Rattle.std.specs.FinMap as map
use Rattle.cfg_base.specs.declared.path.Step.{Step}
use Rattle.cfg_base.specs.declared.value.Value.{Value}
use Rattle.cfg_tree.specs.Statements.{Statements}
use Rattle.cfg_tree.specs.Tree.{IsStatementMap, IsTyped}
use Rattle.cfg_tree.specs.Gather.{value_of_both}

-- what stands at a path of two maps: the value of the one that has it; where both have it, both values joined
abbrev pub value_in_both : List Step → Option Value → Option Value → Option Value
value_in_both path None new = new
value_in_both path (Some old) None = Some old
value_in_both path (Some old) (Some new) = Some (value_of_both path old new)

-- a map has the paths of two, each with what stands there in both
abbrev pub IsUnion : Statements → Statements → Statements → Type 0
IsUnion m n both = (path : List Step) → map.get both path ≡ value_in_both path (map.get m path) (map.get n path)

-- all that holds of a tree's statements but the bound on how many they are
pub record IsUnbounded (m : Statements) : Type 0 where
  pub statements : IsStatementMap m
  pub typed : IsTyped m
