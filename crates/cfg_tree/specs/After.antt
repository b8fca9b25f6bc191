-- The statement that follows a path in the order of paths.
use Rattle.std.specs.Prelude.{◌≡◌, ◌≢◌, List, IsSome, Some}
use Rattle.std.specs.FinMap as map
use Rattle.std.specs.declared.cmp.Ordering.TheVariants.{Less}
use Rattle.cfg_base.specs.Order.{path_cmp}
use Rattle.cfg_base.specs.declared.path.Step.{Step}
use Rattle.cfg_base.specs.declared.value.Value.{Value}
use Rattle.cfg_tree.specs.Statements.{Statements}

-- the first statement after a path
pub record IsNext (m : Statements) (path next : List Step) (value : Value) : Type 0 where
  pub found : map.get m next ≡ Some value
  pub after : path_cmp path next ≡ Less
  pub first : (other : List Step) → IsSome (map.get m other) → path_cmp path other ≡ Less → path_cmp other next ≢ Less

-- no statement stands after a path
abbrev pub IsLast : Statements → List Step → Type 0
IsLast m path = (other : List Step) → IsSome (map.get m other) → path_cmp path other ≢ Less
