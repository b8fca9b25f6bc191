-- Statements with other values at some paths, and without some paths. How a map is changed is this project's own.
use Rattle.std.specs.Prelude.{List, [], ◌∷◌, Option, Some, None}
use Rattle.std.specs.FinMap as map
use Rattle.cfg_base.specs.declared.path.Step.{Step}
use Rattle.cfg_base.specs.declared.value.Value.{Value}
use Rattle.cfg_tree.specs.Statements.{Statements}

-- a path with its value, or without one: then it is no statement
abbrev pub Stand : Type 0
Stand = List Step × Option Value

-- the map with this value at a path, or without the path
abbrev pub with_value : Statements → List Step → Option Value → Statements
with_value m path None = map.remove m path
with_value m path (Some value) = map.insert m path value

-- the map after each of these in turn
abbrev pub with_values : Statements → List Stand → Statements
with_values m [] = m
with_values m (stand ∷ stands) = with_values (with_value m stand.0 stand.1) stands
