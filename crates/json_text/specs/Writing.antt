-- What the private functions that make the JSON of a configuration give. No public clause cites it.
use Rattle.std.specs.Prelude.{◌≡◌, ℕ, ◌==◌, ◌&&◌, List, [], length, Some, flat_map, IsUtf8, if◌then◌else◌}
use Rattle.std.specs.FinMap as finite
use Rattle.std.specs.List.{AllByRecursion}
use Rattle.cfg_base.specs.declared.path.Step.{Step}
use Rattle.cfg_base.specs.declared.value.Value.{Value}
use Rattle.cfg_entries.specs.EntryMap as entry
use Rattle.cfg_schema.specs.Profile.{row_of, is_step_of}
use Rattle.cfg_tree.specs.Statements.{Statements, last_of}
use Rattle.serde_json.specs.Data.{Data}
use Rattle.json_text.specs.Keys.{key_of}
use Rattle.json_text.specs.Written.{Pair, alone_at, object_if, child_object, steps_of_row, pairs_of_row, pairs_below}

-- the name of a step and the words of a value are UTF-8
pub record IsText (step : Step) (value : Value) : Type 0 where
  pub name : IsUtf8 step.name
  pub words : AllByRecursion IsUtf8 value.words

-- a statement of a configuration
abbrev pub IsIn : Statements → entry.Pair Value → Type 0
IsIn m e = finite.get m e.0 ≡ Some e.1

-- the object of a child of a path, with so many levels below it
abbrev pub named_child : ℕ → Statements → List Step → Step → List Data
named_child levels m path = child_object m path (pairs_below levels m)

-- the object of a statement, with so many levels below it
abbrev pub own_object : ℕ → Statements → entry.Pair Value → List Data
own_object levels m e = object_if (last_of e.0) (Some e.1) (pairs_below levels m e.0)

-- the same of one whose path has so many steps, and the last of them is one of this row
abbrev pub object_if_of_row : ℕ → ℕ → ℕ → Statements → entry.Pair Value → List Data
object_if_of_row id count levels m e = if length e.0 == count && is_step_of id (last_of e.0) then own_object levels m e else []

-- the objects of a row's statements
abbrev pub row_objects : ℕ → Statements → List Step → ℕ → List Data
row_objects levels m path id = flat_map (named_child levels m path) (steps_of_row m path (pairs_below levels m) id)

-- a statement of a row without names, with so many levels below it
abbrev pub own_alone : ℕ → ℕ → Statements → entry.Pair Value → List Pair
own_alone id levels m e = alone_at (row_of id).shape (key_of id) (last_of e.0) e.1 (pairs_below levels m e.0)

-- the same of one whose path has so many steps, and the last of them is one of this row
abbrev pub alone_if_of_row : ℕ → ℕ → ℕ → Statements → entry.Pair Value → List Pair
alone_if_of_row id count levels m e = if length e.0 == count && is_step_of id (last_of e.0) then own_alone id levels m e else []

-- the members that a row's statements are, with so many levels below them
abbrev pub own_row : ℕ → Statements → List Step → ℕ → List Pair
own_row levels m path id = pairs_of_row m path (pairs_below levels m) id
