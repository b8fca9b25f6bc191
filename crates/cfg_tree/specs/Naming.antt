-- Statements with what they add to the orders of their parents: the name of an ordered child is an item of its own, of the parent.
use Rattle.std.specs.Prelude.{ℕ, false, List, [], ◌∷◌, Option, Some, None, if◌then◌else◌}
use Rattle.std.specs.List.{flat_map}
use Rattle.std.specs.Option.{option_to_list}
use Rattle.cfg_base.specs.declared.path.Step.{Step}
use Rattle.cfg_base.specs.declared.value.Value.{Value}
use Rattle.cfg_entries.specs.EntryMap.{Pair}
use Rattle.cfg_tree.specs.Statements.{parent_of, last_of}
use Rattle.cfg_tree.specs.Change.{is_ordered}

-- a value that only has this name in its order
abbrev pub naming : List ℕ → Value
naming name = record { inactive = false; protected = false; order = name ∷ []; words = [] }

-- what a path adds to its parent: its name, where it is that of a child of an ordered row
abbrev pub named_in_parent : List Step → Option (Pair Value)
named_in_parent path = if is_ordered path then Some (parent_of path, naming (last_of path).name) else None

-- a statement, and after it what it adds to its parent
abbrev pub with_child_name : Pair Value → List (Pair Value)
with_child_name item = item ∷ option_to_list (named_in_parent item.0)

-- the same of each of these
abbrev pub with_child_names : List (Pair Value) → List (Pair Value)
with_child_names items = flat_map with_child_name items
