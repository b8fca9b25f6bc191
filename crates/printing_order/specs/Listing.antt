-- What the private functions that list statements give. No public clause cites it.
use Rattle.std.specs.Prelude.{ℕ, ◌==◌, ◌&&◌, List, [], ◌∷◌, ◌++◌, length, Some, if◌then◌else◌}
use Rattle.std.specs.List.{flat_map}
use Rattle.std.specs.FinMap as map
use Rattle.cfg_base.specs.declared.path.Step.{Step}
use Rattle.cfg_base.specs.declared.value.Value.{Value}
use Rattle.cfg_entries.specs.EntryMap.{Pair}
use Rattle.cfg_schema.specs.Profile.{is_step_of}
use Rattle.cfg_tree.specs.Statements.{Statements, last_of}
use Rattle.cfg_tree.specs.Children.{order_in, row_steps, steps_below}
use Rattle.printing_order.specs.Listed.{Item, item_with, items_below}

-- a child of a path, with those that stand in it
abbrev pub child_items : ℕ → Statements → List Step → Step → List Item
child_items levels m path step = item_with (path ++ step ∷ []) (map.get m (path ++ step ∷ [])) (items_below levels m (path ++ step ∷ []))

-- a statement, with those that stand in it
abbrev pub own_items : ℕ → Statements → Pair Value → List Item
own_items levels m e = item_with e.0 (Some e.1) (items_below levels m e.0)

-- the same of one whose path has so many steps, and the last of them is one of this row
abbrev pub items_if_of_row : ℕ → ℕ → ℕ → Statements → Pair Value → List Item
items_if_of_row id count levels m e =
    if length e.0 == count && is_step_of id (last_of e.0) then own_items levels m e else []

-- the statements below a path by a row
abbrev pub row_items : ℕ → Statements → List Step → ℕ → List Item
row_items levels m path id = flat_map (child_items levels m path) (row_steps id (order_in (map.get m path)) (steps_below m path))
