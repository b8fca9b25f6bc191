-- The statements below a path in the order in which they are printed: by the order of the children of each, a statement right before
-- those that stand in it. Junos OS CLI User Guide, on displaying the configuration; the order of the children is this project's own.
use Rattle.std.specs.Prelude.{ℕ, zero, suc, List, [], ◌∷◌, ◌++◌, length, Option, Some, None}
use Rattle.std.specs.List.{flat_map}
use Rattle.std.specs.FinMap as map
use Rattle.cfg_base.specs.declared.path.Step.{Step}
use Rattle.cfg_base.specs.declared.value.Value.{Value}
use Rattle.cfg_tree.specs.Statements.{Statements}
use Rattle.cfg_tree.specs.Children.{children_of}

-- a statement in a list, and how many of those right after it stand in it
pub record Item : Type 0 where
  pub path : List Step
  pub value : Value
  pub inside : ℕ

-- a statement, where it is there, and after it those that stand in it
abbrev pub item_with : List Step → Option Value → List Item → List Item
item_with path None inside = []
item_with path (Some value) inside = record { path = path; value = value; inside = length inside } ∷ inside

-- the statements below a path in printing order, so many levels deep
unfoldable pub items_below : ℕ → Statements → List Step → List Item
items_below zero m path = []
items_below (suc levels) m path =
    flat_map
    (λ step. item_with (path ++ step ∷ []) (map.get m (path ++ step ∷ [])) (items_below levels m (path ++ step ∷ [])))
    (children_of m path)
