-- The change of a parent's order that a put or a removal of its child brings.
use Rattle.std.specs.Prelude.{◌≡◌, ℕ, Bool, true, false, List, Option, Some, None}
use Rattle.std.specs.FinMap as map
use Rattle.cfg_base.specs.declared.path.Step.{Step}
use Rattle.cfg_base.specs.declared.value.Value.{Value}
use Rattle.cfg_tree.specs.declared.reorder.Change.{Change}
use Rattle.cfg_tree.specs.declared.reorder.Change.TheVariants.{Last, Without}
use Rattle.cfg_tree.specs.declared.reorder.Reorder.{Reorder}
use Rattle.cfg_tree.specs.Statements.{Statements, parent_of, last_of}
use Rattle.cfg_tree.specs.Change.{with_order, is_ordered, put_last, without}

-- the names after a change
abbrev pub changed_names : Change → List ℕ → List (List ℕ) → List (List ℕ)
changed_names Last name names = put_last name names
changed_names Without name names = without name names

-- the parent's new order, where the parent is there
pub record HasOrder (m : Statements) (parent : List Step) (name : List ℕ) (change : Change) (reorder : Reorder) : Type 0 where
  pub parent_is : reorder.parent ≡ parent
  pub value : Value
  pub found : map.get m parent ≡ Some value
  pub order_is : reorder.order ≡ changed_names change name value.order

abbrev pub IsOrderOfParent : Statements → List Step → List ℕ → Change → Option Reorder → Type 0
IsOrderOfParent m parent name change None = map.get m parent ≡ None
IsOrderOfParent m parent name change (Some reorder) = HasOrder m parent name change reorder

-- the parent's new order, where the path is a child of an ordered row
abbrev pub IsReorderBy : Bool → Statements → List Step → Change → Option Reorder → Type 0
IsReorderBy true m path change reorder = IsOrderOfParent m (parent_of path) (last_of path).name change reorder
IsReorderBy false m path change reorder = reorder ≡ None

abbrev pub IsReorder : Statements → List Step → Change → Option Reorder → Type 0
IsReorder m path change reorder = IsReorderBy (is_ordered path) m path change reorder

abbrev pub IsListedAs : Bool → Statements → List Step → Option Reorder → Type 0
IsListedAs true m path reorder = IsReorder m path Last reorder
IsListedAs false m path reorder = reorder ≡ None

-- the statements after the change
abbrev pub reordered_by : Option Reorder → Statements → Statements
reordered_by None m = m
reordered_by (Some reorder) m = with_order m reorder.parent (λ _. reorder.order)
