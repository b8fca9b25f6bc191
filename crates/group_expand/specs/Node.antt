-- A statement with what stands below it, and the live statements right below. For the inner functions.
use Rattle.std.specs.Prelude.{◌≡◌, ◌<◌, Bool, true, false, not, ◌&&◌, List, [], ◌∷◌, length, filter, map, if◌then◌else◌}
use Rattle.std.specs.List.{AllByRecursion}
use Rattle.cfg_base.specs.Order.{is_below}
use Rattle.cfg_base.specs.declared.path.Step.{Step}
use Rattle.cfg_base.specs.declared.value.Value.{Value}
use Rattle.cfg_tree.specs.Children.{is_inside, is_child}
use Rattle.group_expand.specs.Row.{StatementView, Counted, Ordered}

-- a statement, and the part of the row that stands below it
pub record Node : Type 0 where
  pub path : List Step
  pub value : Value
  pub below : List StatementView

-- what of a row stands below a path
abbrev pub inside_of : List Step → List StatementView → List StatementView
inside_of path xs = filter (λ x. is_inside path x.path) xs

-- all stand below a path
abbrev pub AreInside : List Step → List StatementView → Type 0
AreInside path xs = AllByRecursion (λ x. is_inside path x.path ≡ true) xs

abbrev pub node_of : List StatementView → StatementView → Node
node_of xs x = record { path = x.path; value = x.value; below = inside_of x.path xs }

-- a statement is right below a path, and has no inactive mark
abbrev pub is_live_child : List Step → StatementView → Bool
is_live_child above x = is_child above x.path && not x.value.inactive

-- of the first statement: whether it is one, and it with what stands below it
abbrev pub begins_live : List Step → List StatementView → Bool
begins_live above [] = false
begins_live above (x ∷ xs) = is_live_child above x

abbrev pub FirstNode : List StatementView → Node → Type 0
FirstNode [] node = ⊥
FirstNode (x ∷ xs) node = node ≡ record { path = x.path; value = x.value; below = filter (λ y. is_below x.path y.path) xs }

-- the live statements right below a path
abbrev pub live_children : List Step → List StatementView → List Node
live_children above xs = map (node_of xs) (filter (is_live_child above) xs)

-- the live statements right below a node
abbrev pub children_of : Node → List Node
children_of node = live_children node.path node.below

-- the first statement, where it is live and right below a path
abbrev pub first_child : List Step → List StatementView → List Node
first_child above [] = []
first_child above (x ∷ xs) = (if is_live_child above x then node_of (x ∷ xs) x ∷ [] else [])

-- what stands below a path that isn't the top, in order and counted
pub record IsPart (path : List Step) (below : List StatementView) : Type 0 where
  pub long : 0 < length path
  pub counted : Counted below
  pub ordered : Ordered below
  pub inside : AreInside path below
