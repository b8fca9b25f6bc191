-- The children of a path in the order in which they are printed: by their rows, and within a row by
-- the bytes of their names, or in the user's order.
use Rattle.std.specs.Prelude.{ℕ, ◌≡◌, ◌<◌, ◌+◌, ◌==◌, nat_lt, Bool, ◌&&◌, List, [], ◌∷◌, ◌++◌, length, take, map, filter, Option, Some, None, if◌then◌else◌}
use Rattle.std.specs.List.{flat_map}
use Rattle.std.specs.FinMap as finite
use Rattle.cfg_base.specs.declared.path.Step.{Step}
use Rattle.cfg_base.specs.declared.value.Value.{Value}
use Rattle.cfg_entries.specs.EntryMap.{past}
use Rattle.cfg_schema.specs.declared.place.Place.{Place}
use Rattle.cfg_schema.specs.Profile.{row_of, head_of, is_step_of, rows_below}
use Rattle.cfg_schema.specs.Place.{place_of}
use Rattle.cfg_tree.specs.Statements.{Statements, last_of, is_below}
use Rattle.cfg_tree.specs.Tree.{step_of}

-- a path stands below another one, and isn't it
abbrev pub is_inside : List Step → List Step → Bool
is_inside above path = is_below above path && nat_lt (length above) (length path)

-- a path is a child of another one
abbrev pub is_child : List Step → List Step → Bool
is_child above path = is_below above path && (length path == length above + 1)

-- the last steps of the children, in the order of paths
abbrev pub steps_below : Statements → List Step → List Step
steps_below m path = map last_of (filter (is_child path) (finite.keys m))

-- a step alone, where it is that of a child that is there, else none
abbrev pub step_if : Bool → Step → List Step
step_if there step = (if there then step ∷ [] else [])

-- the names of a value, and none where there is no value
abbrev pub order_in : Option Value → List (List ℕ)
order_in None = []
order_in (Some value) = value.order

-- the steps of a row: in the user's order where it is ordered, else those that its words name
abbrev pub row_steps : ℕ → List (List ℕ) → List Step → List Step
row_steps id names steps =
    (if (row_of id).ordered then map (step_of (head_of id)) names
    else filter (is_step_of id) steps)

abbrev pub children_at : Statements → List Step → Option Place → List Step
children_at m path None = []
children_at m path (Some here) =
    flat_map (λ id. row_steps id (order_in (finite.get m path)) (steps_below m path)) (rows_below here.row here.in_group)

-- the steps of the children of a path in printing order
abbrev pub children_of : Statements → List Step → List Step
children_of m path = children_at m path (place_of path)

-- what a walk among the statements does at a path: one of so many steps is taken, and at a longer one the
-- walk goes on past all that stands below its first steps
pub record IsVisit (count : ℕ) (path : List Step) (all left rest : List (List Step × Value)) (steps taken : List Step) : Type 0 where
  pub child : length path ≡ count → (taken ≡ steps ++ last_of path ∷ []) × (rest ≡ left)
  pub longer : count < length path → (taken ≡ steps) × (rest ≡ past (take count path) all)
  pub shorter : length path < count → (taken ≡ steps) × (rest ≡ left)
