-- What a load leaves of the statements that are there, where its text tags paths `replace:`. Junos OS CLI User Guide, on load replace.
use Rattle.std.specs.Prelude.{◌≡◌, ℕ, Bool, not, List, [], ◌∷◌, ◌++◌, filter, Option, Some, None, if◌then◌else◌}
use Rattle.std.specs.List.{list_any}
use Rattle.std.specs.Ordering.{eq_by_cmp}
use Rattle.std.specs.FinMap as map
use Rattle.cfg_base.specs.Order.{path_cmp}
use Rattle.cfg_base.specs.declared.path.Step.{Step}
use Rattle.cfg_base.specs.declared.value.Value.{Value}
use Rattle.cfg_schema.specs.Place.{place_of}
use Rattle.cfg_tree.specs.Statements.{Statements, is_below}
use Rattle.cfg_tree.specs.Tree.{ordered_head, step_of}
use Rattle.cfg_tree.specs.Union.{value_in_both}

-- a path is tagged
abbrev pub is_tagged : List (List Step) → List Step → Bool
is_tagged tags path = list_any (eq_by_cmp path_cmp path) tags

-- a path is tagged, or below one that is
abbrev pub is_replaced : List (List Step) → List Step → Bool
is_replaced tags path = list_any (λ above. is_below above path) tags

-- an order without the names of tagged children; the children that it names have this head
abbrev pub names_left : List (List Step) → List Step → Option (List ℕ) → List (List ℕ) → List (List ℕ)
names_left tags path None names = names
names_left tags path (Some head) names = filter (λ name. not (is_tagged tags (path ++ step_of head name ∷ []))) names

-- a value as it was, with its order without the names of tagged children
abbrev pub value_left : List (List Step) → List Step → Value → Value
value_left tags path value = record value { order = names_left tags path (ordered_head (place_of path)) value.order }

-- at a tagged path and below it nothing is left, and elsewhere the value that is there
abbrev pub left_at : List (List Step) → List Step → Option Value → Option Value
left_at tags path None = None
left_at tags path (Some value) = if is_replaced tags path then None else Some (value_left tags path value)

-- a map has what is left of another one
abbrev pub IsLeft : Statements → List (List Step) → Statements → Type 0
IsLeft m tags left = (path : List Step) → map.get left path ≡ left_at tags path (map.get m path)

-- at each path stands what is left there, and what the text says is joined to it
abbrev pub IsReplacement : Statements → Statements → List (List Step) → Statements → Type 0
IsReplacement old said tags new =
    (path : List Step) → map.get new path ≡ value_in_both path (left_at tags path (map.get old path)) (map.get said path)
