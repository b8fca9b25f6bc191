-- The configurations of the first profile: which rows its statements are of, and which permissions it has. This is this project's own.
use Rattle.std.specs.Prelude.{◌≡◌, ◌<◌, ℕ, List, [], ◌∷◌, Contains, Some, codes}
use Rattle.std.specs.List.{AllByRecursion}
use Rattle.std.specs.FinMap as map
use Rattle.cfg_base.specs.declared.path.Step.{Step}
use Rattle.cfg_base.specs.declared.value.Value.{Value}
use Rattle.cfg_schema.specs.declared.place.Place.{Place}
use Rattle.cfg_schema.specs.Place.{place_of}
use Rattle.cfg_tree.specs.declared.first_profile.TheConstants.{FIRST_ROWS, PERMISSIONS}
use Rattle.cfg_tree.specs.Statements.{Statements}

-- the permissions that a class of the first profile may have
abbrev pub first_permissions : List (List ℕ)
first_permissions = codes "all" ∷ codes "clear" ∷ codes "configure" ∷ codes "view" ∷ codes "view-configuration" ∷ []

-- a statement of the first profile: its row is one of that profile's, and a permission is one of that profile's
abbrev pub IsFirstStatement : List Step → Value → Type 0
IsFirstStatement path value =
    (here : Place) → place_of path ≡ Some here
    → (here.row < FIRST_ROWS) × (here.row ≡ PERMISSIONS → AllByRecursion (Contains first_permissions) value.words)

-- each statement is one of the first profile
abbrev pub IsFirstProfile : Statements → Type 0
IsFirstProfile m = (path : List Step) (value : Value) → map.get m path ≡ Some value → IsFirstStatement path value
