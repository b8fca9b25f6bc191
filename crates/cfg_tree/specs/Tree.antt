-- What holds of the statements of a configuration.
use Rattle.std.specs.Prelude.{◌≡◌, ℕ, ◌≤◌, List, [], ◌∷◌, ◌++◌, Option, Some, None, IsSome, is_some}
use Rattle.std.specs.FinMap as map
use Rattle.std.specs.List.{IsDistinct}
use Rattle.std.specs.Option.{option_map}
use Rattle.cfg_base.specs.declared.path.Step.{Step}
use Rattle.cfg_base.specs.declared.value.Value.{Value}
use Rattle.cfg_schema.specs.declared.place.Place.{Place}
pub use Rattle.cfg_base.specs.Words.{lists}
use Rattle.cfg_schema.specs.Profile.{head_of, same_word}
use Rattle.cfg_schema.specs.Place.{place_of, ordered_row}
use Rattle.cfg_tree.specs.declared.limit.TheConstants.{MAX_STATEMENTS}
use Rattle.cfg_tree.specs.Statements.{Statements, size_of, HasParent}
use Rattle.cfg_tree.specs.Typed.{IsTypedPath, AreWordsOf}

-- the head of the row below a place whose names keep the user's order, where there is such a row
abbrev pub ordered_head_at : Place → Option (List ℕ)
ordered_head_at here = option_map head_of (ordered_row here)

abbrev pub ordered_head : Option Place → Option (List ℕ)
ordered_head None = None
ordered_head (Some here) = ordered_head_at here

-- the step of that head and name
abbrev pub step_of : List ℕ → List ℕ → Step
step_of head name = record { head = head; name = name }

-- the names are exactly those of the children of the row with that head, each once
pub record IsOrder (m : Statements) (path : List Step) (head : List ℕ) (names : List (List ℕ)) : Type 0 where
  pub once : IsDistinct same_word names
  pub each : (name : List ℕ) → lists names name ≡ is_some (map.get m (path ++ step_of head name ∷ []))

abbrev pub IsOrderBy : Statements → List Step → Option (List ℕ) → List (List ℕ) → Type 0
IsOrderBy m path None names = names ≡ []
IsOrderBy m path (Some head) names = IsOrder m path head names

-- the order of a path's value: the names of its ordered children, and none where it has no such row
abbrev pub IsOrderOf : Statements → List Step → List (List ℕ) → Type 0
IsOrderOf m path names = IsOrderBy m path (ordered_head (place_of path)) names

-- the top is no statement, each statement's parent is there, and each order is that of the children
pub record IsStatementMap (m : Statements) : Type 0 where
  pub top : map.get m [] ≡ None
  pub parents : (path : List Step) → IsSome (map.get m path) → HasParent m path
  pub orders : (path : List Step) (value : Value) → map.get m path ≡ Some value → IsOrderOf m path value.order

-- each path follows rows, with names of their kinds, and has the words of its row
pub record IsTyped (m : Statements) : Type 0 where
  pub paths : (path : List Step) → IsSome (map.get m path) → IsTypedPath path
  pub words : (path : List Step) (value : Value) (here : Place) → map.get m path ≡ Some value
      → place_of path ≡ Some here → AreWordsOf here.row value.words

-- the statements of a configuration
pub record IsTree (m : Statements) : Type 0 where
  pub statements : IsStatementMap m
  pub typed : IsTyped m
  pub few : size_of m ≤ MAX_STATEMENTS
