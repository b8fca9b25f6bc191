-- A configuration as JSON. The layout is this project's own.
use Rattle.std.specs.Prelude.{ℕ, zero, suc, Bool, true, false, List, [], ◌∷◌, ◌++◌, map, codes, slice_index_or, Option, Some, None, flat_map, if◌then◌else◌}
use Rattle.std.specs.FinMap as finite
use Rattle.cfg_base.specs.declared.kind.Shape.{Shape}
use Rattle.cfg_base.specs.declared.kind.Shape.TheVariants.{Container, Fixed, Keyed, Bare, Leaf, Flag, Many}
use Rattle.cfg_base.specs.declared.path.Step.{Step}
use Rattle.cfg_base.specs.declared.path.TheConstants.{MAX_STEPS}
use Rattle.cfg_base.specs.declared.value.Value.{Value}
use Rattle.cfg_schema.specs.declared.place.Place.{Place}
use Rattle.cfg_schema.specs.Profile.{row_of, rows_below, is_named}
use Rattle.cfg_schema.specs.Place.{place_of}
use Rattle.cfg_tree.specs.Statements.{Statements}
use Rattle.cfg_tree.specs.Children.{steps_below, order_in, row_steps}
use Rattle.serde_json.specs.Data.{Data, boolean, string, array, object, Members, no_members, member, put}
use Rattle.serde_json.specs.View.{items_of}
use Rattle.json_text.specs.Keys.{name_key, level_marks_key, marks_key, key_of}

-- a key with its value
abbrev pub Pair : Type 0
Pair = List ℕ × Data

-- members with these put in turn: one that is put where its key is there already takes the place of what was there
abbrev pub put_all : Members → List Pair → Members
put_all ms [] = ms
put_all ms (p ∷ ps) = put_all (put p.0 p.1 ms) ps

-- the object that has these members
abbrev pub object_of : List Pair → Data
object_of ps = object (put_all no_members ps)

-- the strings of words
abbrev pub strings : List (List ℕ) → List Data
strings words = map string words

-- a list at a key, and nothing where the list is empty
abbrev pub listed : List ℕ → List Data → List Pair
listed key [] = []
listed key (d ∷ ds) = (key, array (items_of (d ∷ ds))) ∷ []

-- the marks that are set
abbrev pub marks_set : Bool → Bool → List (List ℕ)
marks_set inactive protected = (if inactive then codes "inactive" ∷ [] else []) ++ (if protected then codes "protect" ∷ [] else [])

-- the marks of a statement at a key, and nothing where none is set
abbrev pub marks_at : List ℕ → Value → List Pair
marks_at key value = listed key (strings (marks_set value.inactive value.protected))

-- the name of a statement, where its row has names
abbrev pub named_pair : Bool → Step → List Pair
named_pair true step = (name_key, string step.name) ∷ []
named_pair false step = []

-- what the object of a level says of the level's own statement: its name, where it has one, and its marks
abbrev pub own_pairs : Bool → Step → Value → List Pair
own_pairs named step value = named_pair named step ++ marks_at level_marks_key value

-- the object of a level that is a statement, with what stands in it
abbrev pub level_object : Bool → Step → Value → List Pair → Data
level_object named step value inner = object_of (own_pairs named step value ++ inner)

-- a statement that is no level at its key, and its marks beside it
abbrev pub marked_at : List ℕ → Data → Value → List Pair
marked_at key words value = (key, words) ∷ marks_at (marks_key key) value

-- a statement of a row without names at its key: a level's object, a Leaf's word, a Flag's `true`, a Many's words
abbrev pub alone_at : Shape → List ℕ → Step → Value → List Pair → List Pair
alone_at Container key step value inner = (key, level_object false step value inner) ∷ []
alone_at Fixed key step value inner = (key, level_object false step value inner) ∷ []
alone_at Keyed key step value inner = []
alone_at Bare key step value inner = []
alone_at Leaf key step value inner = marked_at key (string (slice_index_or value.words 0 [])) value
alone_at Flag key step value inner = marked_at key (boolean true) value
alone_at Many key step value inner = marked_at key (array (items_of (strings value.words))) value

-- the same, and nothing where the statement isn't there
abbrev pub alone_if : Shape → List ℕ → Step → Option Value → List Pair → List Pair
alone_if shape key step None inner = []
alone_if shape key step (Some value) inner = alone_at shape key step value inner

-- the object of a statement with a name, and nothing where the statement isn't there
abbrev pub object_if : Step → Option Value → List Pair → List Data
object_if step None inner = []
object_if step (Some value) inner = level_object true step value inner ∷ []

module _ (m : Statements) (path : List Step) (below : List Step → List Pair) where
  -- the object of a child of the path
  abbrev pub child_object : Step → List Data
  child_object step = object_if step (finite.get m (path ++ step ∷ [])) (below (path ++ step ∷ []))

  -- a child of the path, of a row without names
  abbrev pub child_alone : ℕ → Step → List Pair
  child_alone id step = alone_if (row_of id).shape (key_of id) step (finite.get m (path ++ step ∷ [])) (below (path ++ step ∷ []))

  -- the steps of a row below the path, in printing order
  abbrev pub steps_of_row : ℕ → List Step
  steps_of_row id = row_steps id (order_in (finite.get m path)) (steps_below m path)

  -- the members that a row's statements are: those with names are one list of objects
  abbrev pub pairs_by : Bool → ℕ → List Step → List Pair
  pairs_by true id steps = listed (key_of id) (flat_map child_object steps)
  pairs_by false id steps = flat_map (child_alone id) steps

  abbrev pub pairs_of_row : ℕ → List Pair
  pairs_of_row id = pairs_by (is_named (row_of id).shape) id (steps_of_row id)

  -- the members of the rows below the path, where it follows rows
  abbrev pub pairs_at : Option Place → List Pair
  pairs_at None = []
  pairs_at (Some here) = flat_map pairs_of_row (rows_below here.row here.in_group)

-- the members of the statements below a path, so many levels deep
unfoldable pub pairs_below : ℕ → Statements → List Step → List Pair
pairs_below zero m path = []
pairs_below (suc levels) m path = pairs_at m path (pairs_below levels m) (place_of path)

-- a configuration as JSON: an object of the one member `configuration`, whose value is the object of the top
abbrev pub json_of : Statements → Data
json_of m = object (member (codes "configuration") (object_of (pairs_below MAX_STEPS m [])) no_members)
