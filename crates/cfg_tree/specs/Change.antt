-- What a put and a removal make of the statements, and when a put is refused.
use Rattle.std.specs.Prelude.{◌≡◌, ℕ, ◌≤◌, ◌<◌, Bool, false, not, ◌&&◌, List, [], ◌∷◌, ◌++◌, length, Option, Some, None, IsSome, is_none, filter, Result, Ok, Err, if◌then◌else◌}
use Rattle.std.specs.FinMap as map
use Rattle.cfg_base.specs.declared.path.Step.{Step}
use Rattle.cfg_base.specs.declared.value.Value.{Value}
use Rattle.cfg_schema.specs.declared.place.Place.{Place}
use Rattle.cfg_schema.specs.Profile.{row_of, same_word}
use Rattle.cfg_schema.specs.Child.{IsNoHead}
use Rattle.cfg_schema.specs.Place.{place_of}
use Rattle.cfg_tree.specs.declared.fault.TreeFault.{TreeFault}
use Rattle.cfg_tree.specs.declared.fault.TreeFault.TheVariants.{Unknown, BadValue, TooMany, NoMemory}
use Rattle.cfg_tree.specs.declared.limit.TheConstants.{MAX_STATEMENTS}
use Rattle.cfg_tree.specs.Statements.{Statements, size_of, parent_of, last_of, is_below, HasParent}
use Rattle.cfg_tree.specs.Typed.{IsTypedPath, AreCounted, AreWordsOf}
use Rattle.cfg_tree.specs.Tree.{ordered_head, IsOrderOf}

abbrev pub has_head : Option (List ℕ) → Step → Bool
has_head None step = false
has_head (Some head) step = same_word head step.head

-- the path is that of a child of an ordered row
abbrev pub is_ordered : List Step → Bool
is_ordered path = has_head (ordered_head (place_of (parent_of path))) (last_of path)

abbrev pub with_order_of : Statements → List Step → (List (List ℕ) → List (List ℕ)) → Option Value → Statements
with_order_of m path change None = m
with_order_of m path change (Some value) = map.insert m path (record value { order = change value.order })

-- the map with another order at a path that is there
abbrev pub with_order : Statements → List Step → (List (List ℕ) → List (List ℕ)) → Statements
with_order m path change = with_order_of m path change (map.get m path)

-- the names with one more at the end, and without one
abbrev pub put_last : List ℕ → List (List ℕ) → List (List ℕ)
put_last name names = names ++ name ∷ []

abbrev pub without : List ℕ → List (List ℕ) → List (List ℕ)
without name names = filter (λ other. not (same_word name other)) names

-- the map with one more name in the parent's order, at its end, where the path is that of a new child of
-- an ordered row
abbrev pub listed : Bool → Statements → List Step → Statements
listed new m path = (if new && is_ordered path then with_order m (parent_of path) (put_last (last_of path).name) else m)

-- the statements with this value at the path
abbrev pub put_at : Statements → List Step → Value → Statements
put_at m path value = listed (is_none (map.get m path)) (map.insert m path value) path

-- the map without the path's name in the parent's order, where the path is a child of an ordered row
abbrev pub unlisted : Statements → List Step → Statements
unlisted m path = (if is_ordered path then with_order m (parent_of path) (without (last_of path).name) else m)

-- the statements without the path and all below it
abbrev pub cleared : Statements → List Step → Statements
cleared m path = map.retain_keys m (λ other. not (is_below path other))

-- the same, and without the path's name in the parent's order
abbrev pub removed : Statements → List Step → Statements
removed m path = unlisted (cleared m path) path

-- what a put asks: the parent is there, the order is that of the children that are there, and where the
-- path follows a row, the words are as many and as different as that row asks, and a bare name is no head
pub record IsReady (m : Statements) (path : List Step) (value : Value) : Type 0 where
  pub parent : HasParent m path
  pub order : IsOrderOf m path value.order
  pub words : (here : Place) → place_of path ≡ Some here → AreCounted (row_of here.row).shape value.words
  pub bare : (here : Place) → place_of (parent_of path) ≡ Some here → (last_of path).head ≡ []
      → IsNoHead here.row here.in_group (last_of path).name

-- the path and the value are of the profile
pub record FitsProfile (path : List Step) (value : Value) : Type 0 where
  pub typed : IsTypedPath path
  pub words : (here : Place) → place_of path ≡ Some here → AreWordsOf here.row value.words

-- all of it but the kinds: the parent follows rows, and the words are counted, and a bare name is no head
pub record IsAlmostFit (path : List Step) (value : Value) : Type 0 where
  pub steps : 0 < length path
  pub parent : IsTypedPath (parent_of path)
  pub words : (here : Place) → place_of path ≡ Some here → AreCounted (row_of here.row).shape value.words
  pub bare : (here : Place) → place_of (parent_of path) ≡ Some here → (last_of path).head ≡ []
      → IsNoHead here.row here.in_group (last_of path).name

-- which of it fails
abbrev pub IsFitFault : List Step → Value → TreeFault → Type 0
IsFitFault path value (Unknown refused) = (refused ≡ path) × (place_of path ≡ None)
IsFitFault path value (BadValue refused) = (refused ≡ path) × IsSome (place_of path) × ¬ (FitsProfile path value)
IsFitFault path value TooMany = ⊥
IsFitFault path value NoMemory = Unit {0}

-- why a value isn't put: the path follows no row; it does, and a name or a word isn't of its kind; all is
-- of its kind, and one statement more would be too many
abbrev pub IsPutFault : Statements → List Step → Value → TreeFault → Type 0
IsPutFault m path value (Unknown refused) = (refused ≡ path) × (place_of path ≡ None)
IsPutFault m path value (BadValue refused) = (refused ≡ path) × IsSome (place_of path) × ¬ (FitsProfile path value)
IsPutFault m path value TooMany = FitsProfile path value × (map.get m path ≡ None) × (size_of m ≡ MAX_STATEMENTS)
IsPutFault m path value NoMemory = Unit {0}

-- whether a path is new, and there is room for it where it is; or there is none
abbrev pub HasRoom : Statements → List Step → Result Bool TreeFault → Type 0
HasRoom m path (Ok new) = (new ≡ is_none (map.get m path)) × (map.get m path ≡ None → size_of m < MAX_STATEMENTS)
HasRoom m path (Err TooMany) = (map.get m path ≡ None) × (MAX_STATEMENTS ≤ size_of m)
HasRoom m path (Err _) = ⊥

-- what a put gives: the value stands at the path, which adds a statement only where there is room
pub record IsPut (m n : Statements) (path : List Step) (value : Value) : Type 0 where
  pub fits : FitsProfile path value
  pub room : map.get m path ≡ None → size_of m < MAX_STATEMENTS
  pub put : n ≡ put_at m path value

-- another value for a statement that is there: its order is the old one, and it is of the profile
pub record IsOther (m : Statements) (path : List Step) (value : Value) : Type 0 where
  pub steps : 0 < length path
  pub old : Value
  pub found : map.get m path ≡ Some old
  pub order : value.order ≡ old.order
  pub fits : FitsProfile path value
