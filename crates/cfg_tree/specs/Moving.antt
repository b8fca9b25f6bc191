-- What a renamed and a copied statement leave of the statements. Junos OS CLI User Guide, on renaming and copying statements. Their places
-- in the user's order are this project's own.
use Rattle.std.specs.Prelude.{◌≡◌, ◌≢◌, ℕ, ◌<◌, Bool, true, false, List, [], ◌∷◌, ◌++◌, length, drop, map, filter, None, IsSome, if◌then◌else◌}
use Rattle.std.specs.FinMap as finite
use Rattle.std.specs.Option.{option_map}
use Rattle.cfg_base.specs.declared.path.Step.{Step}
use Rattle.cfg_base.specs.declared.value.Value.{Value}
use Rattle.cfg_schema.specs.Profile.{same_word}
use Rattle.cfg_schema.specs.Place.{place_of}
use Rattle.cfg_entries.specs.EntryMap.{Pair}
use Rattle.cfg_tree.specs.declared.limit.TheConstants.{MAX_STATEMENTS}
use Rattle.cfg_tree.specs.declared.moving.CopyFault.{CopyFault}
use Rattle.cfg_tree.specs.declared.moving.CopyFault.TheVariants.{TooMany, NoMemory}
use Rattle.cfg_tree.specs.Statements.{Statements, size_of, parent_of, last_of, is_below}
use Rattle.cfg_tree.specs.Typed.{IsTypedPath}
use Rattle.cfg_tree.specs.Change.{with_order, is_ordered, put_last, listed, cleared}

-- a statement that is there, and a path beside it, of the same row, at which none is
pub record IsNewName (m : Statements) (from to : List Step) : Type 0 where
  pub there : IsSome (finite.get m from)
  pub none : finite.get m to ≡ None
  pub steps : 0 < length to
  pub typed : IsTypedPath to
  pub beside : parent_of to ≡ parent_of from
  pub row : place_of to ≡ place_of from

-- a statement and all below it, in the order of paths
abbrev pub part_of : Statements → List Step → List (Pair Value)
part_of m path = filter (λ e. is_below path e.0) (finite.entries m)

-- the same place below another path
abbrev pub placed : List Step → List Step → List Step → List Step
placed from to path = to ++ drop (length from) path

-- the map with each of these values put at the same place below another path
abbrev pub with_part : List Step → List Step → Statements → List (Pair Value) → Statements
with_part from to m [] = m
with_part from to m (e ∷ part) = with_part from to (finite.insert m (placed from to e.0) e.1) part

-- the names with a new one in the place of an old one
abbrev pub in_place : List ℕ → List ℕ → List (List ℕ) → List (List ℕ)
in_place old new names = map (λ name. if same_word old name then new else name) names

-- the map with the new name in the old one's place in the parent's order, where the path is that of a child of an ordered row
abbrev pub relisted : Statements → List Step → List Step → Statements
relisted m from to = if is_ordered from then with_order m (parent_of from) (in_place (last_of from).name (last_of to).name) else m

-- the statements with a copy of one, and of all below it, under another name, which goes last in its parent's order
abbrev pub copied : Statements → List Step → List Step → Statements
copied m from to = listed true (with_part from to m (part_of m from)) to

-- the statements with one, and all below it, under another name, which takes the old one's place
abbrev pub renamed : Statements → List Step → List Step → Statements
renamed m from to = relisted (with_part from to (cleared m from) (part_of m from)) from to

-- why a statement isn't copied: there would be too many
abbrev pub IsCopyFault : Statements → List Step → List Step → CopyFault → Type 0
IsCopyFault m from to TooMany = MAX_STATEMENTS < size_of (copied m from to)
IsCopyFault m from to NoMemory = Unit {0}

-- a value with its order changed
abbrev pub reordered : (List (List ℕ) → List (List ℕ)) → Value → Value
reordered change value = record value { order = change value.order }

-- the same, stated by look-ups: what was at and below the old path is at the same place below the new one, and still at its own or not; the
-- parent has its names changed; and all else is as it was
pub record Moves (m n : Statements) (from to : List Step) (stays : Bool) (change : List (List ℕ) → List (List ℕ)) : Type 0 where
  pub new : (rest : List Step) → finite.get n (to ++ rest) ≡ finite.get m (from ++ rest)
  pub old : (rest : List Step) → finite.get n (from ++ rest) ≡ (if stays then finite.get m (from ++ rest) else None)
  pub parent : finite.get n (parent_of from) ≡ option_map (reordered change) (finite.get m (parent_of from))
  pub others : (path : List Step) → is_below from path ≡ false → is_below to path ≡ false → path ≢ parent_of from
      → finite.get n path ≡ finite.get m path

-- the names of the parent after a copy and after a change of the name, where these names are listed
abbrev pub names_copied : List Step → List (List ℕ) → List (List ℕ)
names_copied to = if is_ordered to then put_last (last_of to).name else (λ names. names)

abbrev pub names_renamed : List Step → List Step → List (List ℕ) → List (List ℕ)
names_renamed from to = if is_ordered from then in_place (last_of from).name (last_of to).name else (λ names. names)
