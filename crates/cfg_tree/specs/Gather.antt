-- Statements in the order in which they are met, and the map that they make. Junos OS CLI User Guide, on load merge.
use Rattle.std.specs.Prelude.{◌≡◌, ℕ, true, false, Bool, ◌||◌, List, [], ◌∷◌, ◌++◌, Option, Some, None, if◌then◌else◌}
use Rattle.std.specs.FinMap as map
use Rattle.std.specs.FinMap.{put}
use Rattle.std.specs.List.{AllByRecursion}
use Rattle.std.specs.Map.{lookup, keys_of}
use Rattle.std.specs.List.Sorted.{IsStrictlySortedBy}
use Rattle.std.specs.BTreeMap.{is_at}
use Rattle.std.specs.Ordering.{is_le, eq_by_cmp}
use Rattle.cfg_base.specs.Order.{path_cmp}
use Rattle.cfg_base.specs.Words.{joined}
use Rattle.cfg_base.specs.declared.kind.Shape.{Shape}
use Rattle.cfg_base.specs.declared.kind.Shape.TheVariants.{Container, Fixed, Keyed, Bare, Leaf, Flag, Many}
use Rattle.cfg_base.specs.declared.path.Step.{Step}
use Rattle.cfg_base.specs.declared.value.Value.{Value}
use Rattle.cfg_schema.specs.declared.place.Place.{Place}
use Rattle.cfg_schema.specs.Profile.{row_of}
use Rattle.cfg_schema.specs.Place.{place_of}
use Rattle.cfg_entries.specs.EntryMap.{Pair}
use Rattle.cfg_tree.specs.declared.gather.GatherFault.{GatherFault}
use Rattle.cfg_tree.specs.declared.gather.GatherFault.TheVariants.{TooMany, NoMemory}
use Rattle.cfg_tree.specs.Statements.{Statements}
use Rattle.cfg_tree.specs.Limit.{paths_of, IsPathPast}

abbrev pub is_many : Shape → Bool
is_many Container = false
is_many Fixed = false
is_many Keyed = false
is_many Bare = false
is_many Leaf = false
is_many Flag = false
is_many Many = true

abbrev pub has_many : Option Place → Bool
has_many None = false
has_many (Some here) = is_many (row_of here.row).shape

-- the row of a path takes many words
abbrev pub is_many_at : List Step → Bool
is_many_at path = has_many (place_of path)

-- the words of a statement that is met again: a Many has those of both, and any other the later ones where there are some
abbrev pub words_of_both : Bool → List (List ℕ) → List (List ℕ) → List (List ℕ)
words_of_both true old new = joined old new
words_of_both false old [] = old
words_of_both false old (word ∷ more) = word ∷ more

-- a value with more names in its order, and more words
abbrev pub with_more : List Step → Value → List (List ℕ) → List (List ℕ) → Value
with_more path value order words = record value { order = joined value.order order; words = words_of_both (is_many_at path) value.words words }

-- two values of one path: the marks of both, the names of both in the order, and the words of both
abbrev pub value_of_both : List Step → Value → Value → Value
value_of_both path old new =
    record (with_more path old new.order new.words) { inactive = old.inactive || new.inactive; protected = old.protected || new.protected }

abbrev pub joined_at : List Step → Option Value → Value → Value
joined_at path None new = new
joined_at path (Some old) new = value_of_both path old new

-- the map with a statement put, joined to what is at its path
abbrev pub gathered_one : Statements → Pair Value → Statements
gathered_one m item = map.insert m item.0 (joined_at item.0 (map.get m item.0) item.1)

-- the map with these statements put in turn
abbrev pub gathered : Statements → List (Pair Value) → Statements
gathered m [] = m
gathered m (item ∷ items) = gathered (gathered_one m item) items

-- what the statements make from nothing
abbrev pub gathered_from_none : List (Pair Value) → Statements
gathered_from_none items = gathered (map.empty {R = path_cmp}) items

-- why the statements make no tree: they have more paths than a tree has statements
abbrev pub IsGatherFault : List (Pair Value) → GatherFault → Type 0
IsGatherFault items (TooMany at) = IsPathPast (paths_of items) at
IsGatherFault items NoMemory = Unit {0}

-- the same of a list of entries
abbrev pub with_one : Pair Value → List (Pair Value) → List (Pair Value)
with_one e es = put path_cmp e.0 (joined_at e.0 (lookup (is_at (path_cmp e.0)) es) e.1) es

abbrev pub grown : List (Pair Value) → List (Pair Value) → List (Pair Value)
grown es [] = es
grown es (e ∷ more) = grown (with_one e es) more

-- no entry stands after a path
abbrev pub AreUpTo : List Step → List (Pair Value) → Type 0
AreUpTo path es = AllByRecursion (λ e. is_le (path_cmp e.0 path) ≡ true) es

-- the paths don't fall
abbrev pub Climbs : List (Pair Value) → Type 0
Climbs [] = Unit {0}
Climbs (e ∷ es) = AllByRecursion (λ r. is_le (path_cmp e.0 r.0) ≡ true) es × Climbs es

-- entries in order, and the last of them apart
abbrev pub IsGathered : List (Pair Value) → Option (Pair Value) → Type 0
IsGathered made None = made ≡ []
IsGathered made (Some last) = IsStrictlySortedBy path_cmp (keys_of (made ++ last ∷ []))

-- what a look-up finds after an item, where it found this before it
abbrev pub told_by : List Step → Option Value → Pair Value → Option Value
told_by q o e = if eq_by_cmp path_cmp q e.0 then Some (joined_at e.0 o e.1) else o

abbrev pub told : List Step → Option Value → List (Pair Value) → Option Value
told q o [] = o
told q o (e ∷ es) = told q (told_by q o e) es
