-- What the private functions that collect the statements of a JSON value give. No public clause cites it.
use Rattle.std.specs.Prelude.{◌≡◌, ℕ, ◌<◌, Bool, false, ◌||◌, List, ◌++◌, codes, length, Option, Some, None, Result, Ok, Err}
use Rattle.cfg_base.specs.Words.{same_word}
use Rattle.cfg_base.specs.declared.kind.Kind.{Kind}
use Rattle.cfg_base.specs.declared.kind.Shape.{Shape}
use Rattle.cfg_base.specs.declared.kind.Shape.TheVariants.{Leaf, Flag, Many}
use Rattle.cfg_base.specs.declared.path.TheConstants.{MAX_STEPS}
use Rattle.cfg_tree.specs.declared.limit.TheConstants.{MAX_STATEMENTS}
use Rattle.serde_json.specs.Data.{Data, null, boolean, number, string, array, object, Items, no_items, item, Members, no_members, member}
use Rattle.json_text.specs.Said.{Item, Spot, IsLeafWord, IsTrueFlag, AreManyWords, SaysNamed, SaysEach, SaysInside, top_spot}
use Rattle.json_text.specs.declared.collected.CollectFault.{CollectFault}
use Rattle.json_text.specs.declared.collected.CollectFault.TheVariants.{TooMany, NoMemory}
use Rattle.json_text.specs.declared.here.Here.{Here}

-- the path of a statement, and where it leads
abbrev pub spot_in : Here → Spot
spot_in here = record { path = here.path; place = here.place }

-- the members of an object; another value has none
abbrev pub members_in : Data → Members
members_in null = no_members
members_in (boolean b) = no_members
members_in (number n) = no_members
members_in (string s) = no_members
members_in (array ds) = no_members
members_in (object ms) = ms

-- a value is this string
abbrev pub is_string : List ℕ → Data → Bool
is_string word null = false
is_string word (boolean b) = false
is_string word (number n) = false
is_string word (string s) = same_word word s
is_string word (array ds) = false
is_string word (object ms) = false

-- a list has this string
abbrev pub has_string : List ℕ → Items → Bool
has_string word no_items = false
has_string word (item d ds) = is_string word d || has_string word ds

-- a mark is one of those that stand at a key
abbrev pub has_mark : List ℕ → Option Data → Bool
has_mark word None = false
has_mark word (Some null) = false
has_mark word (Some (boolean b)) = false
has_mark word (Some (number n)) = false
has_mark word (Some (string s)) = false
has_mark word (Some (array ds)) = has_string word ds
has_mark word (Some (object ms)) = false

-- the words of a statement that is no level
abbrev pub AreWordsIn : Shape → Kind → Data → List (List ℕ) → Type 0
AreWordsIn Leaf kind d words = IsLeafWord kind d words
AreWordsIn Flag kind d words = IsTrueFlag d words
AreWordsIn Many kind d words = AreManyWords kind d words
AreWordsIn _ kind d words = ⊥

-- an object says a statement with a name, so many levels deep
abbrev pub TellsNamed : ℕ → Spot → ℕ → Members → List Item → Type 0
TellsNamed levels here id ms told = (name : List ℕ) × SaysNamed (SaysInside levels) here id ms name told

-- a list of objects says statements with names
abbrev pub TellsEach : ℕ → Spot → ℕ → Items → List Item → Type 0
TellsEach levels here id ds told = (names : List (List ℕ)) × SaysEach (SaysInside levels) here id ds names told

-- a whole value says these statements
pub record SaysItems (d : Data) (told : List Item) : Type 0 where
  pub members : Members
  pub is : d ≡ object (member (codes "configuration") (object members) no_members)
  pub inside : SaysInside MAX_STEPS members top_spot told

-- what is said is put at the end of a list, unless these are more statements than a tree has
abbrev pub Collects : (List Item → Type 0) → List Item → List Item → Result (Unit {0}) CollectFault → Type 0
Collects Tells old new (Ok done) = (told : List Item) → Tells told → new ≡ old ++ told
Collects Tells old new (Err TooMany) = (told : List Item) → Tells told → MAX_STATEMENTS < length (old ++ told)
Collects Tells old new (Err NoMemory) = Unit {0}
