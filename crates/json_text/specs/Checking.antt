-- What the private functions that look for a value's first fault give. No public clause cites it.
use Rattle.std.specs.Prelude.{◌≡◌, ◌≢◌, ◌⊎◌, ℕ, Bool, true, false, List, [], ◌∷◌, ◌++◌, Option, Some, None, option_map, ⊤}
use Rattle.std.specs.Ordering.{is_lt}
use Rattle.std.specs.declared.alloc.Global.{Global}
use Rattle.cfg_base.specs.Order.{word_cmp}
use Rattle.cfg_base.specs.Words.{Knows, lists, same_word}
use Rattle.cfg_base.specs.declared.kind.Kind.{Kind}
use Rattle.cfg_base.specs.declared.path.Step.{Step}
use Rattle.cfg_schema.specs.declared.place.Place.{Place}
use Rattle.cfg_schema.specs.Profile.{row_of, head_of}
use Rattle.cfg_tree.specs.Tree.{step_of}
use Rattle.cfg_values.specs.Spelling.{IsSpelling, IsCanonicalOf}
use Rattle.serde_json.specs.Data.{Data, string, object, Items, item, Members}
use Rattle.serde_json.specs.Find.{get_member}
use Rattle.json_text.specs.declared.fault.JsonFault.{JsonFault}
use Rattle.json_text.specs.declared.fault.JsonFault.TheVariants.{BadValue, Form}
use Rattle.json_text.specs.declared.fault.ReadFault.{ReadFault}
use Rattle.json_text.specs.declared.fault.ReadFault.TheVariants.{Json, NoMemory}
use Rattle.json_text.specs.declared.names.Names.{Names}
use Rattle.json_text.specs.Keys.{name_key, level_marks_key}
use Rattle.json_text.specs.Said.{Item, Spot, spot_at, SaysLevel, AreInOrder}
use Rattle.json_text.specs.Faults.{AreMarksAt, WordsFault, NameFault, HasName, ItemsFault, is_placed}

-- a fault is one of these; or memory ran out
abbrev pub HasFault : (JsonFault → Type 0) → ReadFault → Type 0
HasFault Faulty (Json fault) = Faulty fault
HasFault Faulty NoMemory = ⊤

-- a path, and where it leads
abbrev pub spot : List Step → Place → Spot
spot path place = record { path = path; place = place }

-- bytes are no spelling of a kind
abbrev pub SpellingFault : Kind → List Step → List ℕ → JsonFault → Type 0
SpellingFault kind path bytes fault = ¬ (IsSpelling kind bytes) × (fault ≡ BadValue path)

-- a value is a string that spells this word
pub record IsStringOf (kind : Kind) (d : Data) (word : List ℕ) : Type 0 where
  pub bytes : List ℕ
  pub is : d ≡ string bytes
  pub spells : IsCanonicalOf kind bytes word

-- the fault of a value that has to be a string of the kind
abbrev pub WordFault : Kind → List Step → Data → JsonFault → Type 0
WordFault kind path (string bytes) fault = SpellingFault kind path bytes fault
WordFault kind path other fault = fault ≡ Form path

-- the last of the names that were met
abbrev pub EndsIn : List (List ℕ) → Option (List ℕ) → Type 0
EndsIn seen None = seen ≡ []
EndsIn seen (Some name) = (front : List (List ℕ)) × (seen ≡ front ++ name ∷ [])

-- a name is after the last, if there is one
abbrev pub is_after : Option (List ℕ) → List ℕ → Bool
is_after None name = true
is_after (Some other) name = is_lt (word_cmp other name)

-- what is kept of the names that were met: all of them, or, where the row keeps no user's order, the last
abbrev pub Keeps : Bool → List (List ℕ) → Names → Type 0
Keeps true seen names = Knows seen names.known
Keeps false seen names = EndsIn seen names.last

-- the names that were met, in order
pub record Tracks (ordered : Bool) (seen : List (List ℕ)) (names : Names) : Type 0 where
  pub in_order : AreInOrder ordered seen
  pub keeps : Keeps ordered seen names

-- the name of an object of a list, and that it may stand there
pub record NextName (here : Spot) (id : ℕ) (ms : Members) (seen : List (List ℕ)) (name : List ℕ) : Type 0 where
  pub has : HasName here id ms name
  pub placed : is_placed (row_of id).ordered seen name ≡ true

-- the fault of the name of an object of a list, or of its place
abbrev pub NextNameFault : Spot → ℕ → Members → List (List ℕ) → JsonFault → Type 0
NextNameFault here id ms seen fault =
    NameFault here id (get_member name_key ms) fault
    ⊎ ((name : List ℕ) × HasName here id ms name × (is_placed (row_of id).ordered seen name ≡ false)
    × (fault ≡ Form (here.path ++ step_of (head_of id) name ∷ [])))

module _ (Inner : Members → Spot → List Item → Type 0) where
  -- a level's object: its marks, and what stands in it
  abbrev pub LevelFits : Spot → Members → Type 0
  LevelFits here ms = AreMarksAt (get_member level_marks_key ms) × ((inner : List Item) × Inner ms here inner)

  -- the same of a value, which has to be an object
  pub record ObjectFits (here : Spot) (d : Data) : Type 0 where
    pub ms : Members
    pub is : d ≡ object ms
    pub level : LevelFits here ms

  -- the next object of a list, behind those with these names, and its name
  pub record NextItem (here : Spot) (id : ℕ) (d : Data) (seen : List (List ℕ)) (name : List ℕ) : Type 0 where
    pub ms : Members
    pub is : d ≡ object ms
    pub next : NextName here id ms seen name
    pub own : List Item
    pub level : SaysLevel Inner here id (step_of (head_of id) name) ms own
