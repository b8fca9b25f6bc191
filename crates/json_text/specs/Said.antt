-- What a JSON value says as a configuration: it differs from what is written of it only in the spelling of names and words, in
-- whole numbers in place of strings, and in the order of marks. The layout is this project's own.
use Rattle.std.specs.Prelude.{◌≡◌, ℕ, zero, suc, ◌<◌, Bool, true, false, List, [], ◌∷◌, ◌++◌, codes, length, Option, Some, None, decimal, ⊤}
use Rattle.std.specs.List.{AllByRecursion, IsDistinct}
use Rattle.std.specs.List.Sorted.{IsStrictlySortedBy}
use Rattle.cfg_base.specs.Order.{word_cmp}
use Rattle.cfg_base.specs.Words.{lists, same_word}
use Rattle.cfg_base.specs.declared.kind.Kind.{Kind}
use Rattle.cfg_base.specs.declared.kind.Kind.TheVariants.{Number}
use Rattle.cfg_base.specs.declared.kind.Shape.{Shape}
use Rattle.cfg_base.specs.declared.kind.Shape.TheVariants.{Container, Fixed, Keyed, Bare, Leaf, Flag, Many}
use Rattle.cfg_base.specs.declared.path.Step.{Step}
use Rattle.cfg_base.specs.declared.path.TheConstants.{MAX_STEPS}
use Rattle.cfg_base.specs.declared.value.Value.{Value}
use Rattle.cfg_entries.specs.EntryMap as entry
use Rattle.cfg_schema.specs.declared.place.Place.{Place}
use Rattle.cfg_schema.specs.Profile.{row_of, head_of, name_of, is_level, rows_below}
use Rattle.cfg_schema.specs.Child.{IsNoHead}
use Rattle.cfg_schema.specs.Place.{top_place, entered}
use Rattle.cfg_tree.specs.Statements.{Statements}
use Rattle.cfg_tree.specs.Stated.{stated_from_none}
use Rattle.cfg_tree.specs.Tree.{step_of}
use Rattle.cfg_tree.specs.Typed.{IsNameOf}
use Rattle.cfg_values.specs.Spelling.{IsCanonicalOf}
use Rattle.serde_json.specs.Data.{Data, Num, unsigned, negative, float, null, boolean, number, string, array, object, Items, no_items, item, Members, no_members, member}
use Rattle.serde_json.specs.Find.{get_member}
use Rattle.serde_json.specs.View.{items_of}
use Rattle.json_text.specs.Keys.{name_key, level_marks_key, marks_key, key_of, keys_at}
use Rattle.json_text.specs.Written.{strings, marks_set}

-- statements with their paths
abbrev pub Item : Type 0
Item = entry.Pair Value

-- a path, and where it leads
pub record Spot : Type 0 where
  pub path : List Step
  pub place : Place

-- where a step of a row leads
abbrev pub spot_at : Spot → ℕ → Step → Spot
spot_at here id step = record { path = here.path ++ step ∷ []; place = entered here.place id }

-- the name in the one step of a row whose statements have no name of the user's own
abbrev pub name_by : Shape → List ℕ → List ℕ
name_by Fixed name = name
name_by _ name = []

-- the one step of such a row
abbrev pub single_of : ℕ → Step
single_of id = step_of (head_of id) (name_by (row_of id).shape (name_of id))

-- a value with these marks and words, without an order
abbrev pub value_said : Bool → Bool → List (List ℕ) → Value
value_said inactive protected words = record { inactive = inactive; protected = protected; order = []; words = words }

-- words that are marks, each once, in any order, and which marks they are
pub record AreMarks (words : List (List ℕ)) (inactive protected : Bool) : Type 0 where
  pub some : 0 < length words
  pub once : IsDistinct same_word words
  pub known : AllByRecursion (λ word. lists (marks_set true true) word ≡ true) words
  pub is_inactive : lists words (codes "inactive") ≡ inactive
  pub is_protected : lists words (codes "protect") ≡ protected

-- a value is a list of marks
pub record MarksIn (d : Data) (inactive protected : Bool) : Type 0 where
  pub words : List (List ℕ)
  pub is : d ≡ array (items_of (strings words))
  pub marks : AreMarks words inactive protected

-- what stands at the key of marks says which are set; without the key none is
abbrev pub IsMarked : Option Data → Bool → Bool → Type 0
IsMarked None inactive protected = (inactive ≡ false) × (protected ≡ false)
IsMarked (Some d) inactive protected = MarksIn d inactive protected

-- a kind of numbers
abbrev pub IsNumberKind : Kind → Type 0
IsNumberKind (Number from to) = ⊤
IsNumberKind _ = ⊥

-- a whole number spells a word of a kind of numbers by its digits
abbrev pub IsNumberOf : Kind → Num → List ℕ → Type 0
IsNumberOf kind (unsigned n) word = IsNumberKind kind × IsCanonicalOf kind (decimal n) word
IsNumberOf kind (negative z) word = ⊥
IsNumberOf kind (float x) word = ⊥

-- a word of a Leaf: a string, or a whole number in its place where the kind is one of numbers
abbrev pub IsWordOf : Kind → Data → List ℕ → Type 0
IsWordOf kind null word = ⊥
IsWordOf kind (boolean b) word = ⊥
IsWordOf kind (number n) word = IsNumberOf kind n word
IsWordOf kind (string bytes) word = IsCanonicalOf kind bytes word
IsWordOf kind (array ds) word = ⊥
IsWordOf kind (object ms) word = ⊥

-- strings spell these words, one after another
abbrev pub AreWordsOf : Kind → Items → List (List ℕ) → Type 0
AreWordsOf kind no_items [] = ⊤
AreWordsOf kind (item (string bytes) ds) (word ∷ words) = IsCanonicalOf kind bytes word × AreWordsOf kind ds words
AreWordsOf kind _ _ = ⊥

-- the words of a Many: a list that isn't empty, each word once
pub record AreManyWords (kind : Kind) (d : Data) (words : List (List ℕ)) : Type 0 where
  pub items : Items
  pub is : d ≡ array items
  pub each : AreWordsOf kind items words
  pub some : 0 < length words
  pub once : IsDistinct same_word words

-- the names of a row's statements: each once, and by their bytes where the row keeps no user's order
abbrev pub AreInOrder : Bool → List (List ℕ) → Type 0
AreInOrder true names = IsDistinct same_word names
AreInOrder false names = IsStrictlySortedBy word_cmp names

-- a statement without what stands in it
abbrev pub statement_said : Spot → ℕ → Step → Bool → Bool → List (List ℕ) → List Item
statement_said here id step inactive protected words = (here.path ++ step ∷ [], value_said inactive protected words) ∷ []

-- bytes spell a name of a row of this shape; a bare name is no head of the level
abbrev pub IsNameIn : Place → ℕ → Shape → List ℕ → List ℕ → Type 0
IsNameIn here id Bare bytes name = IsNameOf here.in_group (row_of id).name_kind bytes name × IsNoHead here.row here.in_group bytes
IsNameIn here id _ bytes name = IsNameOf here.in_group (row_of id).name_kind bytes name

-- a statement that is no level, with these words, says itself, with the marks beside it
pub record SaysWords (Words : List (List ℕ) → Type 0) (here : Spot) (id : ℕ) (marks : Option Data) (items : List Item) : Type 0 where
  pub inactive : Bool
  pub protected : Bool
  pub marked : IsMarked marks inactive protected
  pub words : List (List ℕ)
  pub are_words : Words words
  pub said : items ≡ statement_said here id (single_of id) inactive protected words

-- the one word of a Leaf
pub record IsLeafWord (kind : Kind) (d : Data) (words : List (List ℕ)) : Type 0 where
  pub word : List ℕ
  pub is_word : IsWordOf kind d word
  pub alone : words ≡ word ∷ []

-- a Flag is `true` and has no words
pub record IsTrueFlag (d : Data) (words : List (List ℕ)) : Type 0 where
  pub is : d ≡ boolean true
  pub none : words ≡ []

-- marks stand beside a statement alone; a level has them in its object, and then no such key
abbrev pub NoMarks : Shape → Option Data → Type 0
NoMarks shape marks = (is_level shape ≡ false → marks ≡ None)

module _ (Inner : Members → Spot → List Item → Type 0) where
  -- the object of a level says its statement, with its marks, and what stands in it
  pub record SaysLevel (here : Spot) (id : ℕ) (step : Step) (ms : Members) (items : List Item) : Type 0 where
    pub inactive : Bool
    pub protected : Bool
    pub marks : IsMarked (get_member level_marks_key ms) inactive protected
    pub inner : List Item
    pub inside : Inner ms (spot_at here id step) inner
    pub said : items ≡ statement_said here id step inactive protected [] ++ inner

  -- the same of a value, which has to be an object
  abbrev pub SaysObject : Spot → ℕ → Step → Data → List Item → Type 0
  SaysObject here id step null items = ⊥
  SaysObject here id step (boolean b) items = ⊥
  SaysObject here id step (number n) items = ⊥
  SaysObject here id step (string s) items = ⊥
  SaysObject here id step (array ds) items = ⊥
  SaysObject here id step (object ms) items = SaysLevel here id step ms items

  -- an object of a list says its name, its statement and what stands in it
  pub record SaysNamed (here : Spot) (id : ℕ) (ms : Members) (name : List ℕ) (items : List Item) : Type 0 where
    pub bytes : List ℕ
    pub there : get_member name_key ms ≡ Some (string bytes)
    pub is_name : IsNameIn here.place id (row_of id).shape bytes name
    pub level : SaysLevel here id (step_of (head_of id) name) ms items

  -- the objects of a list say these names and statements, one after another
  abbrev pub SaysEach : Spot → ℕ → Items → List (List ℕ) → List Item → Type 0
  SaysEach here id no_items names items = (names ≡ []) × (items ≡ [])
  SaysEach here id (item (object ms) ds) [] items = ⊥
  SaysEach here id (item (object ms) ds) (name ∷ names) items =
      (own : List Item) × (others : List Item) × SaysNamed here id ms name own × SaysEach here id ds names others × (items ≡ own ++ others)
  SaysEach here id (item _ ds) names items = ⊥

  -- a list of the statements of a row with names: it isn't empty, and the names are in order
  pub record SaysList (here : Spot) (id : ℕ) (d : Data) (items : List Item) : Type 0 where
    pub objects : Items
    pub is : d ≡ array objects
    pub names : List (List ℕ)
    pub some : 0 < length names
    pub in_order : AreInOrder (row_of id).ordered names
    pub each : SaysEach here id objects names items

  -- what stands at the key of a row of this shape, and at that of its marks, says these statements
  abbrev pub SaysRow : Shape → Spot → ℕ → Data → Option Data → List Item → Type 0
  SaysRow Container here id d marks items = SaysObject here id (single_of id) d items
  SaysRow Fixed here id d marks items = SaysObject here id (single_of id) d items
  SaysRow Keyed here id d marks items = SaysList here id d items
  SaysRow Bare here id d marks items = SaysList here id d items
  SaysRow Leaf here id d marks items = SaysWords (IsLeafWord (row_of id).value_kind d) here id marks items
  SaysRow Flag here id d marks items = SaysWords (IsTrueFlag d) here id marks items
  SaysRow Many here id d marks items = SaysWords (AreManyWords (row_of id).value_kind d) here id marks items

  -- the same where it may be missing: then no marks stand beside it, and nothing is said
  abbrev pub SaysRowIf : Spot → ℕ → Option Data → Option Data → List Item → Type 0
  SaysRowIf here id None marks items = (items ≡ []) × NoMarks (row_of id).shape marks
  SaysRowIf here id (Some d) marks items = SaysRow (row_of id).shape here id d marks items

  -- what a level's members say, row by row
  abbrev pub SaysRows : Spot → Members → List ℕ → List Item → Type 0
  SaysRows here ms [] items = items ≡ []
  SaysRows here ms (id ∷ ids) items =
      (own : List Item) × (others : List Item) × SaysRowIf here id (get_member (key_of id) ms) (get_member (marks_key (key_of id)) ms) own
      × SaysRows here ms ids others × (items ≡ own ++ others)

-- each key is one of a level's
abbrev pub AreKeys : Place → Members → Type 0
AreKeys here no_members = ⊤
AreKeys here (member key d ms) = (lists (keys_at here) key ≡ true) × AreKeys here ms

-- the members of a level's object say these statements, so many levels deep
unfoldable pub SaysInside : ℕ → Members → Spot → List Item → Type 0
SaysInside zero ms here items = ⊥
SaysInside (suc levels) ms here items =
    AreKeys here.place ms × SaysRows (SaysInside levels) here ms (rows_below here.place.row here.place.in_group) items

-- the top, and that it leads to the top
abbrev pub top_spot : Spot
top_spot = record { path = []; place = top_place }

-- a value says a configuration
pub record Says (d : Data) (m : Statements) : Type 0 where
  pub members : Members
  pub is : d ≡ object (member (codes "configuration") (object members) no_members)
  pub items : List Item
  pub inside : SaysInside MAX_STEPS members top_spot items
  pub makes : m ≡ stated_from_none items
