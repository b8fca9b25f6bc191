-- The first fault of a value that says no configuration, in the order of its walk: an object's name, its marks, its members by the
-- bytes of their keys, a list from its front, a child's object where it is met. The order is this project's own.
use Rattle.std.specs.Prelude.{◌≡◌, ◌≢◌, ◌⊎◌, ℕ, zero, suc, Bool, true, false, not, ◌&&◌, nat_le, List, [], ◌∷◌, ◌++◌, codes, length, find, Option, Some, None, is_some, if◌then◌else◌, decimal, ⊤}
use Rattle.std.specs.List.{list_all}
use Rattle.std.specs.Ordering.{is_lt}
use Rattle.cfg_base.specs.Bytes.{is_printing}
use Rattle.cfg_base.specs.Order.{word_cmp}
use Rattle.cfg_base.specs.Words.{lists, same_word}
use Rattle.cfg_base.specs.declared.kind.Kind.{Kind}
use Rattle.cfg_base.specs.declared.kind.Shape.{Shape}
use Rattle.cfg_base.specs.declared.kind.Shape.TheVariants.{Container, Fixed, Keyed, Bare, Leaf, Flag, Many}
use Rattle.cfg_base.specs.declared.path.Step.{Step}
use Rattle.cfg_base.specs.declared.path.TheConstants.{MAX_STEPS}
use Rattle.cfg_schema.specs.declared.place.Place.{Place}
use Rattle.cfg_schema.specs.Profile.{row_of, head_of, is_level, rows_below}
use Rattle.cfg_tree.specs.Tree.{step_of}
use Rattle.cfg_values.specs.Spelling.{IsSpelling, IsCanonicalOf}
use Rattle.serde_json.specs.Data.{Data, Num, unsigned, negative, float, boolean, number, string, array, object, Items, no_items, item, Members, no_members, member}
use Rattle.serde_json.specs.Find.{get_member}
use Rattle.json_text.specs.declared.fault.JsonFault.{JsonFault}
use Rattle.json_text.specs.declared.fault.JsonFault.TheVariants.{Unknown, BadValue, Form}
use Rattle.json_text.specs.declared.key.KeyKind.{KeyKind}
use Rattle.json_text.specs.declared.key.KeyKind.TheVariants.{Own, OfRow, OfMarks, NoKey}
use Rattle.json_text.specs.Keys.{name_key, level_marks_key, marks_key, key_of, own_keys}
use Rattle.json_text.specs.Said.{Item, Spot, spot_at, single_of, IsMarked, IsNumberKind, IsNameIn, SaysLevel, SaysObject, SaysList, IsLeafWord, AreManyWords, SaysInside, top_spot}

-- the key is that of a row's statements
abbrev pub has_key : List ℕ → ℕ → Bool
has_key key id = same_word key (key_of id)

-- the key is that of the marks beside a row's statement, which is no level
abbrev pub has_marks_key : List ℕ → ℕ → Bool
has_marks_key key id = not (is_level (row_of id).shape) && same_word key (marks_key (key_of id))

-- what a key is of by the row that has it, and the row whose marks have it
abbrev pub kind_by : Option ℕ → Option ℕ → KeyKind
kind_by (Some id) marks = OfRow id
kind_by None (Some id) = OfMarks id
kind_by None None = NoKey

-- what a key is of, among these rows, where the level's own statement has these keys
abbrev pub kind_among : List ℕ → List (List ℕ) → List ℕ → KeyKind
kind_among rows own key = (if lists own key then Own else kind_by (find (has_key key) rows) (find (has_marks_key key) rows))

-- what a key is of at a level
abbrev pub key_kind : Place → List ℕ → KeyKind
key_kind here key = kind_among (rows_below here.row here.in_group) (own_keys here.row) key

-- bytes that may stand in a path: a printable word
abbrev pub is_shown : List ℕ → Bool
is_shown bytes = nat_le (length bytes) 255 && list_all is_printing bytes

-- a path that ends in a name as it was read, or, where that can't be shown, the level's
abbrev pub shown_path : List Step → List ℕ → List ℕ → List Step
shown_path path head bytes = if is_shown bytes then path ++ step_of head bytes ∷ [] else path

-- the fault of a key that is of nothing: of a key that can't be shown it is the level's
abbrev pub key_fault : List Step → List ℕ → JsonFault
key_fault path key = if is_shown key then Unknown (path ++ step_of key [] ∷ []) else Form path

-- the path of the one statement of a row without names
abbrev pub single_path : Spot → ℕ → List Step
single_path here id = here.path ++ single_of id ∷ []

-- what stands at a key of marks, if anything, says which marks are set
abbrev pub AreMarksAt : Option Data → Type 0
AreMarksAt found = (inactive : Bool) × (protected : Bool) × IsMarked found inactive protected

-- it says nothing of the kind
abbrev pub AreNoMarksAt : Option Data → Type 0
AreNoMarksAt found = (inactive protected : Bool) → ¬ (IsMarked found inactive protected)

-- the fault of a number in the place of a word of a kind of numbers
abbrev pub NumberFault : Kind → List Step → Num → JsonFault → Type 0
NumberFault kind path (unsigned n) fault = ¬ (IsSpelling kind (decimal n)) × (fault ≡ BadValue path)
NumberFault kind path (negative z) fault = fault ≡ BadValue path
NumberFault kind path (float x) fault = fault ≡ Form path

-- the fault of a number in the place of a Leaf's word: it may stand there where the kind is one of numbers
abbrev pub LeafNumberFault : Kind → List Step → Num → JsonFault → Type 0
LeafNumberFault kind path n fault = (IsNumberKind kind × NumberFault kind path n fault) ⊎ (¬ (IsNumberKind kind) × (fault ≡ Form path))

-- the fault of what stands in the place of a Leaf's word
abbrev pub LeafFault : Kind → List Step → Data → JsonFault → Type 0
LeafFault kind path (string bytes) fault = ¬ (IsSpelling kind bytes) × (fault ≡ BadValue path)
LeafFault kind path (number n) fault = LeafNumberFault kind path n fault
LeafFault kind path other fault = fault ≡ Form path

-- the first fault of the words of a Many, behind these words
abbrev pub WordsFault : Kind → List Step → List (List ℕ) → Items → JsonFault → Type 0
WordsFault kind path seen no_items fault = ⊥
WordsFault kind path seen (item (string bytes) ds) fault =
    (¬ (IsSpelling kind bytes) × (fault ≡ BadValue path))
    ⊎ ((word : List ℕ) × IsCanonicalOf kind bytes word
    × (((lists seen word ≡ true) × (fault ≡ Form path)) ⊎ ((lists seen word ≡ false) × WordsFault kind path (seen ++ word ∷ []) ds fault)))
WordsFault kind path seen (item other ds) fault = fault ≡ Form path

-- the fault of what stands in the place of a Many's words
abbrev pub ManyFault : Kind → List Step → Data → JsonFault → Type 0
ManyFault kind path (array no_items) fault = fault ≡ Form path
ManyFault kind path (array (item d ds)) fault = WordsFault kind path [] (item d ds) fault
ManyFault kind path other fault = fault ≡ Form path

-- a name may stand behind these: it is none of them, and is after each where the row keeps no user's order
abbrev pub is_placed : Bool → List (List ℕ) → List ℕ → Bool
is_placed true seen name = not (lists seen name)
is_placed false seen name = list_all (λ other. is_lt (word_cmp other name)) seen

-- the fault of the name of an object in a list
abbrev pub NameFault : Spot → ℕ → Option Data → JsonFault → Type 0
NameFault here id (Some (string bytes)) fault =
    ((name : List ℕ) → ¬ (IsNameIn here.place id (row_of id).shape bytes name)) × (fault ≡ BadValue (shown_path here.path (head_of id) bytes))
NameFault here id other fault = fault ≡ Form here.path

-- the object has this name
pub record HasName (here : Spot) (id : ℕ) (ms : Members) (name : List ℕ) : Type 0 where
  pub bytes : List ℕ
  pub there : get_member name_key ms ≡ Some (string bytes)
  pub is_name : IsNameIn here.place id (row_of id).shape bytes name

module _ (Inner : Members → Spot → List Item → Type 0) where
  -- what stands at the key of a row of this shape says the row's statements, but for the marks beside one
  abbrev pub RowFits : Shape → Spot → ℕ → Data → Type 0
  RowFits Container here id d = (own : List Item) × SaysObject Inner here id (single_of id) d own
  RowFits Fixed here id d = (own : List Item) × SaysObject Inner here id (single_of id) d own
  RowFits Keyed here id d = (own : List Item) × SaysList Inner here id d own
  RowFits Bare here id d = (own : List Item) × SaysList Inner here id d own
  RowFits Leaf here id d = (words : List (List ℕ)) × IsLeafWord (row_of id).value_kind d words
  RowFits Flag here id d = d ≡ boolean true
  RowFits Many here id d = (words : List (List ℕ)) × AreManyWords (row_of id).value_kind d words

  -- a member of an object that has all these fits: marks fit where their statement is there
  abbrev pub MemberFits : Spot → Members → KeyKind → Data → Type 0
  MemberFits here all Own d = ⊤
  MemberFits here all (OfRow id) d = RowFits (row_of id).shape here id d
  MemberFits here all (OfMarks id) d = AreMarksAt (Some d) × (is_some (get_member (key_of id) all) ≡ true)
  MemberFits here all NoKey d = ⊥

  -- each of these fits
  abbrev pub MembersFit : Spot → Members → Members → Type 0
  MembersFit here all no_members = ⊤
  MembersFit here all (member key d ms) = MemberFits here all (key_kind here.place key) d × MembersFit here all ms

module _ (Inner : Members → Spot → List Item → Type 0) (Faulty : Members → Spot → JsonFault → Type 0) where
  -- the first fault of a level's object: of its marks, and then of what stands in it
  abbrev pub LevelFault : Spot → Members → JsonFault → Type 0
  LevelFault here ms fault =
      (AreNoMarksAt (get_member level_marks_key ms) × (fault ≡ Form here.path))
      ⊎ (AreMarksAt (get_member level_marks_key ms) × Faulty ms here fault)

  -- the same of a value, which has to be an object
  abbrev pub ObjectFault : Spot → Data → JsonFault → Type 0
  ObjectFault here (object ms) fault = LevelFault here ms fault
  ObjectFault here other fault = fault ≡ Form here.path

  -- the first fault of the objects of a list, behind objects with these names: of its name, of the name's place, of its level; or it
  -- says its statements, and a later one has the fault
  abbrev pub ItemsFault : Spot → ℕ → List (List ℕ) → Items → JsonFault → Type 0
  ItemsFault here id seen no_items fault = ⊥
  ItemsFault here id seen (item (object ms) ds) fault =
      NameFault here id (get_member name_key ms) fault
      ⊎ ((name : List ℕ) × HasName here id ms name
      × (((is_placed (row_of id).ordered seen name ≡ false) × (fault ≡ Form (here.path ++ step_of (head_of id) name ∷ [])))
      ⊎ ((is_placed (row_of id).ordered seen name ≡ true)
      × (LevelFault (spot_at here id (step_of (head_of id) name)) ms fault
      ⊎ ((own : List Item) × SaysLevel Inner here id (step_of (head_of id) name) ms own × ItemsFault here id (seen ++ name ∷ []) ds fault)))))
  ItemsFault here id seen (item other ds) fault = fault ≡ Form here.path

  -- the first fault of what stands in the place of a list
  abbrev pub ListFault : Spot → ℕ → Data → JsonFault → Type 0
  ListFault here id (array no_items) fault = fault ≡ Form here.path
  ListFault here id (array (item d ds)) fault = ItemsFault here id [] (item d ds) fault
  ListFault here id other fault = fault ≡ Form here.path

  -- the first fault of what stands at the key of a row of this shape
  abbrev pub RowFault : Shape → Spot → ℕ → Data → JsonFault → Type 0
  RowFault Container here id d fault = ObjectFault (spot_at here id (single_of id)) d fault
  RowFault Fixed here id d fault = ObjectFault (spot_at here id (single_of id)) d fault
  RowFault Keyed here id d fault = ListFault here id d fault
  RowFault Bare here id d fault = ListFault here id d fault
  RowFault Leaf here id d fault = LeafFault (row_of id).value_kind (single_path here id) d fault
  RowFault Flag here id d fault = (d ≢ boolean true) × (fault ≡ Form (single_path here id))
  RowFault Many here id d fault = ManyFault (row_of id).value_kind (single_path here id) d fault

  -- the first fault of a member of an object that has all these
  abbrev pub MemberFault : Spot → Members → KeyKind → List ℕ → Data → JsonFault → Type 0
  MemberFault here all Own key d fault = ⊥
  MemberFault here all (OfRow id) key d fault = RowFault (row_of id).shape here id d fault
  MemberFault here all (OfMarks id) key d fault =
      (AreNoMarksAt (Some d) ⊎ (get_member (key_of id) all ≡ None)) × (fault ≡ Form (single_path here id))
  MemberFault here all NoKey key d fault = fault ≡ key_fault here.path key

  -- the first fault of these members, each of which is found at its key
  abbrev pub MembersFault : Spot → Members → Members → JsonFault → Type 0
  MembersFault here all no_members fault = ⊥
  MembersFault here all (member key d ms) fault =
      ((get_member key all ≡ Some d) × MemberFault here all (key_kind here.place key) key d fault)
      ⊎ (MemberFits Inner here all (key_kind here.place key) d × MembersFault here all ms fault)

-- the first fault of the members of a level's object, so many levels deep; one that is deeper has the fault itself
unfoldable pub FaultInside : ℕ → Members → Spot → JsonFault → Type 0
FaultInside zero ms here fault = fault ≡ Form here.path
FaultInside (suc levels) ms here fault = MembersFault (SaysInside levels) (FaultInside levels) here ms ms fault

-- a whole value: an object of the one member `configuration`, whose value is the object of the top
abbrev pub whole : Members → Data
whole ms = object (member (codes "configuration") (object ms) no_members)

-- the first fault of a value: it isn't a whole one, or a member of the top has it
abbrev pub IsFirstFault : Data → JsonFault → Type 0
IsFirstFault d fault =
    (((ms : Members) → d ≢ whole ms) × (fault ≡ Form []))
    ⊎ ((ms : Members) × (d ≡ whole ms) × FaultInside MAX_STEPS ms top_spot fault)
