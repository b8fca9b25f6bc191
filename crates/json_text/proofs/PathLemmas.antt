-- A first fault has a path.
use Rattle.std.proofs.Common.{◌≡◌, ◌⊎◌, inl, inr, ℕ, zero, suc, Bool, true, false, List, [], ◌∷◌, ◌++◌, sym, subst, Option, Some, None}
use Rattle.std.specs.Prelude.{⊤, if◌then◌else◌}
use Rattle.cfg_base.specs.declared.kind.Kind.{Kind}
use Rattle.cfg_base.specs.declared.kind.Shape.{Shape}
use Rattle.cfg_base.specs.declared.kind.Shape.TheVariants.{Container, Fixed, Keyed, Bare, Leaf, Flag, Many}
use Rattle.cfg_base.specs.declared.path.Step.{Step}
use Rattle.cfg_base.specs.declared.path.TheConstants.{MAX_STEPS}
use Rattle.cfg_schema.specs.Profile.{row_of, head_of}
use Rattle.cfg_tree.specs.Tree.{step_of}
use Rattle.serde_json.specs.Data.{Data, Num, unsigned, negative, float, null, boolean, number, string, array, object, Items, no_items, item, Members, no_members, member}
use Rattle.serde_json.specs.Find.{get_member}
use Rattle.json_text.specs.declared.fault.JsonFault.{JsonFault}
use Rattle.json_text.specs.declared.fault.JsonFault.TheVariants.{NotJson, Unknown, BadValue, Form, TooMany}
use Rattle.json_text.specs.declared.key.KeyKind.{KeyKind}
use Rattle.json_text.specs.declared.key.KeyKind.TheVariants.{Own, OfRow, OfMarks, NoKey}
use Rattle.json_text.specs.Keys.{name_key}
use Rattle.json_text.specs.Said.{Item, Spot, SaysInside, spot_at, top_spot}
use Rattle.json_text.specs.Faults.{NumberFault, LeafNumberFault, LeafFault, WordsFault, ManyFault, LevelFault, ObjectFault, NameFault, ItemsFault, ListFault, RowFault, MemberFault, MembersFault, FaultInside, IsFirstFault, is_shown, key_fault, key_kind, single_path}

-- the fault is one of a place in a value
abbrev pub HasPath : JsonFault → Type 0
HasPath NotJson = ⊥
HasPath (Unknown path) = ⊤
HasPath (BadValue path) = ⊤
HasPath (Form path) = ⊤
HasPath TooMany = ⊥

is_form : (path : List Step) (f : JsonFault) → f ≡ Form path → HasPath f
is_form path f e = subst HasPath (sym e) tt

is_bad : (path : List Step) (f : JsonFault) → f ≡ BadValue path → HasPath f
is_bad path f e = subst HasPath (sym e) tt

of_number : (kind : Kind) (path : List Step) (n : Num) (f : JsonFault) → LeafNumberFault kind path n f → HasPath f
of_number kind path n f (inr x) = is_form path f x.1
of_number kind path (unsigned n) f (inl x) = let bad : NumberFault kind path (unsigned n) f = x.1 in is_bad path f bad.1
of_number kind path (negative z) f (inl x) = is_bad path f x.1
of_number kind path (float v) f (inl x) = is_form path f x.1

of_leaf : (kind : Kind) (path : List Step) (d : Data) (f : JsonFault) → LeafFault kind path d f → HasPath f
of_leaf kind path (string s) f x = is_bad path f x.1
of_leaf kind path (number n) f x = of_number kind path n f x
of_leaf kind path null f x = is_form path f x
of_leaf kind path (boolean b) f x = is_form path f x
of_leaf kind path (array ds) f x = is_form path f x
of_leaf kind path (object ms) f x = is_form path f x

of_next : {A B C : Type 0} (path : List Step) (f : JsonFault) → (A × (f ≡ Form path)) ⊎ (B × C) → (C → HasPath f) → HasPath f
of_next path f (inl x) go = is_form path f x.1
of_next path f (inr x) go = go x.1

of_words : (kind : Kind) (path : List Step) (seen : List (List ℕ)) (ds : Items) (f : JsonFault) → WordsFault kind path seen ds f → HasPath f
of_words kind path seen no_items f x = absurd x
of_words kind path seen (item (string s) ds) f (inl x) = is_bad path f x.1
of_words kind path seen (item (string s) ds) f (inr x) = of_next path f x.2 (λ y. of_words kind path (seen ++ x.0 ∷ []) ds f y)
of_words kind path seen (item null ds) f x = is_form path f x
of_words kind path seen (item (boolean b) ds) f x = is_form path f x
of_words kind path seen (item (number n) ds) f x = is_form path f x
of_words kind path seen (item (array es) ds) f x = is_form path f x
of_words kind path seen (item (object ms) ds) f x = is_form path f x

of_many : (kind : Kind) (path : List Step) (d : Data) (f : JsonFault) → ManyFault kind path d f → HasPath f
of_many kind path (array no_items) f x = is_form path f x
of_many kind path (array (item d ds)) f x = of_words kind path [] (item d ds) f x
of_many kind path null f x = is_form path f x
of_many kind path (boolean b) f x = is_form path f x
of_many kind path (number n) f x = is_form path f x
of_many kind path (string s) f x = is_form path f x
of_many kind path (object ms) f x = is_form path f x

of_name : (here : Spot) (id : ℕ) (found : Option Data) (f : JsonFault) → NameFault here id found f → HasPath f
of_name here id None f x = is_form here.path f x
of_name here id (Some null) f x = is_form here.path f x
of_name here id (Some (boolean b)) f x = is_form here.path f x
of_name here id (Some (number n)) f x = is_form here.path f x
of_name here id (Some (string s)) f x = is_bad _ f x.1
of_name here id (Some (array ds)) f x = is_form here.path f x
of_name here id (Some (object ms)) f x = is_form here.path f x

key_path : (path : List Step) (key : List ℕ) (b : Bool) → HasPath (if b then Unknown (path ++ step_of key [] ∷ []) else Form path)
key_path path key true = tt
key_path path key false = tt

of_key : (path : List Step) (key : List ℕ) (f : JsonFault) → f ≡ key_fault path key → HasPath f
of_key path key f e = subst HasPath (sym e) (key_path path key (is_shown key))

module _ (Inner : Members → Spot → List Item → Type 0) (Faulty : Members → Spot → JsonFault → Type 0)
    (inside : (ms : Members) (here : Spot) (f : JsonFault) → Faulty ms here f → HasPath f) where
  of_level : (here : Spot) (ms : Members) (f : JsonFault) → LevelFault Inner Faulty here ms f → HasPath f
  of_level here ms f (inl x) = is_form here.path f x.1
  of_level here ms f (inr x) = inside ms here f x.1

  of_object : (here : Spot) (d : Data) (f : JsonFault) → ObjectFault Inner Faulty here d f → HasPath f
  of_object here (object ms) f x = of_level here ms f x
  of_object here null f x = is_form here.path f x
  of_object here (boolean b) f x = is_form here.path f x
  of_object here (number n) f x = is_form here.path f x
  of_object here (string s) f x = is_form here.path f x
  of_object here (array ds) f x = is_form here.path f x

  of_within : {A : List Item → Type 0} {B : Type 0} (here : Spot) (ms : Members) (f : JsonFault) → LevelFault Inner Faulty here ms f ⊎ ((own : List Item) × A own × B) → (B → HasPath f)
      → HasPath f
  of_within here ms f (inl x) go = of_level here ms f x
  of_within here ms f (inr x) go = go x.2

  of_items : (here : Spot) (id : ℕ) (seen : List (List ℕ)) (ds : Items) (f : JsonFault) → ItemsFault Inner Faulty here id seen ds f → HasPath f
  of_items here id seen no_items f x = absurd x
  of_items here id seen (item (object ms) ds) f (inl x) = of_name here id (get_member name_key ms) f x
  of_items here id seen (item (object ms) ds) f (inr x) =
      of_next (here.path ++ step_of (head_of id) x.0 ∷ []) f x.2
      (λ y. of_within (spot_at here id (step_of (head_of id) x.0)) ms f y (λ z. of_items here id (seen ++ x.0 ∷ []) ds f z))
  of_items here id seen (item null ds) f x = is_form here.path f x
  of_items here id seen (item (boolean b) ds) f x = is_form here.path f x
  of_items here id seen (item (number n) ds) f x = is_form here.path f x
  of_items here id seen (item (string s) ds) f x = is_form here.path f x
  of_items here id seen (item (array es) ds) f x = is_form here.path f x

  of_list : (here : Spot) (id : ℕ) (d : Data) (f : JsonFault) → ListFault Inner Faulty here id d f → HasPath f
  of_list here id (array no_items) f x = is_form here.path f x
  of_list here id (array (item d ds)) f x = of_items here id [] (item d ds) f x
  of_list here id null f x = is_form here.path f x
  of_list here id (boolean b) f x = is_form here.path f x
  of_list here id (number n) f x = is_form here.path f x
  of_list here id (string s) f x = is_form here.path f x
  of_list here id (object ms) f x = is_form here.path f x

  of_row : (shape : Shape) (here : Spot) (id : ℕ) (d : Data) (f : JsonFault) → RowFault Inner Faulty shape here id d f → HasPath f
  of_row Container here id d f x = of_object _ d f x
  of_row Fixed here id d f x = of_object _ d f x
  of_row Keyed here id d f x = of_list here id d f x
  of_row Bare here id d f x = of_list here id d f x
  of_row Leaf here id d f x = of_leaf (row_of id).value_kind (single_path here id) d f x
  of_row Flag here id d f x = is_form _ f x.1
  of_row Many here id d f x = of_many (row_of id).value_kind (single_path here id) d f x

  of_member : (here : Spot) (all : Members) (kind : KeyKind) (key : List ℕ) (d : Data) (f : JsonFault) → MemberFault Inner Faulty here all kind key d f → HasPath f
  of_member here all Own key d f x = absurd x
  of_member here all (OfRow id) key d f x = of_row (row_of id).shape here id d f x
  of_member here all (OfMarks id) key d f x = is_form _ f x.1
  of_member here all NoKey key d f x = of_key here.path key f x

  of_members : (here : Spot) (all ms : Members) (f : JsonFault) → MembersFault Inner Faulty here all ms f → HasPath f
  of_members here all no_members f x = absurd x
  of_members here all (member key d ms) f (inl x) = of_member here all (key_kind here.place key) key d f x.1
  of_members here all (member key d ms) f (inr x) = of_members here all ms f x.1

of_inside : (levels : ℕ) (ms : Members) (here : Spot) (f : JsonFault) → FaultInside levels ms here f → HasPath f
unfolding FaultInside
of_inside zero ms here f x = is_form here.path f x
of_inside (suc levels) ms here f x = of_members (SaysInside levels) (FaultInside levels) (of_inside levels) here ms ms f x

pub has_path : (d : Data) (f : JsonFault) → IsFirstFault d f → HasPath f
has_path d f (inl x) = is_form [] f x.1
has_path d f (inr x) = of_inside MAX_STEPS x.0 top_spot f x.2
