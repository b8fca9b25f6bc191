-- A value has one first fault at most.
use Rattle.std.proofs.Common.{◌≡◌, ◌⊎◌, inl, inr, ℕ, zero, suc, true, false, List, [], ◌∷◌, ◌++◌, sym, ap, subst, ◌∙◌, Option, Some, None, is_some}
use Rattle.cfg_base.specs.Words.{lists}
use Rattle.cfg_base.specs.declared.kind.Kind.{Kind}
use Rattle.cfg_base.specs.declared.kind.Shape.{Shape}
use Rattle.cfg_base.specs.declared.kind.Shape.TheVariants.{Container, Fixed, Keyed, Bare, Leaf, Flag, Many}
use Rattle.cfg_base.specs.declared.path.Step.{Step}
use Rattle.cfg_base.specs.declared.path.TheConstants.{MAX_STEPS}
use Rattle.cfg_schema.specs.Profile.{row_of, head_of}
use Rattle.cfg_tree.specs.Tree.{step_of}
use Rattle.cfg_values.proofs.SpellingLemmas.{IsCanonicalOf-unique}
use Rattle.serde_json.specs.Data.{Data, Num, unsigned, negative, float, null, boolean, number, string, array, object, Items, no_items, item, Members, no_members, member}
use Rattle.serde_json.specs.Find.{get_member}
use Rattle.json_text.specs.declared.fault.JsonFault.{JsonFault}
use Rattle.json_text.specs.declared.fault.JsonFault.TheVariants.{Form}
use Rattle.json_text.specs.Keys.{name_key, level_marks_key, key_of}
use Rattle.json_text.specs.Said.{Item, Spot, spot_at, IsNameIn, SaysLevel, IsLeafWord, SaysInside, top_spot, single_of}
use Rattle.json_text.specs.declared.key.KeyKind.{KeyKind}
use Rattle.json_text.specs.declared.key.KeyKind.TheVariants.{Own, OfRow, OfMarks, NoKey}
use Rattle.json_text.specs.Faults.{key_kind, single_path, AreNoMarksAt, AreMarksAt, NumberFault, LeafNumberFault, LeafFault, WordsFault, ManyFault, is_placed, LevelFault, ObjectFault, NameFault, HasName, ItemsFault, ListFault, RowFault, RowFits, MemberFits, MemberFault, MembersFault, FaultInside, IsFirstFault}
use Rattle.json_text.proofs.OneLemmas.{some_same, string_same, name_same}
use Rattle.json_text.proofs.ApartLemmas.{spelled, not_both, name_apart, leaf_apart, many_apart, level_apart, object_apart, list_apart, levels_apart, whole_one}

number_one : (kind : Kind) (path : List Step) (n : Num) (f g : JsonFault) → LeafNumberFault kind path n f → LeafNumberFault kind path n g → f ≡ g
number_one kind path n f g (inl x) (inr y) = absurd (y.0 x.0)
number_one kind path n f g (inr x) (inl y) = absurd (x.0 y.0)
number_one kind path n f g (inr x) (inr y) = x.1 ∙ sym y.1
number_one kind path (unsigned n) f g (inl x) (inl y) =
    let a : NumberFault kind path (unsigned n) f = x.1 in let b : NumberFault kind path (unsigned n) g = y.1 in a.1 ∙ sym b.1
number_one kind path (negative z) f g (inl x) (inl y) = x.1 ∙ sym y.1
number_one kind path (float v) f g (inl x) (inl y) = x.1 ∙ sym y.1

leaf_one : (kind : Kind) (path : List Step) (d : Data) (f g : JsonFault) → LeafFault kind path d f → LeafFault kind path d g → f ≡ g
leaf_one kind path null f g x y = x ∙ sym y
leaf_one kind path (boolean b) f g x y = x ∙ sym y
leaf_one kind path (number n) f g x y = number_one kind path n f g x y
leaf_one kind path (string s) f g x y = x.1 ∙ sym y.1
leaf_one kind path (array ds) f g x y = x ∙ sym y
leaf_one kind path (object ms) f g x y = x ∙ sym y

later_one : (kind : Kind) (path : List Step) (seen : List (List ℕ)) (ds : Items) (f g : JsonFault) (v w : List ℕ) → v ≡ w
    → ((lists seen v ≡ true) × (f ≡ Form path)) ⊎ ((lists seen v ≡ false) × WordsFault kind path (seen ++ v ∷ []) ds f)
    → ((lists seen w ≡ true) × (g ≡ Form path)) ⊎ ((lists seen w ≡ false) × WordsFault kind path (seen ++ w ∷ []) ds g)
    → (WordsFault kind path (seen ++ w ∷ []) ds f → WordsFault kind path (seen ++ w ∷ []) ds g → f ≡ g) → f ≡ g
later_one kind path seen ds f g v w e (inl x) (inl y) go = x.1 ∙ sym y.1
later_one kind path seen ds f g v w e (inl x) (inr y) go = absurd (not_both (lists seen w) (ap (lists seen) (sym e) ∙ x.0) y.0)
later_one kind path seen ds f g v w e (inr x) (inl y) go = absurd (not_both (lists seen w) y.0 (ap (lists seen) (sym e) ∙ x.0))
later_one kind path seen ds f g v w e (inr x) (inr y) go = go (subst (λ (u : List ℕ). WordsFault kind path (seen ++ u ∷ []) ds f) e x.1) y.1

words_one : (kind : Kind) (path : List Step) (seen : List (List ℕ)) (ds : Items) (f g : JsonFault) → WordsFault kind path seen ds f → WordsFault kind path seen ds g → f ≡ g
words_one kind path seen no_items f g x y = absurd x
words_one kind path seen (item (string s) ds) f g (inl x) (inl y) = x.1 ∙ sym y.1
words_one kind path seen (item (string s) ds) f g (inl x) (inr y) = absurd (x.0 (spelled kind s y.0 y.1))
words_one kind path seen (item (string s) ds) f g (inr x) (inl y) = absurd (y.0 (spelled kind s x.0 x.1))
words_one kind path seen (item (string s) ds) f g (inr x) (inr y) =
    later_one kind path seen ds f g x.0 y.0 (IsCanonicalOf-unique kind s x.0 y.0 x.1 y.1) x.2 y.2 (λ a b. words_one kind path (seen ++ y.0 ∷ []) ds f g a b)
words_one kind path seen (item null ds) f g x y = x ∙ sym y
words_one kind path seen (item (boolean t) ds) f g x y = x ∙ sym y
words_one kind path seen (item (number n) ds) f g x y = x ∙ sym y
words_one kind path seen (item (array es) ds) f g x y = x ∙ sym y
words_one kind path seen (item (object ms) ds) f g x y = x ∙ sym y

many_one : (kind : Kind) (path : List Step) (d : Data) (f g : JsonFault) → ManyFault kind path d f → ManyFault kind path d g → f ≡ g
many_one kind path null f g x y = x ∙ sym y
many_one kind path (boolean b) f g x y = x ∙ sym y
many_one kind path (number n) f g x y = x ∙ sym y
many_one kind path (string s) f g x y = x ∙ sym y
many_one kind path (object ms) f g x y = x ∙ sym y
many_one kind path (array no_items) f g x y = x ∙ sym y
many_one kind path (array (item d ds)) f g x y = words_one kind path [] (item d ds) f g x y

name_one : (here : Spot) (id : ℕ) (found : Option Data) (f g : JsonFault) → NameFault here id found f → NameFault here id found g → f ≡ g
name_one here id None f g x y = x ∙ sym y
name_one here id (Some null) f g x y = x ∙ sym y
name_one here id (Some (boolean b)) f g x y = x ∙ sym y
name_one here id (Some (number n)) f g x y = x ∙ sym y
name_one here id (Some (array ds)) f g x y = x ∙ sym y
name_one here id (Some (object ms)) f g x y = x ∙ sym y
name_one here id (Some (string s)) f g x y = x.1 ∙ sym y.1

has_one : (here : Spot) (id : ℕ) (ms : Members) (v w : List ℕ) → HasName here id ms v → HasName here id ms w → v ≡ w
has_one here id ms v w x y =
    let bytes : x.bytes ≡ y.bytes = string_same x.bytes y.bytes (some_same (string x.bytes) (string y.bytes) (sym x.there ∙ y.there)) in
    name_same here.place id (row_of id).shape y.bytes v w (subst (λ (s : List ℕ). IsNameIn here.place id (row_of id).shape s v) bytes x.is_name) y.is_name

module _ (Inner : Members → Spot → List Item → Type 0) (Faulty : Members → Spot → JsonFault → Type 0)
    (apart : (ms : Members) (here : Spot) (items : List Item) (f : JsonFault) → Faulty ms here f → Inner ms here items → ⊥)
    (one : (ms : Members) (here : Spot) (f g : JsonFault) → Faulty ms here f → Faulty ms here g → f ≡ g) where
  level_one : (here : Spot) (id : ℕ) (step : Step) (ms : Members) (f g : JsonFault) → LevelFault Inner Faulty (spot_at here id step) ms f → LevelFault Inner Faulty (spot_at here id step) ms g → f ≡ g
  level_one here id step ms f g (inl x) (inl y) = x.1 ∙ sym y.1
  level_one here id step ms f g (inl x) (inr y) = let m : AreMarksAt (get_member level_marks_key ms) = y.0 in absurd (x.0 m.0 m.1 m.2)
  level_one here id step ms f g (inr x) (inl y) = let m : AreMarksAt (get_member level_marks_key ms) = x.0 in absurd (y.0 m.0 m.1 m.2)
  level_one here id step ms f g (inr x) (inr y) = one ms (spot_at here id step) f g x.1 y.1

  object_one : (here : Spot) (id : ℕ) (step : Step) (d : Data) (f g : JsonFault) → ObjectFault Inner Faulty (spot_at here id step) d f → ObjectFault Inner Faulty (spot_at here id step) d g → f ≡ g
  object_one here id step null f g x y = x ∙ sym y
  object_one here id step (boolean b) f g x y = x ∙ sym y
  object_one here id step (number n) f g x y = x ∙ sym y
  object_one here id step (string s) f g x y = x ∙ sym y
  object_one here id step (array ds) f g x y = x ∙ sym y
  object_one here id step (object ms) f g x y = level_one here id step ms f g x y

  abbrev Within : Spot → ℕ → List (List ℕ) → Members → Items → List ℕ → JsonFault → Type 0
  Within here id seen ms ds name fault =
      LevelFault Inner Faulty (spot_at here id (step_of (head_of id) name)) ms fault
      ⊎ ((own : List Item) × SaysLevel Inner here id (step_of (head_of id) name) ms own × ItemsFault Inner Faulty here id (seen ++ name ∷ []) ds fault)

  abbrev Placed : Spot → ℕ → List (List ℕ) → Members → Items → List ℕ → JsonFault → Type 0
  Placed here id seen ms ds name fault =
      ((is_placed (row_of id).ordered seen name ≡ false) × (fault ≡ Form (here.path ++ step_of (head_of id) name ∷ [])))
      ⊎ ((is_placed (row_of id).ordered seen name ≡ true) × Within here id seen ms ds name fault)

  within_one : (here : Spot) (id : ℕ) (seen : List (List ℕ)) (ms : Members) (ds : Items) (name : List ℕ) (f g : JsonFault)
      → Within here id seen ms ds name f → Within here id seen ms ds name g
      → (ItemsFault Inner Faulty here id (seen ++ name ∷ []) ds f → ItemsFault Inner Faulty here id (seen ++ name ∷ []) ds g → f ≡ g) → f ≡ g
  within_one here id seen ms ds name f g (inl x) (inl y) go = level_one here id (step_of (head_of id) name) ms f g x y
  within_one here id seen ms ds name f g (inl x) (inr y) go =
      absurd (level_apart Inner Faulty apart here id (step_of (head_of id) name) ms f y.0 x y.1)
  within_one here id seen ms ds name f g (inr x) (inl y) go =
      absurd (level_apart Inner Faulty apart here id (step_of (head_of id) name) ms g x.0 y x.1)
  within_one here id seen ms ds name f g (inr x) (inr y) go = go x.2 y.2

  placed_one : (here : Spot) (id : ℕ) (seen : List (List ℕ)) (ms : Members) (ds : Items) (name : List ℕ) (f g : JsonFault)
      → Placed here id seen ms ds name f → Placed here id seen ms ds name g
      → (ItemsFault Inner Faulty here id (seen ++ name ∷ []) ds f → ItemsFault Inner Faulty here id (seen ++ name ∷ []) ds g → f ≡ g) → f ≡ g
  placed_one here id seen ms ds name f g (inl x) (inl y) go = x.1 ∙ sym y.1
  placed_one here id seen ms ds name f g (inl x) (inr y) go = absurd (not_both (is_placed (row_of id).ordered seen name) y.0 x.0)
  placed_one here id seen ms ds name f g (inr x) (inl y) go = absurd (not_both (is_placed (row_of id).ordered seen name) x.0 y.0)
  placed_one here id seen ms ds name f g (inr x) (inr y) go =
      let a : Within here id seen ms ds name f = x.1 in let b : Within here id seen ms ds name g = y.1 in within_one here id seen ms ds name f g a b go

  items_one : (here : Spot) (id : ℕ) (seen : List (List ℕ)) (ds : Items) (f g : JsonFault)
      → ItemsFault Inner Faulty here id seen ds f → ItemsFault Inner Faulty here id seen ds g → f ≡ g
  items_one here id seen no_items f g x y = absurd x
  items_one here id seen (item null ds) f g x y = x ∙ sym y
  items_one here id seen (item (boolean t) ds) f g x y = x ∙ sym y
  items_one here id seen (item (number n) ds) f g x y = x ∙ sym y
  items_one here id seen (item (string s) ds) f g x y = x ∙ sym y
  items_one here id seen (item (array es) ds) f g x y = x ∙ sym y
  items_one here id seen (item (object ms) ds) f g (inl x) (inl y) = name_one here id (get_member name_key ms) f g x y
  items_one here id seen (item (object ms) ds) f g (inl x) (inr y) =
      let has : HasName here id ms y.0 = y.1 in absurd (name_apart here id (get_member name_key ms) f has.bytes y.0 x has.there has.is_name)
  items_one here id seen (item (object ms) ds) f g (inr x) (inl y) =
      let has : HasName here id ms x.0 = x.1 in absurd (name_apart here id (get_member name_key ms) g has.bytes x.0 y has.there has.is_name)
  items_one here id seen (item (object ms) ds) f g (inr x) (inr y) =
      let name : x.0 ≡ y.0 = has_one here id ms x.0 y.0 x.1 y.1 in
      placed_one here id seen ms ds y.0 f g (subst (λ (w : List ℕ). Placed here id seen ms ds w f) name x.2) y.2
      (λ a b. items_one here id (seen ++ y.0 ∷ []) ds f g a b)

  list_one : (here : Spot) (id : ℕ) (d : Data) (f g : JsonFault) → ListFault Inner Faulty here id d f → ListFault Inner Faulty here id d g → f ≡ g
  list_one here id null f g x y = x ∙ sym y
  list_one here id (boolean b) f g x y = x ∙ sym y
  list_one here id (number n) f g x y = x ∙ sym y
  list_one here id (string s) f g x y = x ∙ sym y
  list_one here id (object ms) f g x y = x ∙ sym y
  list_one here id (array no_items) f g x y = x ∙ sym y
  list_one here id (array (item d ds)) f g x y = items_one here id [] (item d ds) f g x y

  row_one : (shape : Shape) (here : Spot) (id : ℕ) (d : Data) (f g : JsonFault) → RowFault Inner Faulty shape here id d f → RowFault Inner Faulty shape here id d g → f ≡ g
  row_one Container here id d f g x y = object_one here id (single_of id) d f g x y
  row_one Fixed here id d f g x y = object_one here id (single_of id) d f g x y
  row_one Keyed here id d f g x y = list_one here id d f g x y
  row_one Bare here id d f g x y = list_one here id d f g x y
  row_one Leaf here id d f g x y = leaf_one (row_of id).value_kind (single_path here id) d f g x y
  row_one Flag here id d f g x y = x.1 ∙ sym y.1
  row_one Many here id d f g x y = many_one (row_of id).value_kind (single_path here id) d f g x y

  member_one : (here : Spot) (all : Members) (kind : KeyKind) (key : List ℕ) (d : Data) (f g : JsonFault)
      → MemberFault Inner Faulty here all kind key d f → MemberFault Inner Faulty here all kind key d g → f ≡ g
  member_one here all Own key d f g x y = absurd x
  member_one here all (OfRow id) key d f g x y = row_one (row_of id).shape here id d f g x y
  member_one here all (OfMarks id) key d f g x y = x.1 ∙ sym y.1
  member_one here all NoKey key d f g x y = x ∙ sym y

  marks_fit : (o : Option Data) (d : Data) → AreMarksAt (Some d) → is_some o ≡ true → (AreNoMarksAt (Some d)) ⊎ (o ≡ None) → ⊥
  marks_fit o d m s (inl u) = u m.0 m.1 m.2
  marks_fit None d m s (inr n) = cc
  marks_fit (Some v) d m s (inr n) = cc

  row_fit_apart : (shape : Shape) (here : Spot) (id : ℕ) (d : Data) (f : JsonFault) → RowFits Inner shape here id d → RowFault Inner Faulty shape here id d f → ⊥
  row_fit_apart Container here id d f x y = object_apart Inner Faulty apart here id (single_of id) d f x.0 y x.1
  row_fit_apart Fixed here id d f x y = object_apart Inner Faulty apart here id (single_of id) d f x.0 y x.1
  row_fit_apart Keyed here id d f x y = list_apart Inner Faulty apart here id d f x.0 y x.1
  row_fit_apart Bare here id d f x y = list_apart Inner Faulty apart here id d f x.0 y x.1
  row_fit_apart Leaf here id d f x y =
      let w : IsLeafWord (row_of id).value_kind d x.0 = x.1 in leaf_apart (row_of id).value_kind (single_path here id) d f w.word y w.is_word
  row_fit_apart Flag here id d f x y = y.0 x
  row_fit_apart Many here id d f x y = many_apart (row_of id).value_kind (single_path here id) d f x.0 y x.1

  fit_apart : (here : Spot) (all : Members) (kind : KeyKind) (key : List ℕ) (d : Data) (f : JsonFault)
      → MemberFits Inner here all kind d → MemberFault Inner Faulty here all kind key d f → ⊥
  fit_apart here all Own key d f x y = y
  fit_apart here all (OfRow id) key d f x y = row_fit_apart (row_of id).shape here id d f x y
  fit_apart here all (OfMarks id) key d f x y = marks_fit (get_member (key_of id) all) d x.0 x.1 y.0
  fit_apart here all NoKey key d f x y = x

  members_one : (here : Spot) (all ms : Members) (f g : JsonFault) → MembersFault Inner Faulty here all ms f → MembersFault Inner Faulty here all ms g → f ≡ g
  members_one here all no_members f g x y = absurd x
  members_one here all (member key d ms) f g (inl x) (inl y) = member_one here all (key_kind here.place key) key d f g x.1 y.1
  members_one here all (member key d ms) f g (inl x) (inr y) = absurd (fit_apart here all (key_kind here.place key) key d f y.0 x.1)
  members_one here all (member key d ms) f g (inr x) (inl y) = absurd (fit_apart here all (key_kind here.place key) key d g x.0 y.1)
  members_one here all (member key d ms) f g (inr x) (inr y) = members_one here all ms f g x.1 y.1

levels_one : (levels : ℕ) (ms : Members) (here : Spot) (f g : JsonFault) → FaultInside levels ms here f → FaultInside levels ms here g → f ≡ g
unfolding FaultInside
levels_one zero ms here f g x y = x ∙ sym y
levels_one (suc levels) ms here f g x y = members_one (SaysInside levels) (FaultInside levels) (levels_apart levels) (levels_one levels) here ms ms f g x y

pub one_fault : (d : Data) (f g : JsonFault) → IsFirstFault d f → IsFirstFault d g → f ≡ g
one_fault d f g (inl x) (inl y) = x.1 ∙ sym y.1
one_fault d f g (inl x) (inr y) = absurd (x.0 y.0 y.1)
one_fault d f g (inr x) (inl y) = absurd (y.0 x.0 x.1)
one_fault d f g (inr x) (inr y) =
    let ms : x.0 ≡ y.0 = whole_one x.0 y.0 (sym x.1 ∙ y.1) in
    levels_one MAX_STEPS y.0 top_spot f g (subst (λ (w : Members). FaultInside MAX_STEPS w top_spot f) ms x.2) y.2
