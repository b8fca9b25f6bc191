-- The walk of an object's members and of a list's objects, one more at a time.
use Rattle.std.proofs.Common.{◌≡◌, ◌⊎◌, inl, inr, ◌<◌, ℕ, zero, suc, Bool, true, false, List, [], ◌∷◌, ◌++◌, length, refl, sym, ap, ap₂, subst, ◌∙◌, Option, Some, None, arith, append_assoc, append-nil, String, Global, string_bytes, string_cmp, nat_cmp, Ordering, Less, Equal, is_some}
use Rattle.std.specs.Prelude.{◌==◌, Result}
use Rattle.std.proofs.lemmas.Cmp.{nat_list_cmp_total, tied_itself}
use Rattle.std.specs.Cmp.Lexicographic.{slice_cmp}
use Rattle.std.specs.List.{AllByRecursion}
use Rattle.std.specs.List.Sorted.{IsStrictlySortedBy}
use Rattle.std.specs.Map.{keys_of}
use Rattle.cfg_base.specs.declared.kind.Kind.{Kind}
use Rattle.cfg_base.specs.declared.kind.Shape.{Shape}
use Rattle.cfg_base.specs.declared.kind.Shape.TheVariants.{Container, Fixed, Keyed, Bare, Leaf, Flag, Many}
use Rattle.cfg_base.specs.declared.path.Step.{Step}
use Rattle.cfg_base.specs.declared.path.TheConstants.{MAX_STEPS}
use Rattle.cfg_schema.specs.declared.place.Place.{Place}
use Rattle.cfg_schema.specs.Place.{entered, top_place}
use Rattle.cfg_schema.specs.Profile.{profile, row_of, head_of, is_level, is_named}
use Rattle.cfg_tree.specs.Statements.{Statements}
use Rattle.cfg_tree.specs.Stated.{stated_from_none}
use Rattle.cfg_tree.specs.Tree.{step_of}
use Rattle.serde_json.specs.Data.{Data, null, boolean, number, string, array, object, Items, no_items, item, Members, no_members, member}
use Rattle.serde_json.specs.Find.{get_member}
use Rattle.serde_json.specs.View.{view, items_view, members_view}
use Rattle.serde_json.specs.declared.value.Value.{Value}
use Rattle.serde_json.proofs.Views.{member_here, member_later}
use Rattle.json_text.specs.declared.fault.JsonFault.{JsonFault}
use Rattle.json_text.specs.declared.fault.JsonFault.TheVariants.{Form}
use Rattle.json_text.specs.declared.fault.ReadFault.{ReadFault}
use Rattle.json_text.specs.declared.key.KeyKind.{KeyKind}
use Rattle.json_text.specs.declared.key.KeyKind.TheVariants.{NoKey}
use Rattle.json_text.specs.declared.names.Names.{Names}
use Rattle.json_text.specs.Keys.{name_key, level_marks_key}
use Rattle.json_text.specs.Said.{Item, Spot, spot_at, single_of, statement_said, AreInOrder, SaysLevel, SaysObject, SaysNamed, SaysEach, SaysList, SaysInside, IsLeafWord, IsWordOf, Says, top_spot}
use Rattle.json_text.specs.Faults.{AreMarksAt, AreNoMarksAt, FaultInside, HasName, ItemsFault, LeafFault, LevelFault, ListFault, MemberFault, MemberFits, MembersFault, MembersFit, NameFault, ObjectFault, RowFault, RowFits, IsFirstFault, is_placed, key_fault, key_kind, single_path, whole}
use Rattle.json_text.specs.Checking.{HasFault, LevelFits, NextItem, NextName, NextNameFault, ObjectFits, Tracks, spot}
use Rattle.json_text.proofs.CheckedLemmas.{Checked, checked_as, each_fault}
use Rattle.json_text.proofs.FitLemmas.{fitting_says}

abbrev pub Entry : Type 0
Entry = String Global × Value

-- an entry is found at its key
first_less : (first : Entry) (done : List Entry) (e : Entry) (more : List Entry)
    → AllByRecursion (λ y. string_cmp first.0 y ≡ Less) (keys_of (done ++ e ∷ more)) → string_cmp first.0 e.0 ≡ Less
first_less first [] e more h = h.0
first_less first (x ∷ done) e more h = first_less first done e more h.1

less_differs : (a b : List ℕ) → slice_cmp nat_cmp a b ≡ Less → b ≡ a → ⊥
less_differs a b l e =
    let same : slice_cmp nat_cmp a b ≡ Equal = ap (λ (w : List ℕ). slice_cmp nat_cmp a w) e ∙ tied_itself nat_list_cmp_total a
    in let c : Less ≡ Equal = sym l ∙ same in cc

pub found_at : (done : List Entry) (e : Entry) (more : List Entry) → IsStrictlySortedBy string_cmp (keys_of (done ++ e ∷ more))
    → get_member (string_bytes e.0) (members_view (done ++ e ∷ more)) ≡ Some (view e.1)
unfolding IsStrictlySortedBy
found_at [] e more h = member_here (string_bytes e.0) e more refl
found_at (first ∷ done) e more h =
    member_later (string_bytes e.0) first (done ++ e ∷ more) (less_differs (string_bytes first.0) (string_bytes e.0) (first_less first done e more h.0))
    ∙ found_at done e more h.1

-- the members that are left of an object's
module _ (Inner : Members → Spot → List Item → Type 0) (Faulty : Members → Spot → JsonFault → Type 0) (here : Spot) (all : Members) where
  pub record MembersLeft (rest : Members) : Type 0 where
    pub fits : MembersFit Inner here all rest → MembersFit Inner here all all
    pub faults : (f : JsonFault) → MembersFault Inner Faulty here all rest f → MembersFault Inner Faulty here all all f

  pub members_start : MembersLeft all
  members_start = record { fits = λ x. x; faults = λ f x. x }

  pub members_step : (key : List ℕ) (d : Data) (ms : Members) → MembersLeft (member key d ms) → MemberFits Inner here all (key_kind here.place key) d → MembersLeft ms
  members_step key d ms left fit = record { fits = λ x. left.fits (fit, x); faults = λ f x. left.faults f (inr (fit, x)) }

  pub members_fault : (key : List ℕ) (d : Data) (ms : Members) (f : JsonFault) → MembersLeft (member key d ms) → get_member key all ≡ Some d
      → MemberFault Inner Faulty here all (key_kind here.place key) key d f → MembersFault Inner Faulty here all all f
  members_fault key d ms f left found x = left.faults f (inl (found, x))

-- a level
pub no_marks : (found : Option Data) → (AreMarksAt found → ⊥) → AreNoMarksAt found
no_marks found none = λ inactive protected m. none (inactive, protected, m)

module _ (Inner : Members → Spot → List Item → Type 0) where
  level_says : (here : Spot) (id : ℕ) (step : Step) (ms : Members) → LevelFits Inner (spot_at here id step) ms → (own : List Item) × SaysLevel Inner here id step ms own
  level_says here id step ms x = (
    statement_said here id step x.0.0 x.0.1 [] ++ x.1.0,
    record { inactive = x.0.0; protected = x.0.1; marks = x.0.2; inner = x.1.0; inside = x.1.1; said = refl },
  )

  pub object_says : (here : Spot) (id : ℕ) (step : Step) (d : Data) → ObjectFits Inner (spot_at here id step) d → (own : List Item) × SaysObject Inner here id step d own
  object_says here id step d x =
      let says : (own : List Item) × SaysObject Inner here id step (object x.ms) own = level_says here id step x.ms x.level
      in (says.0, subst (λ (y : Data). SaysObject Inner here id step y says.0) (sym x.is) says.1)

  -- the next object of a list
  pub next_item : (here : Spot) (id : ℕ) (d : Data) (ms : Members) (seen : List (List ℕ)) (name : List ℕ) → d ≡ object ms → NextName here id ms seen name
      → LevelFits Inner (spot_at here id (step_of (head_of id) name)) ms → NextItem Inner here id d seen name
  next_item here id d ms seen name e n x =
      let says = level_says here id (step_of (head_of id) name) ms x in record { ms = ms; is = e; next = n; own = says.0; level = says.1 }

  each_more : (here : Spot) (id : ℕ) (d : Data) (ds : Items) (seen : List (List ℕ)) (name : List ℕ) (names : List (List ℕ)) (others : List Item)
      → NextItem Inner here id d seen name → SaysEach Inner here id ds names others → (own : List Item) × SaysEach Inner here id (item d ds) (name ∷ names) own
  each_more here id d ds seen name names others n each =
      let has : HasName here id n.ms name = n.next.has
      in let named : SaysNamed Inner here id n.ms name n.own = record { bytes = has.bytes; there = has.there; is_name = has.is_name; level = n.level }
      in (
        n.own ++ others,
        subst (λ (y : Data). SaysEach Inner here id (item y ds) (name ∷ names) (n.own ++ others)) (sym n.is) (n.own, others, named, each, refl),
      )

module _ (Inner : Members → Spot → List Item → Type 0) (Faulty : Members → Spot → JsonFault → Type 0) (here : Spot) (id : ℕ) where
  -- the faults of the next object
  pub form_fault : (seen : List (List ℕ)) (d : Data) (ds : Items) (f : JsonFault) → ((ms : Members) → d ≡ object ms → ⊥) → f ≡ Form here.path
      → ItemsFault Inner Faulty here id seen (item d ds) f
  form_fault seen null ds f never e = e
  form_fault seen (boolean b) ds f never e = e
  form_fault seen (number n) ds f never e = e
  form_fault seen (string s) ds f never e = e
  form_fault seen (array es) ds f never e = e
  form_fault seen (object ms) ds f never e = absurd (never ms refl)

  pub name_fault : (seen : List (List ℕ)) (d : Data) (ms : Members) (ds : Items) (f : JsonFault) → d ≡ object ms → NextNameFault here id ms seen f
      → ItemsFault Inner Faulty here id seen (item d ds) f
  name_fault seen d ms ds f e x = subst (λ (y : Data). ItemsFault Inner Faulty here id seen (item y ds) f) (sym e) (by_case x)
    where
      by_case : NextNameFault here id ms seen f → ItemsFault Inner Faulty here id seen (item (object ms) ds) f
      by_case (inl y) = inl y
      by_case (inr y) = inr (y.0, y.1, inl (y.2, y.3))

  pub level_fault : (seen : List (List ℕ)) (d : Data) (ms : Members) (ds : Items) (name : List ℕ) (f : JsonFault) → d ≡ object ms → NextName here id ms seen name
      → LevelFault Inner Faulty (spot_at here id (step_of (head_of id) name)) ms f → ItemsFault Inner Faulty here id seen (item d ds) f
  level_fault seen d ms ds name f e n x =
      subst (λ (y : Data). ItemsFault Inner Faulty here id seen (item y ds) f) (sym e) (inr (name, n.has, inr (n.placed, inl x)))

  later_fault : (seen : List (List ℕ)) (d : Data) (ds : Items) (name : List ℕ) (f : JsonFault) → NextItem Inner here id d seen name
      → ItemsFault Inner Faulty here id (seen ++ name ∷ []) ds f → ItemsFault Inner Faulty here id seen (item d ds) f
  later_fault seen d ds name f n x =
      subst (λ (y : Data). ItemsFault Inner Faulty here id seen (item y ds) f) (sym n.is) (inr (name, n.next.has, inr (n.next.placed, inr (n.own, n.level, x))))

  -- the objects that are left of a list
  pub record ItemsLeft (all rest : Items) (names : Names) : Type 0 where
    pub seen : List (List ℕ)
    pub tracks : Tracks (row_of id).ordered seen names
    pub grow : (others : List (List ℕ)) (own : List Item) → SaysEach Inner here id rest others own → (more : List Item) × SaysEach Inner here id all (seen ++ others) more
    pub faults : (f : JsonFault) → ItemsFault Inner Faulty here id seen rest f → ItemsFault Inner Faulty here id [] all f

  pub items_start : (all : Items) (names : Names) → Tracks (row_of id).ordered [] names → ItemsLeft all all names
  items_start all names t = record { seen = []; tracks = t; grow = λ others own each. (own, each); faults = λ f x. x }

  abbrev NextOk : List (List ℕ) → Data → Names → Type 0
  NextOk seen d new = (name : List ℕ) × NextItem Inner here id d seen name × Tracks (row_of id).ordered (seen ++ name ∷ []) new

  pub items_step : (all rest ds : Items) (d : Data) (old new : Names) (left : ItemsLeft all rest old) → rest ≡ item d ds → NextOk left.seen d new → ItemsLeft all ds new
  items_step all rest ds d old new left e n = record {
    seen = left.seen ++ n.0 ∷ [];
    tracks = n.2;
    grow = λ others own each.
        let more = each_more Inner here id d ds left.seen n.0 others own n.1 each
        in let all_more = left.grow (n.0 ∷ others) more.0 (subst (λ (y : Items). SaysEach Inner here id y (n.0 ∷ others) more.0) (sym e) more.1)
        in (all_more.0, subst (λ (ns : List (List ℕ)). SaysEach Inner here id all ns all_more.0) (sym (append_assoc left.seen (n.0 ∷ []) others)) all_more.1);
    faults = λ f x. left.faults f (subst (λ (y : Items). ItemsFault Inner Faulty here id left.seen y f) (sym e) (later_fault left.seen d ds n.0 f n.1 x));
  }

  pub items_fault : (all rest ds : Items) (d : Data) (names : Names) (f : JsonFault) (left : ItemsLeft all rest names) → rest ≡ item d ds
      → ((es : Items) → ItemsFault Inner Faulty here id left.seen (item d es) f) → ItemsFault Inner Faulty here id [] all f
  items_fault all rest ds d names f left e x = left.faults f (subst (λ (y : Items). ItemsFault Inner Faulty here id left.seen y f) (sym e) (x ds))

  pub items_end : (all rest : Items) (names : Names) → rest ≡ no_items → ItemsLeft all rest names
      → (ns : List (List ℕ)) × (own : List Item) × SaysEach Inner here id all ns own × AreInOrder (row_of id).ordered ns
  items_end all rest names e left =
      let more = left.grow [] [] (subst (λ (y : Items). SaysEach Inner here id y [] []) (sym e) (refl, refl))
      in (left.seen, more.0, subst (λ (ns : List (List ℕ)). SaysEach Inner here id all ns more.0) (append-nil left.seen) more.1, left.tracks.in_order)

  -- a list
  some_names : (d : Data) (ds : Items) (ns : List (List ℕ)) (own : List Item) → SaysEach Inner here id (item d ds) ns own → 0 < length ns
  some_names d ds (n ∷ ns) own each = omega arith
  some_names (object ms) ds [] own each = absurd each
  some_names null ds [] own each = absurd each
  some_names (boolean b) ds [] own each = absurd each
  some_names (number x) ds [] own each = absurd each
  some_names (string s) ds [] own each = absurd each
  some_names (array es) ds [] own each = absurd each

  pub list_says : (all : Data) (d : Data) (ds : Items) → all ≡ array (item d ds)
      → ((ns : List (List ℕ)) × (own : List Item) × SaysEach Inner here id (item d ds) ns own × AreInOrder (row_of id).ordered ns)
      → (own : List Item) × SaysList Inner here id all own
  list_says all d ds e x = (x.1, record { objects = item d ds; is = e; names = x.0; some = some_names d ds x.0 x.1 x.2; in_order = x.3; each = x.2 })

  -- a row
  pub row_list : (shape : Shape) (d : Data) → is_named shape ≡ true → ((own : List Item) × SaysList Inner here id d own) → RowFits Inner shape here id d
  row_list Keyed d e x = x
  row_list Bare d e x = x
  row_list Container d e x = cc
  row_list Fixed d e x = cc
  row_list Leaf d e x = cc
  row_list Flag d e x = cc
  row_list Many d e x = cc

  pub row_list_fault : (shape : Shape) (d : Data) (f : JsonFault) → is_named shape ≡ true → ListFault Inner Faulty here id d f → RowFault Inner Faulty shape here id d f
  row_list_fault Keyed d f e x = x
  row_list_fault Bare d f e x = x
  row_list_fault Container d f e x = cc
  row_list_fault Fixed d f e x = cc
  row_list_fault Leaf d f e x = cc
  row_list_fault Flag d f e x = cc
  row_list_fault Many d f e x = cc

  pub row_object : (shape : Shape) (d : Data) → is_named shape ≡ false → is_level shape ≡ true → ObjectFits Inner (spot_at here id (single_of id)) d
      → RowFits Inner shape here id d
  row_object Container d e l x = object_says Inner here id (single_of id) d x
  row_object Fixed d e l x = object_says Inner here id (single_of id) d x
  row_object Keyed d e l x = cc
  row_object Bare d e l x = cc
  row_object Leaf d e l x = cc
  row_object Flag d e l x = cc
  row_object Many d e l x = cc

  pub row_object_fault : (shape : Shape) (d : Data) (f : JsonFault) → is_named shape ≡ false → is_level shape ≡ true
      → ObjectFault Inner Faulty (spot_at here id (single_of id)) d f → RowFault Inner Faulty shape here id d f
  row_object_fault Container d f e l x = x
  row_object_fault Fixed d f e l x = x
  row_object_fault Keyed d f e l x = cc
  row_object_fault Bare d f e l x = cc
  row_object_fault Leaf d f e l x = cc
  row_object_fault Flag d f e l x = cc
  row_object_fault Many d f e l x = cc

-- a level with so many levels in it
pub inside_says : (levels less : ℕ) (here : Spot) (ms : Members) → levels ≡ suc less → here.place.row < length profile → MembersFit (SaysInside less) here ms ms
    → (items : List Item) × SaysInside levels ms here items
inside_says levels less here ms e within fit =
    let says = fitting_says less here ms within fit in (says.0, subst (λ (n : ℕ). SaysInside n ms here says.0) (sym e) says.1)

deeper : (less : ℕ) (here : Spot) (ms : Members) (f : JsonFault) → MembersFault (SaysInside less) (FaultInside less) here ms ms f → FaultInside (suc less) ms here f
unfolding FaultInside
deeper less here ms f x = x

pub inside_fault : (levels less : ℕ) (here : Spot) (ms : Members) (f : JsonFault) → levels ≡ suc less
    → MembersFault (SaysInside less) (FaultInside less) here ms ms f → FaultInside levels ms here f
inside_fault levels less here ms f e x = subst (λ (n : ℕ). FaultInside n ms here f) (sym e) (deeper less here ms f x)

no_deeper : (here : Spot) (ms : Members) (f : JsonFault) → f ≡ Form here.path → FaultInside 0 ms here f
unfolding FaultInside
no_deeper here ms f x = x

pub no_levels : (levels : ℕ) (here : Spot) (ms : Members) (f : JsonFault) → levels ≡ 0 → f ≡ Form here.path → FaultInside levels ms here f
no_levels levels here ms f e x = subst (λ (n : ℕ). FaultInside n ms here f) (sym e) (no_deeper here ms f x)

-- a list that has objects
pub list_checked : {A : Type 0} (Inner : Members → Spot → List Item → Type 0) (Faulty : Members → Spot → JsonFault → Type 0) (here : Spot) (id : ℕ) (vs : List Value) (all : Data)
    (r : Result A ReadFault) → all ≡ array (items_view vs) → 0 < length vs
    → Checked ((ns : List (List ℕ)) × (own : List Item) × SaysEach Inner here id (items_view vs) ns own × AreInOrder (row_of id).ordered ns) (ItemsFault Inner Faulty here id [] (items_view vs)) r
    → Checked ((own : List Item) × SaysList Inner here id all own) (ListFault Inner Faulty here id all) r
list_checked Inner Faulty here id [] all r e n x = absurd (omega (arith, n))
list_checked {A = A} Inner Faulty here id (v ∷ vs) all r e n x =
    checked_as _ _ (ItemsFault Inner Faulty here id [] (items_view (v ∷ vs))) (ListFault Inner Faulty here id all)
    (list_says Inner Faulty here id all (view v) (items_view vs) e) (λ f y. subst (λ (d : Data). ListFault Inner Faulty here id d f) (sym e) y) r x

-- an object of a list that stands at its place
abbrev pub Placed : Spot → ℕ → Members → List (List ℕ) → List Step → Names → Type 0
Placed here id ms seen child new =
    (name : List ℕ) × NextName here id ms seen name × (child ≡ here.path ++ step_of (head_of id) name ∷ []) × Tracks (row_of id).ordered (seen ++ name ∷ []) new

pub item_checked : {A : Type 0} (Inner : Members → Spot → List Item → Type 0) (Faulty : Members → Spot → JsonFault → Type 0) (path : List Step) (place : Place) (id : ℕ) (d : Data) (ms : Members)
    (seen : List (List ℕ)) (child : List Step) (below : Place) (new : Names) (r : Result A ReadFault) → d ≡ object ms → below ≡ entered place id
    → Placed (spot path place) id ms seen child new → Checked (LevelFits Inner (spot child below) ms) (LevelFault Inner Faulty (spot child below) ms) r
    → Checked ((name : List ℕ) × NextItem Inner (spot path place) id d seen name × Tracks (row_of id).ordered (seen ++ name ∷ []) new)
    (λ f. (ds : Items) → ItemsFault Inner Faulty (spot path place) id seen (item d ds) f) r
item_checked Inner Faulty path place id d ms seen child below new r e b p x =
    let same : spot child below ≡ spot_at (spot path place) id (step_of (head_of id) p.0) = ap₂ (λ (q : List Step) (h : Place). spot q h) p.2 b
    in checked_as (LevelFits Inner (spot child below) ms) _ (LevelFault Inner Faulty (spot child below) ms) _
    (λ y. (p.0, next_item Inner (spot path place) id d ms seen p.0 e p.1 (subst (λ (h : Spot). LevelFits Inner h ms) same y), p.3))
    (λ f y ds. level_fault Inner Faulty (spot path place) id seen d ms ds p.0 f e p.1 (subst (λ (h : Spot). LevelFault Inner Faulty h ms f) same y)) r x

-- a Leaf, and the others that are no level
pub leaf_fits : (kind : Kind) (d : Data) → ((word : List ℕ) × IsWordOf kind d word) → (words : List (List ℕ)) × IsLeafWord kind d words
leaf_fits kind d x = (x.0 ∷ [], record { word = x.0; is_word = x.1; alone = refl })

-- a row's statement by the row's shape
pub single_checked : {A : Type 0} (Inner : Members → Spot → List Item → Type 0) (Faulty : Members → Spot → JsonFault → Type 0) (path : List Step) (place : Place) (id : ℕ) (shape : Shape)
    (d : Data) (child : List Step) (below : Place) (r : Result A ReadFault) → is_named shape ≡ false → is_level shape ≡ true → child ≡ path ++ single_of id ∷ [] → below ≡ entered place id
    → Checked (ObjectFits Inner (spot child below) d) (ObjectFault Inner Faulty (spot child below) d) r
    → Checked (RowFits Inner shape (spot path place) id d) (RowFault Inner Faulty shape (spot path place) id d) r
single_checked Inner Faulty path place id shape d child below r n l c b x =
    let same : spot child below ≡ spot_at (spot path place) id (single_of id) = ap₂ (λ (q : List Step) (h : Place). spot q h) c b
    in checked_as (ObjectFits Inner (spot child below) d) (RowFits Inner shape (spot path place) id d) (ObjectFault Inner Faulty (spot child below) d)
    (RowFault Inner Faulty shape (spot path place) id d)
    (λ y. row_object Inner Faulty (spot path place) id shape d n l (subst (λ (h : Spot). ObjectFits Inner h d) same y))
    (λ f y. row_object_fault Inner Faulty (spot path place) id shape d f n l (subst (λ (h : Spot). ObjectFault Inner Faulty h d f) same y)) r x

pub leaf_checked : {A : Type 0} (Inner : Members → Spot → List Item → Type 0) (Faulty : Members → Spot → JsonFault → Type 0) (here : Spot) (id : ℕ) (shape : Shape) (kind : Kind)
    (path : List Step) (d : Data) (r : Result A ReadFault) → shape ≡ Leaf → kind ≡ (row_of id).value_kind → path ≡ single_path here id
    → Checked ((word : List ℕ) × IsWordOf kind d word) (LeafFault kind path d) r → Checked (RowFits Inner shape here id d) (RowFault Inner Faulty shape here id d) r
leaf_checked Inner Faulty here id shape kind path d r s k p x =
    checked_as ((word : List ℕ) × IsWordOf kind d word) (RowFits Inner shape here id d) (LeafFault kind path d) (RowFault Inner Faulty shape here id d)
    (λ y. subst (λ (w : Shape). RowFits Inner w here id d) (sym s)
    (leaf_fits (row_of id).value_kind d (subst (λ (n : Kind). (word : List ℕ) × IsWordOf n d word) k y)))
    (λ f y. subst (λ (w : Shape). RowFault Inner Faulty w here id d f) (sym s)
    (subst (λ (q : List Step). LeafFault (row_of id).value_kind q d f) p (subst (λ (n : Kind). LeafFault n path d f) k y))) r x

-- a value that isn't an empty list
pub some_of : (n m : ℕ) (b : Bool) → b ≡ (n == 0) → b ≡ false → m ≡ n → 0 < m
some_of zero m b e f g = let c = sym e ∙ f in cc
some_of (suc n) m b e f g = omega (arith, g)

-- the members of a map, of which the first is looked at
abbrev pub Reached : List Entry → List Entry → Type 0
Reached es left = (done : List Entry) × (es ≡ done ++ left)

pub reached_more : (es left rest : List Entry) (e : Entry) → Reached es left → left ≡ e ∷ rest → Reached es rest
reached_more es left rest e x l = (x.0 ++ e ∷ [], x.1 ∙ ap (λ (ys : List Entry). x.0 ++ ys) l ∙ sym (append_assoc x.0 (e ∷ []) rest))

found_in : (es left rest : List Entry) (e : Entry) → Reached es left → left ≡ e ∷ rest → IsStrictlySortedBy string_cmp (keys_of es)
    → get_member (string_bytes e.0) (members_view es) ≡ Some (view e.1)
found_in es left rest e x l s =
    let all : es ≡ x.0 ++ e ∷ rest = x.1 ∙ ap (λ (ys : List Entry). x.0 ++ ys) l
    in ap (λ (ys : List Entry). get_member (string_bytes e.0) (members_view ys)) all
    ∙ found_at x.0 e rest (subst (λ (ys : List Entry). IsStrictlySortedBy string_cmp (keys_of ys)) all s)

module _ (Inner : Members → Spot → List Item → Type 0) (Faulty : Members → Spot → JsonFault → Type 0) (here : Spot) (es left rest : List Entry) (e : Entry)
    (next : left ≡ e ∷ rest) (before : MembersLeft Inner Faulty here (members_view es) (members_view left)) where
  here_left : MembersLeft Inner Faulty here (members_view es) (member (string_bytes e.0) (view e.1) (members_view rest))
  here_left = subst (λ (ys : List Entry). MembersLeft Inner Faulty here (members_view es) (members_view ys)) next before

  pub members_stop : Reached es left → IsStrictlySortedBy string_cmp (keys_of es) → (r : ReadFault)
      → HasFault (MemberFault Inner Faulty here (members_view es) (key_kind here.place (string_bytes e.0)) (string_bytes e.0) (view e.1)) r
      → HasFault (MembersFault Inner Faulty here (members_view es) (members_view es)) r
  members_stop x s r y =
      each_fault (MemberFault Inner Faulty here (members_view es) (key_kind here.place (string_bytes e.0)) (string_bytes e.0) (view e.1))
      (MembersFault Inner Faulty here (members_view es) (members_view es))
      (λ f z. members_fault Inner Faulty here (members_view es) (string_bytes e.0) (view e.1) (members_view rest) f here_left (found_in es left rest e x next s) z) r y

  pub members_more : Reached es left → MemberFits Inner here (members_view es) (key_kind here.place (string_bytes e.0)) (view e.1)
      → MembersLeft Inner Faulty here (members_view es) (members_view rest) × Reached es rest
  members_more x fit =
      (members_step Inner Faulty here (members_view es) (string_bytes e.0) (view e.1) (members_view rest) here_left fit, reached_more es left rest e x next)

-- a key of nothing
pub no_key : (Inner : Members → Spot → List Item → Type 0) (Faulty : Members → Spot → JsonFault → Type 0) (here : Spot) (all : Members) (key read : List ℕ) (d : Data) (r : ReadFault)
    → read ≡ key → key_kind here.place key ≡ NoKey → HasFault (λ f. f ≡ key_fault here.path read) r → HasFault (MemberFault Inner Faulty here all (key_kind here.place key) key d) r
no_key Inner Faulty here all key read d r e k x =
    each_fault (λ f. f ≡ key_fault here.path read) (MemberFault Inner Faulty here all (key_kind here.place key) key d)
    (λ f y. subst (λ (kind : KeyKind). MemberFault Inner Faulty here all kind key d f) (sym k) (y ∙ ap (key_fault here.path) e)) r x

-- a whole value
pub whole_checked : {A : Type 0} (d : Data) (ms : Members) (path : List Step) (place : Place) (r : Result A ReadFault) → d ≡ whole ms → path ≡ [] → place ≡ top_place
    → Checked ((items : List Item) × SaysInside MAX_STEPS ms (spot path place) items) (FaultInside MAX_STEPS ms (spot path place)) r
    → Checked ((m : Statements) × Says d m) (IsFirstFault d) r
whole_checked d ms path place r e p t x =
    let same : spot path place ≡ top_spot = ap₂ (λ (q : List Step) (h : Place). spot q h) p t
    in checked_as ((items : List Item) × SaysInside MAX_STEPS ms (spot path place) items) ((m : Statements) × Says d m) (FaultInside MAX_STEPS ms (spot path place)) (IsFirstFault d)
    (λ y. (
      stated_from_none y.0,
      record { members = ms; is = e; items = y.0; inside = subst (λ (h : Spot). SaysInside MAX_STEPS ms h y.0) same y.1; makes = refl },
    ))
    (λ f y. inr (ms, e, subst (λ (h : Spot). FaultInside MAX_STEPS ms h f) same y)) r x

-- the shapes of levels
pub level_shape : (shape : Shape) → (shape ≡ Container) ⊎ ((shape ≡ Fixed) ⊎ ((shape ≡ Keyed) ⊎ (shape ≡ Bare))) → is_level shape ≡ true
level_shape shape (inl e) = ap is_level e
level_shape shape (inr (inl e)) = ap is_level e
level_shape shape (inr (inr (inl e))) = ap is_level e
level_shape shape (inr (inr (inr e))) = ap is_level e
