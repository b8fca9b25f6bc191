-- What is written of a configuration has no numbers and is nested no deeper than its levels.
use Rattle.std.proofs.Common.{◌≡◌, ◌≤◌, ℕ, zero, suc, max, Bool, true, false, List, [], ◌∷◌, ◌++◌, flat_map, refl, Option, Some, None, arith}
use Rattle.std.specs.Prelude.{◌||◌, ⊤}
use Rattle.std.specs.FinMap as map
use Rattle.std.specs.List.{AllByRecursion}
use Rattle.std.specs.Ordering.{nat_cmp, match_ordering}
use Rattle.std.specs.Cmp.Lexicographic.{slice_cmp}
use Rattle.std.specs.declared.cmp.Ordering.{Ordering}
use Rattle.std.specs.declared.cmp.Ordering.TheVariants.{Less, Equal, Greater}
use Rattle.cfg_base.specs.declared.kind.Shape.{Shape}
use Rattle.cfg_base.specs.declared.kind.Shape.TheVariants.{Container, Fixed, Keyed, Bare, Leaf, Flag, Many}
use Rattle.cfg_base.specs.declared.path.Step.{Step}
use Rattle.cfg_base.specs.declared.path.TheConstants.{MAX_STEPS}
use Rattle.cfg_base.specs.declared.value.Value.{Value}
use Rattle.cfg_schema.specs.declared.place.Place.{Place}
use Rattle.cfg_schema.specs.Profile.{row_of, rows_below, is_named}
use Rattle.cfg_schema.specs.Place.{place_of}
use Rattle.cfg_tree.specs.Statements.{Statements}
use Rattle.serde_json.specs.Data.{Data, null, boolean, number, string, array, object, Items, no_items, item, Members, no_members, member, put, depth, items_depth, members_depth}
use Rattle.serde_json.specs.Read.{max_depth}
use Rattle.serde_json.specs.Written.{has_float, items_have_float, members_have_float}
use Rattle.serde_json.specs.View.{items_of}
use Rattle.json_text.specs.Keys.{level_marks_key, marks_key, key_of}
use Rattle.json_text.specs.Written.{Pair, put_all, strings, listed, marks_set, marks_at, own_pairs, level_object, alone_at, alone_if, object_if, child_object, child_alone, steps_of_row, pairs_by, pairs_of_row, pairs_at, pairs_below, json_of}

-- values without numbers, nested so deep at most
abbrev mutual
  pub IsNested : ℕ → Data → Type 0
  IsNested n null = ⊤
  IsNested n (boolean b) = ⊤
  IsNested n (number k) = ⊥
  IsNested n (string s) = ⊤
  IsNested zero (array ds) = ⊥
  IsNested (suc n) (array ds) = AreNested n ds
  IsNested zero (object ms) = ⊥
  IsNested (suc n) (object ms) = AreNestedIn n ms

  pub AreNested : ℕ → Items → Type 0
  AreNested n no_items = ⊤
  AreNested n (item d ds) = IsNested n d × AreNested n ds

  pub AreNestedIn : ℕ → Members → Type 0
  AreNestedIn n no_members = ⊤
  AreNestedIn n (member k d ms) = IsNested n d × AreNestedIn n ms

-- a value nested so deep is nested one deeper
mutual
  more : (n : ℕ) (d : Data) → IsNested n d → IsNested (suc n) d
  more n null h = tt
  more n (boolean b) h = tt
  more n (number k) h = absurd h
  more n (string s) h = tt
  more zero (array ds) h = absurd h
  more (suc n) (array ds) h = more_items n ds h
  more zero (object ms) h = absurd h
  more (suc n) (object ms) h = more_members n ms h

  more_items : (n : ℕ) (ds : Items) → AreNested n ds → AreNested (suc n) ds
  more_items n no_items h = tt
  more_items n (item d ds) h = (more n d h.0, more_items n ds h.1)

  more_members : (n : ℕ) (ms : Members) → AreNestedIn n ms → AreNestedIn (suc n) ms
  more_members n no_members h = tt
  more_members n (member k d ms) h = (more n d h.0, more_members n ms h.1)

larger : (a b n : ℕ) → a ≤ n → b ≤ n → max a b ≤ n
larger a b n h g = omega (arith, h, g)

mutual
  depth_of : (n : ℕ) (d : Data) → IsNested n d → depth d ≤ n
  depth_of n null h = omega (arith)
  depth_of n (boolean b) h = omega (arith)
  depth_of n (number k) h = absurd h
  depth_of n (string s) h = omega (arith)
  depth_of zero (array ds) h = absurd h
  depth_of (suc n) (array ds) h = let k = depth_items n ds h in omega (arith, k)
  depth_of zero (object ms) h = absurd h
  depth_of (suc n) (object ms) h = let k = depth_members n ms h in omega (arith, k)

  depth_items : (n : ℕ) (ds : Items) → AreNested n ds → items_depth ds ≤ n
  depth_items n no_items h = omega (arith)
  depth_items n (item d ds) h = larger (depth d) (items_depth ds) n (depth_of n d h.0) (depth_items n ds h.1)

  depth_members : (n : ℕ) (ms : Members) → AreNestedIn n ms → members_depth ms ≤ n
  depth_members n no_members h = omega (arith)
  depth_members n (member k d ms) h = larger (depth d) (members_depth ms) n (depth_of n d h.0) (depth_members n ms h.1)

neither : (a b : Bool) → a ≡ false → b ≡ false → (a || b) ≡ false
neither true b e f = cc
neither false b e f = f

mutual
  no_float : (n : ℕ) (d : Data) → IsNested n d → has_float d ≡ false
  no_float n null h = refl
  no_float n (boolean b) h = refl
  no_float n (number k) h = absurd h
  no_float n (string s) h = refl
  no_float zero (array ds) h = absurd h
  no_float (suc n) (array ds) h = no_floats n ds h
  no_float zero (object ms) h = absurd h
  no_float (suc n) (object ms) h = no_floats_in n ms h

  no_floats : (n : ℕ) (ds : Items) → AreNested n ds → items_have_float ds ≡ false
  no_floats n no_items h = refl
  no_floats n (item d ds) h = neither (has_float d) (items_have_float ds) (no_float n d h.0) (no_floats n ds h.1)

  no_floats_in : (n : ℕ) (ms : Members) → AreNestedIn n ms → members_have_float ms ≡ false
  no_floats_in n no_members h = refl
  no_floats_in n (member k d ms) h = neither (has_float d) (members_have_float ms) (no_float n d h.0) (no_floats_in n ms h.1)

-- pairs
abbrev All : ℕ → List Pair → Type 0
All n ps = AllByRecursion (λ p. IsNested n p.1) ps

all-append : (n : ℕ) (ps qs : List Pair) → All n ps → All n qs → All n (ps ++ qs)
all-append n [] qs a b = b
all-append n (p ∷ ps) qs a b = (a.0, all-append n ps qs a.1 b)

all_more : (n : ℕ) (ps : List Pair) → All n ps → All (suc n) ps
all_more n [] a = tt
all_more n (p ∷ ps) a = (more n p.1 a.0, all_more n ps a.1)

nested-put : (n : ℕ) (k : List ℕ) (d : Data) (ms : Members) → IsNested n d → AreNestedIn n ms → AreNestedIn n (put k d ms)
nested-put n k d no_members h a = (h, tt)
nested-put n k d (member l e ms) h a = by_order (slice_cmp nat_cmp k l) (nested-put n k d ms h a.1)
  where
    by_order : (o : Ordering) → AreNestedIn n (put k d ms) → AreNestedIn n (match_ordering o (member k d (member l e ms)) (member l d ms) (member l e (put k d ms)))
    by_order Less go = (h, a)
    by_order Equal go = (h, a.1)
    by_order Greater go = (a.0, go)

nested-put_all : (n : ℕ) (ms : Members) (ps : List Pair) → AreNestedIn n ms → All n ps → AreNestedIn n (put_all ms ps)
nested-put_all n ms [] a b = a
nested-put_all n ms (p ∷ ps) a b = nested-put_all n (put p.0 p.1 ms) ps (nested-put n p.0 p.1 ms b.0 a) b.1

strings_nested : (n : ℕ) (words : List (List ℕ)) → AreNested n (items_of (strings words))
strings_nested n [] = tt
strings_nested n (word ∷ words) = (tt, strings_nested n words)

listed_nested : (n : ℕ) (key : List ℕ) (ds : List Data) → AreNested n (items_of ds) → All (suc n) (listed key ds)
listed_nested n key [] a = tt
listed_nested n key (d ∷ ds) a = (a, tt)

marks_nested : (n : ℕ) (key : List ℕ) (value : Value) → All (suc n) (marks_at key value)
marks_nested n key value = listed_nested n key (strings (marks_set value.inactive value.protected)) (strings_nested n (marks_set value.inactive value.protected))

own_nested : (n : ℕ) (named : Bool) (step : Step) (value : Value) → All (suc n) (own_pairs named step value)
own_nested n true step value = (tt, marks_nested n level_marks_key value)
own_nested n false step value = marks_nested n level_marks_key value

level_nested : (n : ℕ) (named : Bool) (step : Step) (value : Value) (inner : List Pair) → All (suc n) inner → IsNested (suc (suc n)) (level_object named step value inner)
level_nested n named step value inner a =
    nested-put_all (suc n) no_members (own_pairs named step value ++ inner) tt (all-append (suc n) (own_pairs named step value) inner (own_nested n named step value) a)

module _ (n : ℕ) (m : Statements) (path : List Step) (below : List Step → List Pair) (inner : (p : List Step) → All (suc n) (below p)) where
  object_nested : (step : Step) (found : Option Value) (ps : List Pair) (rest : List Data) → All (suc n) ps → AreNested (suc (suc n)) (items_of rest)
      → AreNested (suc (suc n)) (items_of (object_if step found ps ++ rest))
  object_nested step None ps rest a b = b
  object_nested step (Some value) ps rest a b = (level_nested n true step value ps a, b)

  objects_nested : (steps : List Step) → AreNested (suc (suc n)) (items_of (flat_map (child_object m path below) steps))
  objects_nested [] = tt
  objects_nested (step ∷ steps) =
      object_nested step (map.get m (path ++ step ∷ [])) (below (path ++ step ∷ [])) (flat_map (child_object m path below) steps) (inner (path ++ step ∷ [])) (objects_nested steps)

  alone_nested : (shape : Shape) (key : List ℕ) (step : Step) (value : Value) (ps : List Pair) → All (suc n) ps → All (suc (suc (suc n))) (alone_at shape key step value ps)
  alone_nested Container key step value ps a = (more (suc (suc n)) (level_object false step value ps) (level_nested n false step value ps a), tt)
  alone_nested Fixed key step value ps a = (more (suc (suc n)) (level_object false step value ps) (level_nested n false step value ps a), tt)
  alone_nested Keyed key step value ps a = tt
  alone_nested Bare key step value ps a = tt
  alone_nested Leaf key step value ps a = (tt, marks_nested (suc (suc n)) (marks_key key) value)
  alone_nested Flag key step value ps a = (tt, marks_nested (suc (suc n)) (marks_key key) value)
  alone_nested Many key step value ps a = (strings_nested (suc (suc n)) value.words, marks_nested (suc (suc n)) (marks_key key) value)

  single_nested : (shape : Shape) (key : List ℕ) (step : Step) (found : Option Value) (ps : List Pair) → All (suc n) ps → All (suc (suc (suc n))) (alone_if shape key step found ps)
  single_nested shape key step None ps a = tt
  single_nested shape key step (Some value) ps a = alone_nested shape key step value ps a

  alones_nested : (id : ℕ) (steps : List Step) → All (suc (suc (suc n))) (flat_map (child_alone m path below id) steps)
  alones_nested id [] = tt
  alones_nested id (step ∷ steps) =
      all-append (suc (suc (suc n))) (child_alone m path below id step) (flat_map (child_alone m path below id) steps)
      (single_nested (row_of id).shape (key_of id) step (map.get m (path ++ step ∷ [])) (below (path ++ step ∷ [])) (inner (path ++ step ∷ [])))
      (alones_nested id steps)

  row_nested : (id : ℕ) → All (suc (suc (suc n))) (pairs_of_row m path below id)
  row_nested id = by_named (is_named (row_of id).shape)
    where
      by_named : (b : Bool) → All (suc (suc (suc n))) (pairs_by m path below b id (steps_of_row m path below id))
      by_named true = listed_nested (suc (suc n)) (key_of id) (flat_map (child_object m path below) (steps_of_row m path below id)) (objects_nested (steps_of_row m path below id))
      by_named false = alones_nested id (steps_of_row m path below id)

  rows_nested : (ids : List ℕ) → All (suc (suc (suc n))) (flat_map (pairs_of_row m path below) ids)
  rows_nested [] = tt
  rows_nested (id ∷ ids) =
      all-append (suc (suc (suc n))) (pairs_of_row m path below id) (flat_map (pairs_of_row m path below) ids) (row_nested id) (rows_nested ids)

  at_nested : (found : Option Place) → All (suc (suc (suc n))) (pairs_at m path below found)
  at_nested None = tt
  at_nested (Some here) = rows_nested (rows_below here.row here.in_group)

-- two for each level, and one for the lists of words
abbrev double : ℕ → ℕ
double zero = zero
double (suc n) = suc (suc (double n))

below_nested : (levels : ℕ) (m : Statements) (path : List Step) → All (suc (double levels)) (pairs_below levels m path)
unfolding pairs_below
below_nested zero m path = tt
below_nested (suc levels) m path = at_nested (double levels) m path (pairs_below levels m) (below_nested levels m) (place_of path)

-- how deep the JSON of a configuration is nested at most
abbrev pub most : ℕ
most = suc (suc (suc (double MAX_STEPS)))

pub nested : (m : Statements) → IsNested most (json_of m)
nested m = (nested-put_all (suc (double MAX_STEPS)) no_members (pairs_below MAX_STEPS m []) tt (below_nested MAX_STEPS m []), tt)

pub shallow : (m : Statements) → depth (json_of m) ≤ max_depth
shallow m = let h = depth_of most (json_of m) (nested m) in omega (arith, h)

pub floatless : (m : Statements) → has_float (json_of m) ≡ false
floatless m = no_float most (json_of m) (nested m)
