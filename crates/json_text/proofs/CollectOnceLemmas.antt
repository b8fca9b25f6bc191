-- The statements that a value says have different paths.
use Rattle.std.proofs.Common.{◌≡◌, ◌<◌, ◌≤◌, ◌+◌, ℕ, zero, suc, Bool, true, false, cond, List, [], ◌∷◌, ◌++◌, length, map as each, filter, refl, sym, ap, subst, ◌∙◌, ◌⊎◌, inl, inr, Option, Some, None, arith, if◌then◌else◌, ◌||◌, append_assoc, length-append}
use Rattle.std.specs.List.{AllByRecursion, IsDistinct, list_any}
use Rattle.std.specs.List.Sorted.{IsStrictlySortedBy}
use Rattle.std.specs.Ordering.{eq_by_cmp}
use Rattle.std.specs.declared.cmp.Ordering.TheVariants.{Less}
use Rattle.std.proofs.lemmas.Cmp.{tied_itself}
use Rattle.cfg_base.specs.Order.{word_cmp, path_cmp, words_total}
use Rattle.cfg_base.specs.Words.{same_word}
use Rattle.cfg_base.specs.declared.kind.Shape.{Shape}
use Rattle.cfg_base.specs.declared.kind.Shape.TheVariants.{Container, Fixed, Keyed, Bare, Leaf, Flag, Many}
use Rattle.cfg_base.specs.declared.path.Step.{Step}
use Rattle.cfg_schema.specs.declared.place.Place.{Place}
use Rattle.cfg_schema.specs.declared.table.Line.{Line}
use Rattle.cfg_schema.specs.Profile.{profile, line_at, row_of, head_of, is_named, stands, level_of, rows_below, StandsBelow}
use Rattle.cfg_schema.specs.Place.{HasWords, entered}
use Rattle.cfg_schema.proofs.LevelLemmas.{leads}
use Rattle.cfg_schema.proofs.RowFacts.{number_at}
use Rattle.cfg_schema.proofs.TestLemmas.{same, same_is}
use Rattle.cfg_tree.specs.Limit.{paths_of, different}
use Rattle.cfg_tree.specs.Tree.{step_of}
use Rattle.cfg_tree.proofs.MapLemmas.{same_path}
use Rattle.serde_json.specs.Data.{Data, null, boolean, number, string, array, object, Items, no_items, item, Members}
use Rattle.serde_json.specs.Find.{get_member}
use Rattle.json_text.specs.Keys.{key_of, marks_key}
use Rattle.json_text.specs.Said.{Item, Spot, spot_at, single_of, AreInOrder, statement_said, SaysLevel, SaysObject, SaysEach, SaysList, SaysWords, SaysRow, SaysRowIf, SaysRows, SaysInside}
use Rattle.json_text.proofs.CollectLemmas.{single_has, named_has}
use Rattle.json_text.proofs.RowLemmas.{all_stand}

some_same : {A : Type 0} (x y : A) → Some x ≡ Some y → x ≡ y
some_same x y e = cc

-- each path once
abbrev Apart : List Item → Type 0
Apart [] = Unit {0}
Apart (e ∷ es) = AllByRecursion (λ f. e.0 ≡ f.0 → ⊥) es × Apart es

-- each path once, and each of this form
record Once (Form : List Step → Type 0) (told : List Item) : Type 0 where
  apart : Apart told
  each : AllByRecursion (λ e. Form e.0) told

all_append : (P : Item → Type 0) (xs ys : List Item) → AllByRecursion P xs → AllByRecursion P ys → AllByRecursion P (xs ++ ys)
all_append P [] ys a b = b
all_append P (x ∷ xs) ys a b = (a.0, all_append P xs ys a.1 b)

all_more : (P Q : Item → Type 0) → ((e : Item) → P e → Q e) → (xs : List Item) → AllByRecursion P xs → AllByRecursion Q xs
all_more P Q more [] a = tt
all_more P Q more (x ∷ xs) a = (more x a.0, all_more P Q more xs a.1)

apart_append : (P Q : List Step → Type 0) → ((q : List Step) → P q → Q q → ⊥) → (xs ys : List Item) → Once P xs → Once Q ys → Apart (xs ++ ys)
apart_append P Q differ [] ys a b = b.apart
apart_append P Q differ (x ∷ xs) ys a b = (
  all_append (λ f. x.0 ≡ f.0 → ⊥) xs ys a.apart.0
      (all_more (λ f. Q f.0) (λ f. x.0 ≡ f.0 → ⊥) (λ f there e. differ x.0 a.each.0 (subst Q (sym e) there)) ys b.each),
  apart_append P Q differ xs ys (record { apart = a.apart.1; each = a.each.1 }) b,
)

once_append : (P Q R : List Step → Type 0) → ((q : List Step) → P q → Q q → ⊥) → ((q : List Step) → P q → R q) → ((q : List Step) → Q q → R q) → (xs ys : List Item)
    → Once P xs → Once Q ys → Once R (xs ++ ys)
once_append P Q R differ left right xs ys a b = record {
  apart = apart_append P Q differ xs ys a b;
  each = all_append (λ e. R e.0) xs ys (all_more (λ e. P e.0) (λ e. R e.0) (λ e. left e.0) xs a.each) (all_more (λ e. Q e.0) (λ e. R e.0) (λ e. right e.0) ys b.each);
}

once_more : (P Q : List Step → Type 0) → ((q : List Step) → P q → Q q) → (told : List Item) → Once P told → Once Q told
once_more P Q more told a = record { apart = a.apart; each = all_more (λ e. P e.0) (λ e. Q e.0) (λ e. more e.0) told a.each }

-- so there are as many different paths as statements
none_met : (path : List Step) (es : List Item) → AllByRecursion (λ f. path ≡ f.0 → ⊥) es → list_any (eq_by_cmp path_cmp path) (paths_of es) ≡ false
none_met path [] a = refl
none_met path (e ∷ es) a = by_test (eq_by_cmp path_cmp path e.0) refl (none_met path es a.1)
  where
    by_test : (b : Bool) → eq_by_cmp path_cmp path e.0 ≡ b → list_any (eq_by_cmp path_cmp path) (paths_of es) ≡ false
        → list_any (eq_by_cmp path_cmp path) (paths_of (e ∷ es)) ≡ false
    by_test true f more = absurd (a.0 ((same_path path e.0).0 f))
    by_test false f more = ap (λ (b : Bool). b || list_any (eq_by_cmp path_cmp path) (paths_of es)) f ∙ more

different_all : (es : List Item) → Apart es → different (paths_of es) ≡ length es
different_all [] a = refl
different_all (e ∷ es) a =
    ap (λ (b : Bool). (if b then 0 else 1) + different (paths_of es)) (none_met e.0 es a.0)
    ∙ (let more = different_all es a.1 in omega (arith, more))

-- a path goes on by a step
record AtStep (path : List Step) (step : Step) (q : List Step) : Type 0 where
  rest : List Step
  is : q ≡ path ++ step ∷ rest

record Below (path : List Step) (q : List Step) : Type 0 where
  step : Step
  at : AtStep path step q

same_tail : (front a b : List Step) → front ++ a ≡ front ++ b → a ≡ b
same_tail [] a b e = e
same_tail (s ∷ front) a b e = same_tail front a b cc

same_first : (s t : Step) (a b : List Step) → s ∷ a ≡ t ∷ b → s ≡ t
same_first s t a b e = cc

step_once : (path q : List Step) (s t : Step) → AtStep path s q → AtStep path t q → s ≡ t
step_once path q s t a b = same_first s t a.rest b.rest (same_tail path (s ∷ a.rest) (t ∷ b.rest) (sym a.is ∙ b.is))

longer : (path q : List Step) → Below path q → q ≡ path → ⊥
longer path q h e =
    let long = ap (λ (p : List Step). length p) (sym e ∙ h.at.is) in omega (arith, long, length-append path (h.step ∷ h.at.rest))

-- the step of a row
record AtRow (path : List Step) (id : ℕ) (q : List Step) : Type 0 where
  step : Step
  has : HasWords id step
  at : AtStep path step q

-- one of some names
abbrev AtNames : List Step → List ℕ → List (List ℕ) → List Step → Type 0
AtNames path head [] q = ⊥
AtNames path head (name ∷ names) q = AtStep path (step_of head name) q ⊎ AtNames path head names q

-- the steps of some rows
abbrev AtRows : List Step → List ℕ → List Step → Type 0
AtRows path [] q = ⊥
AtRows path (id ∷ ids) q = AtRow path id q ⊎ AtRows path ids q

names_apart : (path : List Step) (head name : List ℕ) (names : List (List ℕ)) (q : List Step) → AllByRecursion (λ other. same_word name other ≡ false) names
    → AtStep path (step_of head name) q → AtNames path head names q → ⊥
names_apart path head name [] q a s t = t
names_apart path head name (other ∷ names) q a s (inr t) = names_apart path head name names q a.1 s t
names_apart path head name (other ∷ names) q a s (inl t) =
    let e = ap (λ (st : Step). st.name) (step_once path q (step_of head name) (step_of head other) s t) in let c = sym a.0 ∙ same_is name other e in cc

-- names in the order of their bytes are different
sorted_apart : (names : List (List ℕ)) → IsStrictlySortedBy word_cmp names → IsDistinct same_word names
unfolding IsStrictlySortedBy IsDistinct
sorted_apart [] h = tt
sorted_apart (name ∷ names) h = (others names h.0, sorted_apart names h.1)
  where
    others : (ns : List (List ℕ)) → AllByRecursion (λ k. word_cmp name k ≡ Less) ns → AllByRecursion (λ k. same_word name k ≡ false) ns
    others [] a = tt
    others (k ∷ ns) a = (by_test (same_word name k) refl, others ns a.1)
      where
        by_test : (b : Bool) → same_word name k ≡ b → b ≡ false
        by_test false e = refl
        by_test true e = let less = ap (word_cmp name) (same name k e) ∙ a.0 in let c = sym (tied_itself words_total name) ∙ less in cc

ordered_apart : (ordered : Bool) (names : List (List ℕ)) → AreInOrder ordered names → IsDistinct same_word names
ordered_apart true names h = h
ordered_apart false names h = sorted_apart names h

-- rows below a place are different
abbrev Rising : List ℕ → Type 0
Rising [] = Unit {0}
Rising (id ∷ ids) = AllByRecursion (λ other. id < other) ids × Rising ids

rows_rise : (here : Place) → Rising (rows_below here.row here.in_group)
rows_rise here = (from [] profile refl).1
  where
    fewer : (n k : ℕ) → n < k → (ids : List ℕ) → AllByRecursion (λ id. k ≤ id) ids → AllByRecursion (λ id. n ≤ id) ids
    fewer n k h [] a = tt
    fewer n k h (id ∷ ids) a = (let b = a.0 in omega (arith, h, b), fewer n k h ids a.1)

    above : (n k : ℕ) → n < k → (ids : List ℕ) → AllByRecursion (λ id. k ≤ id) ids → AllByRecursion (λ id. n < id) ids
    above n k h [] a = tt
    above n k h (id ∷ ids) a = (let b = a.0 in omega (arith, h, b), above n k h ids a.1)

    from : (front lines : List Line) → front ++ lines ≡ profile → AllByRecursion (λ id. length front ≤ id) (each (λ (l : Line). l.number) (filter (stands (level_of here.row here.in_group)) lines)) × Rising (each (λ (l : Line). l.number) (filter (stands (level_of here.row here.in_group)) lines))
    from front [] e = (tt, tt)
    from front (line ∷ lines) e =
        by_test (stands (level_of here.row here.in_group) line) (from (front ++ line ∷ []) lines (append_assoc front (line ∷ []) lines ∙ e))
      where
        middle : (fs : List Line) → line_at (fs ++ line ∷ lines) (length fs) ≡ line
        middle [] = refl
        middle (f ∷ fs) = middle fs

        within : length front < length profile
        within = omega (arith, length-append front (line ∷ lines), ap (λ (ls : List Line). length ls) e)

        number : line.number ≡ length front
        number = ap (λ (l : Line). l.number) (sym (ap (λ (ls : List Line). line_at ls (length front)) (sym e) ∙ middle front)) ∙ number_at (length front) within

        next : length (front ++ line ∷ []) ≡ length front + 1
        next = length-append front (line ∷ [])

        by_test : (b : Bool) → AllByRecursion (λ id. length (front ++ line ∷ []) ≤ id) (each (λ (l : Line). l.number) (filter (stands (level_of here.row here.in_group)) lines)) × Rising (each (λ (l : Line). l.number) (filter (stands (level_of here.row here.in_group)) lines))
            → AllByRecursion (λ id. length front ≤ id) (each (λ (l : Line). l.number) (cond b (line ∷ filter (stands (level_of here.row here.in_group)) lines) (filter (stands (level_of here.row here.in_group)) lines)))
            × Rising (each (λ (l : Line). l.number) (cond b (line ∷ filter (stands (level_of here.row here.in_group)) lines) (filter (stands (level_of here.row here.in_group)) lines)))
        by_test true go = (
          (omega (arith, number), fewer (length front) (length (front ++ line ∷ [])) (omega (arith, next)) (each (λ (l : Line). l.number) (filter (stands (level_of here.row here.in_group)) lines)) go.0),
          (above line.number (length (front ++ line ∷ [])) (omega (arith, next, number)) (each (λ (l : Line). l.number) (filter (stands (level_of here.row here.in_group)) lines)) go.0, go.1),
        )
        by_test false go = (fewer (length front) (length (front ++ line ∷ [])) (omega (arith, next)) (each (λ (l : Line). l.number) (filter (stands (level_of here.row here.in_group)) lines)) go.0, go.1)

-- at a level a step has the words of one row at most
row_once : (here : Place) (i j : ℕ) (step : Step) → StandsBelow here.row here.in_group i → StandsBelow here.row here.in_group j → HasWords i step → HasWords j step → i ≡ j
row_once here i j step in_i in_j has_i has_j =
    ap (λ (p : Place). p.row) (some_same (entered here i) (entered here j) (sym (leads here i step in_i has_i) ∙ leads here j step in_j has_j))

rows_apart : (here : Spot) (id : ℕ) (ids : List ℕ) (q : List Step) → StandsBelow here.place.row here.place.in_group id
    → AllByRecursion (StandsBelow here.place.row here.place.in_group) ids → AllByRecursion (λ other. id < other) ids → AtRow here.path id q → AtRows here.path ids q → ⊥
rows_apart here id [] q stood all a s t = t
rows_apart here id (other ∷ ids) q stood all a s (inr t) = rows_apart here id ids q stood all.1 a.1 s t
rows_apart here id (other ∷ ids) q stood all a s (inl t) =
    let e = step_once here.path q s.step t.step s.at t.at
    in let one = row_once here.place id other t.step stood all.0 (subst (λ (st : Step). HasWords id st) e s.has) t.has
    in let less = a.0 in omega (arith, one, less)

nothing_once : (Form : List Step → Type 0) (told : List Item) → told ≡ [] → Once Form told
nothing_once Form told e = subst (λ (es : List Item). Once Form es) (sym e) (record { apart = tt; each = tt })

module _ (Inner : Members → Spot → List Item → Type 0) (once : (ms : Members) (here : Spot) (told : List Item) → Inner ms here told → Once (Below here.path) told) where
  own_once : (here : Spot) (id : ℕ) (step : Step) (inactive protected : Bool) (words : List (List ℕ))
      → Once (λ q. q ≡ here.path ++ step ∷ []) (statement_said here id step inactive protected words)
  own_once here id step inactive protected words = record { apart = (tt, tt); each = (refl, tt) }

  level_once : (here : Spot) (id : ℕ) (step : Step) (ms : Members) (told : List Item) → SaysLevel Inner here id step ms told → Once (AtStep here.path step) told
  level_once here id step ms told h =
      let child = here.path ++ step ∷ []
      in subst (λ (es : List Item). Once (AtStep here.path step) es) (sym h.said)
      (once_append (λ q. q ≡ child) (Below child) (AtStep here.path step) (λ q e below. longer child q below e) (λ q e. record { rest = []; is = e })
      (λ q below. record { rest = below.step ∷ below.at.rest; is = below.at.is ∙ append_assoc here.path (step ∷ []) (below.step ∷ below.at.rest) })
      (statement_said here id step h.inactive h.protected []) h.inner (own_once here id step h.inactive h.protected []) (once ms (spot_at here id step) h.inner h.inside))

  object_once : (here : Spot) (id : ℕ) (step : Step) (d : Data) (told : List Item) → SaysObject Inner here id step d told → Once (AtStep here.path step) told
  object_once here id step null told h = absurd h
  object_once here id step (boolean b) told h = absurd h
  object_once here id step (number n) told h = absurd h
  object_once here id step (string s) told h = absurd h
  object_once here id step (array ds) told h = absurd h
  object_once here id step (object ms) told h = level_once here id step ms told h

  each_once : (here : Spot) (id : ℕ) (ds : Items) (names : List (List ℕ)) (told : List Item) → IsDistinct same_word names → SaysEach Inner here id ds names told
      → Once (AtNames here.path (head_of id) names) told
  unfolding IsDistinct
  each_once here id no_items names told d h = nothing_once (AtNames here.path (head_of id) names) told h.1
  each_once here id (item (object ms) ds) [] told d h = absurd h
  each_once here id (item (object ms) ds) (name ∷ names) told d h =
      subst (λ (es : List Item). Once (AtNames here.path (head_of id) (name ∷ names)) es) (sym h.4)
      (once_append (AtStep here.path (step_of (head_of id) name)) (AtNames here.path (head_of id) names) (AtNames here.path (head_of id) (name ∷ names))
      (λ q s t. names_apart here.path (head_of id) name names q d.0 s t) (λ q s. inl s) (λ q t. inr t) h.0 h.1
      (level_once here id (step_of (head_of id) name) ms h.0 h.2.level) (each_once here id ds names h.1 d.1 h.3))
  each_once here id (item null ds) names told d h = absurd h
  each_once here id (item (boolean b) ds) names told d h = absurd h
  each_once here id (item (number n) ds) names told d h = absurd h
  each_once here id (item (string s) ds) names told d h = absurd h
  each_once here id (item (array es) ds) names told d h = absurd h

  module _ (here : Spot) (id : ℕ) (within : id < length profile) where
    single_row : (shape : Shape) (told : List Item) → (row_of id).shape ≡ shape → is_named shape ≡ false → Once (AtStep here.path (single_of id)) told → Once (AtRow here.path id) told
    single_row shape told e n h =
        once_more (AtStep here.path (single_of id)) (AtRow here.path id) (λ q at. record { step = single_of id; has = single_has id shape e n; at = at }) told h

    named_row : (shape : Shape) → (row_of id).shape ≡ shape → is_named shape ≡ true → (names : List (List ℕ)) (q : List Step) → AtNames here.path (head_of id) names q → AtRow here.path id q
    named_row shape e n [] q h = absurd h
    named_row shape e n (name ∷ names) q (inl at) = record { step = step_of (head_of id) name; has = named_has id shape name within e n; at = at }
    named_row shape e n (name ∷ names) q (inr more) = named_row shape e n names q more

    list_once : (shape : Shape) (d : Data) (told : List Item) → (row_of id).shape ≡ shape → is_named shape ≡ true → SaysList Inner here id d told → Once (AtRow here.path id) told
    list_once shape d told e n h =
        once_more (AtNames here.path (head_of id) h.names) (AtRow here.path id) (named_row shape e n h.names) told
        (each_once here id h.objects h.names told (ordered_apart (row_of id).ordered h.names h.in_order) h.each)

    alone_once : (shape : Shape) (Words : List (List ℕ) → Type 0) (marks : Option Data) (told : List Item) → (row_of id).shape ≡ shape → is_named shape ≡ false
        → SaysWords Words here id marks told → Once (AtRow here.path id) told
    alone_once shape Words marks told e n h =
        single_row shape told e n
        (subst (λ (es : List Item). Once (AtStep here.path (single_of id)) es) (sym h.said)
        (once_more (λ q. q ≡ here.path ++ single_of id ∷ []) (AtStep here.path (single_of id)) (λ q f. record { rest = []; is = f }) _
        (own_once here id (single_of id) h.inactive h.protected h.words)))

    row_is_once : (shape : Shape) (d : Data) (marks : Option Data) (told : List Item) → (row_of id).shape ≡ shape → SaysRow Inner shape here id d marks told → Once (AtRow here.path id) told
    row_is_once Container d marks told e h = single_row Container told e refl (object_once here id (single_of id) d told h)
    row_is_once Fixed d marks told e h = single_row Fixed told e refl (object_once here id (single_of id) d told h)
    row_is_once Keyed d marks told e h = list_once Keyed d told e refl h
    row_is_once Bare d marks told e h = list_once Bare d told e refl h
    row_is_once Leaf d marks told e h = alone_once Leaf _ marks told e refl h
    row_is_once Flag d marks told e h = alone_once Flag _ marks told e refl h
    row_is_once Many d marks told e h = alone_once Many _ marks told e refl h

    if_once : (found marks : Option Data) (told : List Item) → SaysRowIf Inner here id found marks told → Once (AtRow here.path id) told
    if_once None marks told h = nothing_once (AtRow here.path id) told h.0
    if_once (Some d) marks told h = row_is_once (row_of id).shape d marks told refl h

  rows_once : (here : Spot) (ms : Members) (ids : List ℕ) (told : List Item) → AllByRecursion (StandsBelow here.place.row here.place.in_group) ids → Rising ids
      → SaysRows Inner here ms ids told → Once (AtRows here.path ids) told
  rows_once here ms [] told stood rising h = nothing_once (AtRows here.path []) told h
  rows_once here ms (id ∷ ids) told stood rising h =
      subst (λ (es : List Item). Once (AtRows here.path (id ∷ ids)) es) (sym h.4)
      (once_append (AtRow here.path id) (AtRows here.path ids) (AtRows here.path (id ∷ ids)) (λ q s t. rows_apart here id ids q stood.0 stood.1 rising.0 s t)
      (λ q s. inl s) (λ q t. inr t) h.0 h.1
      (if_once here id stood.0.0 (get_member (key_of id) ms) (get_member (marks_key (key_of id)) ms) h.0 h.2) (rows_once here ms ids h.1 stood.1 rising.1 h.3))

below_by_rows : (path : List Step) (ids : List ℕ) (q : List Step) → AtRows path ids q → Below path q
below_by_rows path [] q h = absurd h
below_by_rows path (id ∷ ids) q (inl s) = record { step = s.step; at = s.at }
below_by_rows path (id ∷ ids) q (inr t) = below_by_rows path ids q t

levels_once : (levels : ℕ) (ms : Members) (here : Spot) (told : List Item) → SaysInside levels ms here told → Once (Below here.path) told
unfolding SaysInside
levels_once zero ms here told h = absurd h
levels_once (suc levels) ms here told h =
    let ids = rows_below here.place.row here.place.in_group
    in once_more (AtRows here.path ids) (Below here.path) (below_by_rows here.path ids) told
    (rows_once (SaysInside levels) (levels_once levels) here ms ids told (all_stand here.place) (rows_rise here.place) h.1)

-- what is said has as many different paths as statements
pub all_different : (levels : ℕ) (ms : Members) (here : Spot) (told : List Item) → SaysInside levels ms here told → different (paths_of told) ≡ length told
all_different levels ms here told h = different_all told (levels_once levels ms here told h).apart
