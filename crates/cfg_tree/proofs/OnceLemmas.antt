-- Each child of a path stands once among its children in printing order, and nothing else does.
use Rattle.std.proofs.Common.{eq-eqb, eqb-true, ◌-◌, ◌==◌, ◌≡◌, ℕ, zero, suc, ◌+◌, ◌<◌, Bool, true, false, cond, not, ◌&&◌, ◌||◌, T, List, [], ◌∷◌, ◌++◌, length, filter, map as each, flat_map, get_or, refl, sym, ap, subst, ◌∙◌, Option, Some, None, is_some, option_map, arith, if◌then◌else◌, length-append, append-nil}
use Rattle.std.specs.Bool.{Decides}
use Rattle.std.specs.List.{IsDistinct, AllByRecursion, list_all, list_any}
use Rattle.std.specs.FinMap as map
use Rattle.std.specs.FinMap.Entries.{is_sorted, below_all}
use Rattle.std.specs.Ordering.{eq_by_cmp, is_lt, is_eq}
use Rattle.std.specs.declared.cmp.Ordering.{Ordering}
use Rattle.std.specs.declared.cmp.Ordering.TheVariants.{Less, Equal, Greater}
use Rattle.std.specs.Cmp.Lexicographic.{bytes_decides}
use Rattle.std.proofs.lemmas.List.Elements.{filter-append}
use Rattle.std.proofs.lemmas.Map.Keys.{IsDistinct-head, IsDistinct-tail, IsDistinct-cons}
use Rattle.cfg_base.specs.Order.{path_cmp, step_cmp}
use Rattle.cfg_base.specs.declared.path.Step.{Step}
use Rattle.cfg_base.specs.declared.value.Value.{Value}
use Rattle.cfg_schema.specs.declared.place.Place.{Place}
use Rattle.cfg_schema.specs.declared.table.Line.{Line}
use Rattle.cfg_schema.specs.Profile.{profile, line_at, no_line, row_of, head_of, is_step_of, same_word, stands, level_of, rows_below}
use Rattle.cfg_schema.specs.Place.{top_place, place_after, place_of, ordered_row}
use Rattle.cfg_schema.proofs.TestLemmas.{both, both_true, same, same_is}
use Rattle.cfg_schema.proofs.RowFacts.{number_at, top_unordered}
use Rattle.cfg_schema.proofs.LevelLemmas.{all_at, led_to, path_most}
use Rattle.cfg_schema.proofs.WordsLemmas.{told, ordered_told, words_differ, told_apart}
use Rattle.cfg_tree.specs.Statements.{Statements, parent_of, last_of, is_below}
use Rattle.cfg_tree.specs.Typed.{IsTypedPath}
use Rattle.cfg_tree.specs.Tree.{ordered_head, step_of, IsOrderBy, IsOrderOf, IsStatementMap, IsTree}
use Rattle.cfg_tree.specs.Children.{step_if, is_child, steps_below, order_in, row_steps, children_at, children_of}
use Rattle.cfg_tree.proofs.MapLemmas.{same_step, same_path}
use Rattle.cfg_tree.proofs.PathLemmas.{split, same_ends, child_longer}
use Rattle.cfg_tree.proofs.BelowLemmas.{below_self, below_more}
use Rattle.cfg_tree.proofs.FollowLemmas.{typed_place, typed_last, typed_front}
use Rattle.cfg_tree.proofs.ReadyLemmas.{order_is}

-- two tests that decide the same
pub same_test : (a b : Bool) → (a ≡ true → b ≡ true) → (b ≡ true → a ≡ true) → a ≡ b
same_test true b f g = sym (f refl)
same_test false true f g = g refl
same_test false false f g = refl

none_equal : {X : Type 0} (eq : X → X → Bool) (q : X) (xs : List X) → AllByRecursion (λ y. eq q y ≡ false) xs → filter (eq q) xs ≡ []
none_equal eq q [] h = refl
none_equal {X} eq q (x ∷ xs) h = ap (λ (b : Bool). cond b (x ∷ filter (eq q) xs) (filter (eq q) xs)) h.0 ∙ none_equal eq q xs h.1

-- of elements that differ, those that are q are q itself, where it is among them
once_in : {X : Type 0} (eq : X → X → Bool) (decides : (x y : X) → Decides (eq x y) (x ≡ y)) (q : X) (xs : List X) → IsDistinct eq xs
    → filter (eq q) xs ≡ cond (list_any (eq q) xs) (q ∷ []) []
once_in eq decides q [] d = refl
once_in {X} eq decides q (x ∷ xs) d = by_test (eq q x) refl (once_in eq decides q xs (IsDistinct-tail eq x xs d))
  where
    by_test : (b : Bool) → eq q x ≡ b → filter (eq q) xs ≡ cond (list_any (eq q) xs) (q ∷ []) []
        → cond b (x ∷ filter (eq q) xs) (filter (eq q) xs) ≡ cond (b || list_any (eq q) xs) (q ∷ []) []
    by_test true e go =
        let is_q = (decides q x).0 e
        in ap (λ (ys : List X). x ∷ ys)
        (ap (λ (y : X). filter (eq y) xs) is_q ∙ none_equal eq x xs (IsDistinct-head eq x xs d))
        ∙ ap (λ (y : X). y ∷ []) (sym is_q)
    by_test false e go = go

-- the keys of a map differ
pub below_apart : (k : List Step) (es : List (List Step × Value)) → T (below_all path_cmp k es) → AllByRecursion (λ y. eq_by_cmp path_cmp k y ≡ false) (each (λ e. e.0) es)
below_apart k [] h = tt
below_apart k (e ∷ es) h = (less_apart (path_cmp k e.0) (front _ _ h), below_apart k es (back _ _ h))
  where
    front : (a b : Bool) → T (a && b) → T a
    front true b p = tt
    front false b p = p

    back : (a b : Bool) → T (a && b) → T b
    back true b p = p
    back false b p = absurd p

    less_apart : (o : Ordering) → T (is_lt o) → is_eq o ≡ false
    less_apart Less p = refl
    less_apart Equal p = absurd p
    less_apart Greater p = refl

no_keys : IsDistinct (eq_by_cmp path_cmp) []
unfolding IsDistinct
no_keys = tt

keys_differ : (es : List (List Step × Value)) → T (is_sorted path_cmp es) → IsDistinct (eq_by_cmp path_cmp) (each (λ e. e.0) es)
keys_differ [] h = no_keys
keys_differ (e ∷ es) h =
    IsDistinct-cons (eq_by_cmp path_cmp) e.0 (each (λ e. e.0) es) (below_apart e.0 es (front _ _ h)) (keys_differ es (back _ _ h))
  where
    front : (a b : Bool) → T (a && b) → T a
    front true b p = tt
    front false b p = p

    back : (a b : Bool) → T (a && b) → T b
    back true b p = p
    back false b p = absurd p

-- what stands below a path is its steps and more
pub below_rest : (p q : List Step) → is_below p q ≡ true → (rest : List Step) × (q ≡ p ++ rest)
below_rest [] q h = (q, refl)
below_rest (x ∷ p) [] h = cc
below_rest (x ∷ p) (y ∷ q) h =
    let parts = both (eq_by_cmp step_cmp x y) _ h
    in let more = below_rest p q parts.1
    in (more.0, ap (λ (s : Step). s ∷ q) (sym ((same_step x y).0 parts.0)) ∙ ap (λ (ss : List Step). x ∷ ss) more.1)

one_step : (rest : List Step) → length rest ≡ 1 → (s : Step) × (rest ≡ s ∷ [])
one_step [] e = absurd (omega arith)
one_step (s ∷ []) e = (s, refl)
one_step (s ∷ t ∷ rest) e = absurd (omega arith)

last_is : (p k : List Step) (s : Step) → k ≡ p ++ s ∷ [] → last_of k ≡ s
last_is p k s e =
    let long : 0 < length k = omega (arith, ap (λ (xs : List Step). length xs) e, child_longer p s)
    in (same_ends (parent_of k) p (last_of k) s (sym (split k long) ∙ e)).1

child_is : (p k : List Step) → is_child p k ≡ true → k ≡ p ++ last_of k ∷ []
child_is p k h =
    let parts = both (is_below p k) _ h
    in let more = below_rest p k parts.0
    in let count = eqb-true (length k) (length p + 1) parts.1
    in let one = one_step more.0 (omega (arith, count, ap (λ (xs : List Step). length xs) more.1, length-append p more.0))
    in let whole = more.1 ∙ ap (λ (xs : List Step). p ++ xs) one.1
    in whole ∙ ap (λ (s : Step). p ++ s ∷ []) (sym (last_is p k one.0 whole))

is_child_of : (p : List Step) (s : Step) → is_child p (p ++ s ∷ []) ≡ true
is_child_of p s = both_true _ _ (below_more p p s (below_self p)) (eq-eqb _ _ (child_longer p s))

module _ (path : List Step) (s : Step) where
  -- a path is the child by this step
  child_test : (k : List Step) → (is_child path k && eq_by_cmp step_cmp s (last_of k)) ≡ eq_by_cmp path_cmp (path ++ s ∷ []) k
  child_test k =
      same_test _ _
      (λ h.
      let parts = both (is_child path k) _ h
      in (same_path (path ++ s ∷ []) k).1
      (ap (λ (t : Step). path ++ t ∷ []) ((same_step s (last_of k)).0 parts.1) ∙ sym (child_is path k parts.0)))
      (λ h.
      let is_path = (same_path (path ++ s ∷ []) k).0 h
      in both_true _ _ (subst (λ (q : List Step). is_child path q ≡ true) is_path (is_child_of path s))
      ((same_step s (last_of k)).1 (sym (last_is path k s (sym is_path)))))

  last_steps : (ks : List (List Step))
      → filter (eq_by_cmp step_cmp s) (each last_of (filter (is_child path) ks)) ≡ each last_of (filter (eq_by_cmp path_cmp (path ++ s ∷ [])) ks)
  last_steps [] = refl
  last_steps (k ∷ ks) =
      by_tests (is_child path k) (eq_by_cmp step_cmp s (last_of k)) refl (last_steps ks)
      ∙ ap (λ (b : Bool). each last_of (cond b (k ∷ filter (eq_by_cmp path_cmp (path ++ s ∷ [])) ks) (filter (eq_by_cmp path_cmp (path ++ s ∷ [])) ks))) (child_test k)
    where
      by_tests : (a b : Bool) → eq_by_cmp step_cmp s (last_of k) ≡ b
          → filter (eq_by_cmp step_cmp s) (each last_of (filter (is_child path) ks)) ≡ each last_of (filter (eq_by_cmp path_cmp (path ++ s ∷ [])) ks)
          → filter (eq_by_cmp step_cmp s) (each last_of (cond a (k ∷ filter (is_child path) ks) (filter (is_child path) ks)))
          ≡ each last_of (cond (a && b) (k ∷ filter (eq_by_cmp path_cmp (path ++ s ∷ [])) ks) (filter (eq_by_cmp path_cmp (path ++ s ∷ [])) ks))
      by_tests true true e go =
          ap (λ (c : Bool). cond c (last_of k ∷ filter (eq_by_cmp step_cmp s) (each last_of (filter (is_child path) ks))) (filter (eq_by_cmp step_cmp s) (each last_of (filter (is_child path) ks)))) e
          ∙ ap (λ (ss : List Step). last_of k ∷ ss) go
      by_tests true false e go =
          ap (λ (c : Bool). cond c (last_of k ∷ filter (eq_by_cmp step_cmp s) (each last_of (filter (is_child path) ks))) (filter (eq_by_cmp step_cmp s) (each last_of (filter (is_child path) ks)))) e
          ∙ go
      by_tests false b e go = go

last_if : (path : List Step) (s : Step) (b : Bool) → each last_of (cond b ((path ++ s ∷ []) ∷ []) []) ≡ step_if b s
last_if path s true = ap (λ (t : Step). t ∷ []) (last_is path (path ++ s ∷ []) s refl)
last_if path s false = refl

-- of the last steps of the children those that are this step are it, where its path is there
pub steps_once : (m : Statements) (path : List Step) (s : Step) → filter (eq_by_cmp step_cmp s) (steps_below m path) ≡ step_if (is_some (map.get m (path ++ s ∷ []))) s
steps_once m path s =
    last_steps path s (map.keys m)
    ∙ ap (λ (ks : List (List Step)). each last_of ks)
    (once_in (eq_by_cmp path_cmp) same_path (path ++ s ∷ []) (map.keys m) (keys_differ (map.entries m) (map.entries_sorted m)))
    ∙ ap (λ (b : Bool). each last_of (cond b ((path ++ s ∷ []) ∷ []) [])) (sym (map.contains_key-keys m (path ++ s ∷ [])))
    ∙ last_if path s (is_some (map.get m (path ++ s ∷ [])))

-- of the steps that pass a test
kept_once : (test : Step → Bool) (s : Step) (b : Bool) → test s ≡ b → (steps : List Step)
    → filter (eq_by_cmp step_cmp s) (filter test steps) ≡ cond b (filter (eq_by_cmp step_cmp s) steps) []
kept_once test s true e [] = refl
kept_once test s false e [] = refl
kept_once test s b e (t ∷ steps) = by_tests b (test t) (eq_by_cmp step_cmp s t) e refl refl (kept_once test s b e steps)
  where
    test_same : eq_by_cmp step_cmp s t ≡ true → test s ≡ test t
    test_same f = ap test ((same_step s t).0 f)

    by_tests : (b a c : Bool) → test s ≡ b → test t ≡ a → eq_by_cmp step_cmp s t ≡ c
        → filter (eq_by_cmp step_cmp s) (filter test steps) ≡ cond b (filter (eq_by_cmp step_cmp s) steps) []
        → filter (eq_by_cmp step_cmp s) (cond a (t ∷ filter test steps) (filter test steps))
        ≡ cond b (cond c (t ∷ filter (eq_by_cmp step_cmp s) steps) (filter (eq_by_cmp step_cmp s) steps)) []
    by_tests true true true e f g go =
        ap (λ (x : Bool). cond x (t ∷ filter (eq_by_cmp step_cmp s) (filter test steps)) (filter (eq_by_cmp step_cmp s) (filter test steps))) g
        ∙ ap (λ (xs : List Step). t ∷ xs) go
    by_tests true true false e f g go =
        ap (λ (x : Bool). cond x (t ∷ filter (eq_by_cmp step_cmp s) (filter test steps)) (filter (eq_by_cmp step_cmp s) (filter test steps))) g
        ∙ go
    by_tests true false true e f g go = let d = test_same g in cc
    by_tests true false false e f g go = go
    by_tests false true true e f g go = let d = test_same g in cc
    by_tests false true false e f g go =
        ap (λ (x : Bool). cond x (t ∷ filter (eq_by_cmp step_cmp s) (filter test steps)) (filter (eq_by_cmp step_cmp s) (filter test steps))) g
        ∙ go
    by_tests false false c e f g go = go

-- of the steps of a head with these names
named_once : (h : List ℕ) (s : Step) (b : Bool) → same_word h s.head ≡ b → (names : List (List ℕ))
    → filter (eq_by_cmp step_cmp s) (each (step_of h) names) ≡ cond b (each (step_of h) (filter (same_word s.name) names)) []
named_once h s true e [] = refl
named_once h s false e [] = refl
named_once h s b e (n ∷ names) =
    ap (λ (c : Bool). cond c (step_of h n ∷ filter (eq_by_cmp step_cmp s) (each (step_of h) names)) (filter (eq_by_cmp step_cmp s) (each (step_of h) names))) (name_test b e)
    ∙ by_tests b (same_word s.name n) (named_once h s b e names)
  where
    name_test : (b : Bool) → same_word h s.head ≡ b → eq_by_cmp step_cmp s (step_of h n) ≡ (b && same_word s.name n)
    name_test true f =
        same_test _ _
        (λ g. same_is _ _ (ap (λ (x : Step). x.name) ((same_step s (step_of h n)).0 g)))
        (λ g. (same_step s (step_of h n)).1
        (ap (λ (x : List ℕ). step_of x s.name) (sym (same _ _ f)) ∙ ap (λ (x : List ℕ). step_of h x) (same _ _ g)))
    name_test false f =
        same_test _ _
        (λ g. let d = same_is h s.head (sym (ap (λ (x : Step). x.head) ((same_step s (step_of h n)).0 g))) in cc)
        (λ g. cc)

    by_tests : (b c : Bool) → filter (eq_by_cmp step_cmp s) (each (step_of h) names) ≡ cond b (each (step_of h) (filter (same_word s.name) names)) []
        → cond (b && c) (step_of h n ∷ filter (eq_by_cmp step_cmp s) (each (step_of h) names)) (filter (eq_by_cmp step_cmp s) (each (step_of h) names))
        ≡ cond b (each (step_of h) (cond c (n ∷ filter (same_word s.name) names) (filter (same_word s.name) names))) []
    by_tests true true go = ap (λ (xs : List Step). step_of h n ∷ xs) go
    by_tests true false go = go
    by_tests false c go = go

-- of the rows of a level no two have the same words, and an ordered one is the ordered row that the level has
abbrev pub is_row : ℕ → Option ℕ → Bool
is_row id None = false
is_row id (Some other) = id == other

abbrev ordered_found : Option ℕ → ℕ → Bool
ordered_found found id = not (row_of id).ordered || is_row id found

abbrev all_differ : List ℕ → Bool
all_differ [] = true
all_differ (id ∷ ids) = list_all (words_differ id) ids && all_differ ids

abbrev level_apart : Bool → Line → Bool
level_apart in_group line =
    all_differ (rows_below line.number in_group)
    && list_all (ordered_found (ordered_row (record { row = line.number; in_group = in_group }))) (rows_below line.number in_group)

profile_levels : list_all (level_apart false) profile ≡ true
unfolding profile
profile_levels = refl

profile_levels_in_group : list_all (level_apart true) profile ≡ true
unfolding profile
profile_levels_in_group = refl

apart_at : (in_group : Bool) (id : ℕ) → id < length profile → level_apart in_group (line_at profile id) ≡ true
apart_at true id within = all_at (level_apart true) profile id no_line profile_levels_in_group within
apart_at false id within = all_at (level_apart false) profile id no_line profile_levels within

level_here : (here : Place) → here.row < length profile
    → (all_differ (rows_below here.row here.in_group) ≡ true) × (list_all (ordered_found (ordered_row here)) (rows_below here.row here.in_group) ≡ true)
level_here here within =
    subst (λ (n : ℕ). (all_differ (rows_below n here.in_group) ≡ true)
    × (list_all (ordered_found (ordered_row (record { row = n; in_group = here.in_group }))) (rows_below n here.in_group) ≡ true))
    (number_at here.row within)
    (both (all_differ (rows_below (line_at profile here.row).number here.in_group)) _ (apart_at here.in_group here.row within))

-- a row that stands at a level is among its rows
found_in : (level_test : Line → Bool) (f : ℕ → Bool) (lines : List Line) (k : ℕ) → k < length lines → level_test (get_or lines k no_line) ≡ true
    → f (get_or lines k no_line).number ≡ true → list_any f (each (λ (line : Line). line.number) (filter level_test lines)) ≡ true
found_in p f [] k within h e = absurd (omega arith)
found_in p f (line ∷ lines) zero within h e =
    ap (λ (b : Bool). list_any f (each (λ (l : Line). l.number) (cond b (line ∷ filter p lines) (filter p lines)))) h
    ∙ ap (λ (b : Bool). b || list_any f (each (λ (l : Line). l.number) (filter p lines))) e
found_in p f (line ∷ lines) (suc k) within h e = by_test (p line) (found_in p f lines k (omega arith) h e)
  where
    by_test : (b : Bool) → list_any f (each (λ (l : Line). l.number) (filter p lines)) ≡ true
        → list_any f (each (λ (l : Line). l.number) (cond b (line ∷ filter p lines) (filter p lines))) ≡ true
    by_test true go = or_second (f line.number) _ go
      where
        or_second : (a b : Bool) → b ≡ true → (a || b) ≡ true
        or_second true b g = refl
        or_second false b g = g
    by_test false go = go

module _ (s : Step) (there : Bool) (names : List (List ℕ)) (steps : List Step) (found : Option ℕ)
    (each_row : (id : ℕ) → ordered_found found id ≡ true
    → filter (eq_by_cmp step_cmp s) (row_steps id names steps) ≡ cond (is_step_of id s) (step_if there s) []) where
  -- of the rows with other words
  no_row : (id : ℕ) (ids : List ℕ) → is_step_of id s ≡ true → list_all (words_differ id) ids ≡ true
      → list_all (ordered_found found) ids ≡ true → filter (eq_by_cmp step_cmp s) (flat_map (λ (i : ℕ). row_steps i names steps) ids) ≡ []
  no_row id [] e apart ordered = refl
  no_row id (other ∷ ids) e apart ordered =
      let parts = both (words_differ id other) _ apart
      in let orders = both (ordered_found found other) _ ordered
      in filter-append (eq_by_cmp step_cmp s) (row_steps other names steps) (flat_map (λ (i : ℕ). row_steps i names steps) ids)
      ∙ ap (λ (xs : List Step). xs ++ filter (eq_by_cmp step_cmp s) (flat_map (λ (i : ℕ). row_steps i names steps) ids))
      (each_row other orders.0 ∙ ap (λ (b : Bool). cond b (step_if there s) []) (differs _ refl parts.0))
      ∙ no_row id ids e parts.1 orders.1
    where
      differs : (b : Bool) → is_step_of other s ≡ b → words_differ id other ≡ true → b ≡ false
      differs true f g = absurd (told_apart id other s g e f)
      differs false f g = refl

  -- of all rows the one of which the step is
  flat_once : (ids : List ℕ) → all_differ ids ≡ true → list_all (ordered_found found) ids ≡ true
      → filter (eq_by_cmp step_cmp s) (flat_map (λ (i : ℕ). row_steps i names steps) ids)
      ≡ cond (list_any (λ (id : ℕ). is_step_of id s) ids) (step_if there s) []
  flat_once [] apart ordered = refl
  flat_once (id ∷ ids) apart ordered =
      let parts = both (list_all (words_differ id) ids) _ apart
      in let orders = both (ordered_found found id) _ ordered
      in filter-append (eq_by_cmp step_cmp s) (row_steps id names steps) (flat_map (λ (i : ℕ). row_steps i names steps) ids)
      ∙ ap (λ (xs : List Step). xs ++ filter (eq_by_cmp step_cmp s) (flat_map (λ (i : ℕ). row_steps i names steps) ids)) (each_row id orders.0)
      ∙ by_own (is_step_of id s) refl (λ e. no_row id ids e parts.0 orders.1) (flat_once ids parts.1 orders.1)
    where
      by_own : (b : Bool) → is_step_of id s ≡ b
          → (is_step_of id s ≡ true → filter (eq_by_cmp step_cmp s) (flat_map (λ (i : ℕ). row_steps i names steps) ids) ≡ [])
          → filter (eq_by_cmp step_cmp s) (flat_map (λ (i : ℕ). row_steps i names steps) ids)
          ≡ cond (list_any (λ (i : ℕ). is_step_of i s) ids) (step_if there s) []
          → cond b (step_if there s) [] ++ filter (eq_by_cmp step_cmp s) (flat_map (λ (i : ℕ). row_steps i names steps) ids)
          ≡ cond (b || list_any (λ (i : ℕ). is_step_of i s) ids) (step_if there s) []
      by_own true e none go = ap (λ (xs : List Step). step_if there s ++ xs) (none e) ∙ append-nil (step_if there s)
      by_own false e none go = go

-- the order at a path, of the top as of a statement
order_any : (m : Statements) (path : List Step) → IsStatementMap m → IsOrderOf m path (order_in (map.get m path))
order_any m [] statements =
    subst (λ (o : Option Value). IsOrderOf m [] (order_in o)) (sym statements.top)
    (subst (λ (h : Option ℕ). IsOrderBy m [] (option_map head_of h) []) (sym top_unordered) refl)
order_any m (x ∷ path) statements = order_is m (x ∷ path) statements (omega arith)

module _ (m : Statements) (path : List Step) (here : Place) (s : Step) (tree : IsTree m) (placed : place_of path ≡ Some here) where
  named_if : (h : List ℕ) (b : Bool) → h ≡ s.head → each (step_of h) (cond b (s.name ∷ []) []) ≡ step_if b s
  named_if h true e = ap (λ (x : List ℕ). step_of x s.name ∷ []) e
  named_if h false e = refl

  -- the names of the ordered row are those of the children
  ordered_steps : (h : List ℕ) (b : Bool) → same_word h s.head ≡ b → IsOrderBy m path (Some h) (order_in (map.get m path))
      → filter (eq_by_cmp step_cmp s) (each (step_of h) (order_in (map.get m path))) ≡ cond b (step_if (is_some (map.get m (path ++ s ∷ []))) s) []
  ordered_steps h b e order =
      named_once h s b e (order_in (map.get m path))
      ∙ ap (λ (ns : List (List ℕ)). cond b (each (step_of h) ns) []) (once_in same_word bytes_decides s.name (order_in (map.get m path)) order.once)
      ∙ ap (λ (c : Bool). cond b (each (step_of h) (cond c (s.name ∷ []) [])) []) (order.each s.name)
      ∙ by_head b e
    where
      by_head : (b : Bool) → same_word h s.head ≡ b
          → cond b (each (step_of h) (cond (is_some (map.get m (path ++ step_of h s.name ∷ []))) (s.name ∷ []) [])) []
          ≡ cond b (step_if (is_some (map.get m (path ++ s ∷ []))) s) []
      by_head true f =
          named_if h (is_some (map.get m (path ++ step_of h s.name ∷ []))) (same _ _ f)
          ∙ ap (λ (x : List ℕ). step_if (is_some (map.get m (path ++ step_of x s.name ∷ []))) s) (same _ _ f)
      by_head false f = refl

  ordered_is : (id : ℕ) → (row_of id).ordered ≡ true → ordered_found (ordered_row here) id ≡ true → IsOrderBy m path (Some (head_of id)) (order_in (map.get m path))
  ordered_is id is_ordered found = by_row _ refl found
    where
      order : IsOrderBy m path (ordered_head (Some here)) (order_in (map.get m path))
      order = subst (λ (o : Option Place). IsOrderBy m path (ordered_head o) (order_in (map.get m path))) placed (order_any m path tree.statements)

      by_row : (o : Option ℕ) → ordered_row here ≡ o → (not (row_of id).ordered || is_row id (ordered_row here)) ≡ true → IsOrderBy m path (Some (head_of id)) (order_in (map.get m path))
      by_row None e f =
          let never = ap (λ (o : Option ℕ). not (row_of id).ordered || is_row id o) (sym e) ∙ f
          in let shut = ap (λ (b : Bool). not b || false) (sym is_ordered) ∙ never in cc
      by_row (Some other) e f =
          let told = ap (λ (o : Option ℕ). not (row_of id).ordered || is_row id o) (sym e) ∙ f
          in let is_id = eqb-true id other (ap (λ (b : Bool). not b || (id == other)) (sym is_ordered) ∙ told)
          in subst (λ (n : ℕ). IsOrderBy m path (Some (head_of n)) (order_in (map.get m path))) (sym is_id)
          (subst (λ (o : Option ℕ). IsOrderBy m path (option_map head_of o) (order_in (map.get m path))) e order)

  -- of the steps of a row those that are this step
  row_once : (id : ℕ) → ordered_found (ordered_row here) id ≡ true
      → filter (eq_by_cmp step_cmp s) (row_steps id (order_in (map.get m path)) (steps_below m path))
      ≡ cond (is_step_of id s) (step_if (is_some (map.get m (path ++ s ∷ []))) s) []
  row_once id found = by_order (row_of id).ordered refl
    where
      by_order : (b : Bool) → (row_of id).ordered ≡ b
          → filter (eq_by_cmp step_cmp s) (if b then each (step_of (head_of id)) (order_in (map.get m path)) else filter (is_step_of id) (steps_below m path))
          ≡ cond (is_step_of id s) (step_if (is_some (map.get m (path ++ s ∷ []))) s) []
      by_order true e =
          ordered_steps (head_of id) _ refl (ordered_is id e found)
          ∙ ap (λ (b : Bool). cond b (step_if (is_some (map.get m (path ++ s ∷ []))) s) []) (sym (ordered_told id s e))
      by_order false e =
          kept_once (is_step_of id) s _ refl (steps_below m path)
          ∙ ap (λ (xs : List Step). cond (is_step_of id s) xs []) (steps_once m path s)

  -- where the child is there, it is one of a row of the level
  row_there : is_some (map.get m (path ++ s ∷ [])) ≡ true → list_any (λ (id : ℕ). is_step_of id s) (rows_below here.row here.in_group) ≡ true
  row_there is_there =
      let whole = tree.typed.paths (path ++ s ∷ []) is_there
      in let ends = same_ends (parent_of (path ++ s ∷ [])) path (last_of (path ++ s ∷ [])) s (sym (split (path ++ s ∷ []) (omega (arith, child_longer path s))))
      in let last = typed_last (path ++ s ∷ []) (omega (arith, child_longer path s)) whole here (ap (λ (p : List Step). place_of p) ends.0 ∙ placed)
      in let led = led_to here last.0 s (ap (λ (t : Step). place_after here t) (sym ends.1) ∙ last.1)
      in let number = number_at last.0.row led.stood.0
      in found_in (stands (level_of here.row here.in_group)) (λ (id : ℕ). is_step_of id s) profile last.0.row led.stood.0 led.stood.1
      (subst (λ (n : ℕ). is_step_of n s ≡ true) (sym number) (told last.0.row s led.stood.0 led.words))

  placed_once : here.row < length profile → filter (eq_by_cmp step_cmp s) (children_at m path (Some here)) ≡ step_if (is_some (map.get m (path ++ s ∷ []))) s
  placed_once within =
      let level = level_here here within
      in flat_once s (is_some (map.get m (path ++ s ∷ []))) (order_in (map.get m path)) (steps_below m path) (ordered_row here) row_once
      (rows_below here.row here.in_group) level.0 level.1
      ∙ by_there _ refl
    where
      by_there : (b : Bool) → is_some (map.get m (path ++ s ∷ [])) ≡ b
          → cond (list_any (λ (id : ℕ). is_step_of id s) (rows_below here.row here.in_group)) (step_if b s) [] ≡ step_if b s
      by_there true e = ap (λ (c : Bool). cond c (s ∷ []) []) (row_there e)
      by_there false e = none (list_any (λ (id : ℕ). is_step_of id s) (rows_below here.row here.in_group))
        where
          none : (c : Bool) → cond c (step_if false s) [] ≡ []
          none true = refl
          none false = refl

-- each child stands once among the children in printing order, and nothing else does
pub children_once : (m : Statements) (path : List Step) (s : Step) → IsTree m
    → filter (eq_by_cmp step_cmp s) (children_of m path) ≡ step_if (is_some (map.get m (path ++ s ∷ []))) s
children_once m path s tree = by_place _ refl
  where
    by_place : (o : Option Place) → place_of path ≡ o → filter (eq_by_cmp step_cmp s) (children_at m path o) ≡ step_if (is_some (map.get m (path ++ s ∷ []))) s
    by_place (Some here) e = placed_once m path here s tree e (path_most path here e).0
    by_place None e = by_there _ refl
      where
        by_there : (b : Bool) → is_some (map.get m (path ++ s ∷ [])) ≡ b → [] ≡ step_if b s
        by_there false f = refl
        by_there true f =
            let whole = tree.typed.paths (path ++ s ∷ []) f
            in let front = typed_front (path ++ s ∷ []) (length (path ++ s ∷ []) - 1) whole
            in let ends = same_ends (parent_of (path ++ s ∷ [])) path (last_of (path ++ s ∷ [])) s (sym (split (path ++ s ∷ []) (omega (arith, child_longer path s))))
            in let there = typed_place path top_place (subst (λ (p : List Step). IsTypedPath p) ends.0 front)
            in let clash = sym e ∙ there.1 in cc
