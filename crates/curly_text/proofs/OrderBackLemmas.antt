-- The ordered children of a path, among its children in printing order, are in the user's order.
use Rattle.std.proofs.Common.{◌≡◌, ℕ, ◌<◌, ◌==◌, Bool, true, false, cond, ◌&&◌, List, [], ◌∷◌, ◌++◌, length, map as each, filter, flat_map, refl, sym, ap, subst, ◌∙◌, Option, Some, None, option_map, if◌then◌else◌, append-nil, eqb-true}
use Rattle.std.specs.List.{AllByRecursion, list_all}
use Rattle.std.specs.FinMap as map
use Rattle.std.proofs.lemmas.List.Elements.{filter-append}
use Rattle.cfg_base.specs.declared.path.Step.{Step}
use Rattle.cfg_base.specs.declared.value.Value.{Value}
use Rattle.cfg_schema.specs.declared.table.Line.{Line}
use Rattle.cfg_schema.specs.declared.place.Place.{Place}
use Rattle.cfg_schema.specs.Profile.{profile, line_at, no_line, row_of, head_of, is_step_of, same_word, rows_below}
use Rattle.cfg_schema.specs.Place.{place_of, ordered_row}
use Rattle.cfg_schema.proofs.TestLemmas.{both, same}
use Rattle.cfg_schema.proofs.RowFacts.{number_at}
use Rattle.cfg_schema.proofs.LevelLemmas.{all_at, path_most}
use Rattle.cfg_tree.specs.Statements.{Statements}
use Rattle.cfg_tree.specs.Tree.{ordered_head, step_of, IsOrderBy, IsTree}
use Rattle.cfg_tree.specs.Change.{has_head}
use Rattle.cfg_tree.specs.Children.{steps_below, order_in, row_steps, children_at, children_of}

-- the names of the ordered children of a path among these steps
abbrev pub named_by : Option (List ℕ) → List Step → List (List ℕ)
named_by head steps = each (λ (s : Step). s.name) (filter (has_head head) steps)

abbrev pub ordered_names : List Step → List Step → List (List ℕ)
ordered_names path steps = named_by (ordered_head (place_of path)) steps

-- of the rows of a level the ordered one alone has its head
abbrev is_alone : ℕ → List ℕ → Bool
is_alone id [] = false
is_alone id (other ∷ []) = other == id
is_alone id (other ∷ next ∷ ids) = false

abbrev stands_alone : List ℕ → Option ℕ → Bool
stands_alone ids None = true
stands_alone ids (Some id) = (row_of id).ordered && is_alone id (filter (λ other. same_word (head_of id) (head_of other)) ids)

abbrev order_alone : Bool → Line → Bool
order_alone in_group line =
    stands_alone (rows_below line.number in_group) (ordered_row (record { row = line.number; in_group = in_group }))

profile_orders : list_all (order_alone false) profile ≡ true
unfolding profile
profile_orders = refl

profile_orders_in_group : list_all (order_alone true) profile ≡ true
unfolding profile
profile_orders_in_group = refl

order_at : (in_group : Bool) (id : ℕ) → id < length profile → order_alone in_group (line_at profile id) ≡ true
order_at true id within = all_at (order_alone true) profile id no_line profile_orders_in_group within
order_at false id within = all_at (order_alone false) profile id no_line profile_orders within

alone_here : (here : Place) → here.row < length profile → stands_alone (rows_below here.row here.in_group) (ordered_row here) ≡ true
alone_here here within =
    subst (λ (n : ℕ). stands_alone (rows_below n here.in_group) (ordered_row (record { row = n; in_group = here.in_group })) ≡ true)
    (number_at here.row within) (order_at here.in_group here.row within)

alone_is : (id : ℕ) (ids : List ℕ) → is_alone id ids ≡ true → ids ≡ id ∷ []
alone_is id [] h = cc
alone_is id (other ∷ []) h = ap (λ (n : ℕ). n ∷ []) (eqb-true other id h)
alone_is id (other ∷ next ∷ ids) h = cc

-- a test that answers the same everywhere
filtered : (t : Step → Bool) (b : Bool) (steps : List Step) → AllByRecursion (λ s. t s ≡ b) steps → filter t steps ≡ (if b then steps else [])
filtered t true [] h = refl
filtered t false [] h = refl
filtered t true (s ∷ steps) h =
    ap (λ (c : Bool). cond c (s ∷ filter t steps) (filter t steps)) h.0 ∙ ap (λ (ss : List Step). s ∷ ss) (filtered t true steps h.1)
filtered t false (s ∷ steps) h =
    ap (λ (c : Bool). cond c (s ∷ filter t steps) (filter t steps)) h.0 ∙ filtered t false steps h.1

module _ (head : List ℕ) where
  abbrev heads : Step → Bool
  heads s = same_word head s.head

  named_all : (h : List ℕ) (names : List (List ℕ)) → AllByRecursion (λ s. heads s ≡ same_word head h) (each (step_of h) names)
  named_all h [] = tt
  named_all h (n ∷ names) = (refl, named_all h names)

  told_all : (id : ℕ) (steps : List Step) → AllByRecursion (λ s. heads s ≡ same_word head (head_of id)) (filter (is_step_of id) steps)
  told_all id [] = tt
  told_all id (s ∷ steps) = by_test _ refl (told_all id steps)
    where
      by_test : (b : Bool) → is_step_of id s ≡ b → AllByRecursion (λ s. heads s ≡ same_word head (head_of id)) (filter (is_step_of id) steps)
          → AllByRecursion (λ s. heads s ≡ same_word head (head_of id)) (cond b (s ∷ filter (is_step_of id) steps) (filter (is_step_of id) steps))
      by_test true e go =
          (ap (λ (w : List ℕ). same_word head w) (sym (same (head_of id) s.head (both (same_word (head_of id) s.head) _ e).0)), go)
      by_test false e go = go

  row_all : (id : ℕ) (names : List (List ℕ)) (steps : List Step) → AllByRecursion (λ s. heads s ≡ same_word head (head_of id)) (row_steps id names steps)
  row_all id names steps = by_order (row_of id).ordered
    where
      by_order : (b : Bool) → AllByRecursion (λ s. heads s ≡ same_word head (head_of id)) (if b then each (step_of (head_of id)) names else filter (is_step_of id) steps)
      by_order true = named_all (head_of id) names
      by_order false = told_all id steps

  rows_filtered : (names : List (List ℕ)) (steps : List Step) (ids : List ℕ)
      → filter heads (flat_map (λ (id : ℕ). row_steps id names steps) ids)
      ≡ flat_map (λ (id : ℕ). row_steps id names steps) (filter (λ (id : ℕ). same_word head (head_of id)) ids)
  rows_filtered names steps [] = refl
  rows_filtered names steps (id ∷ ids) =
      filter-append heads (row_steps id names steps) (flat_map (λ (i : ℕ). row_steps i names steps) ids)
      ∙ ap (λ (ss : List Step). ss ++ filter heads (flat_map (λ (i : ℕ). row_steps i names steps) ids)) (filtered heads (same_word head (head_of id)) (row_steps id names steps) (row_all id names steps))
      ∙ by_test (same_word head (head_of id)) (rows_filtered names steps ids)
    where
      by_test : (b : Bool)
          → filter heads (flat_map (λ (i : ℕ). row_steps i names steps) ids) ≡ flat_map (λ (i : ℕ). row_steps i names steps) (filter (λ (i : ℕ). same_word head (head_of i)) ids)
          → (if b then row_steps id names steps else []) ++ filter heads (flat_map (λ (i : ℕ). row_steps i names steps) ids)
          ≡ flat_map (λ (i : ℕ). row_steps i names steps) (cond b (id ∷ filter (λ (i : ℕ). same_word head (head_of i)) ids) (filter (λ (i : ℕ). same_word head (head_of i)) ids))
      by_test true go = ap (λ (ss : List Step). row_steps id names steps ++ ss) go
      by_test false go = go

  names_back : (names : List (List ℕ)) → each (λ (s : Step). s.name) (each (step_of head) names) ≡ names
  names_back [] = refl
  names_back (n ∷ names) = ap (λ (ns : List (List ℕ)). n ∷ ns) (names_back names)

none_headed : (steps : List Step) → filter (has_head None) steps ≡ []
none_headed [] = refl
none_headed (s ∷ steps) = none_headed steps

-- the ordered row's steps are those of the names
row_named : (id : ℕ) (names : List (List ℕ)) (steps : List Step) → (row_of id).ordered ≡ true → row_steps id names steps ≡ each (step_of (head_of id)) names
row_named id names steps e =
    ap (λ (b : Bool). if b then each (step_of (head_of id)) names else filter (is_step_of id) steps) e

named_placed : (m : Statements) (path : List Step) (here : Place) (row : Option ℕ) (names : List (List ℕ)) → stands_alone (rows_below here.row here.in_group) row ≡ true
    → IsOrderBy m path (option_map head_of row) names
    → named_by (option_map head_of row) (flat_map (λ (id : ℕ). row_steps id names (steps_below m path)) (rows_below here.row here.in_group)) ≡ names
named_placed m path here None names alone order =
    ap (λ (ss : List Step). each (λ (s : Step). s.name) ss) (none_headed (flat_map (λ (id : ℕ). row_steps id names (steps_below m path)) (rows_below here.row here.in_group))) ∙ sym order
named_placed m path here (Some id) names alone order =
    let parts = both (row_of id).ordered _ alone
    in ap (λ (ss : List Step). each (λ (s : Step). s.name) ss)
    (rows_filtered (head_of id) names (steps_below m path) (rows_below here.row here.in_group)
    ∙ ap (λ (ids : List ℕ). flat_map (λ (i : ℕ). row_steps i names (steps_below m path)) ids) (alone_is id _ parts.1)
    ∙ append-nil (row_steps id names (steps_below m path))
    ∙ row_named id names (steps_below m path) parts.0)
    ∙ names_back (head_of id) names

-- the names of the ordered children are the order of the path's value
pub order_back : (m : Statements) (path : List Step) (here : Place) (value : Value) → IsTree m → place_of path ≡ Some here → map.get m path ≡ Some value
    → ordered_names path (children_of m path) ≡ value.order
order_back m path here value tree placed found =
    ap (λ (o : Option Place). named_by (ordered_head o) (children_at m path o)) placed
    ∙ ap (λ (names : List (List ℕ)). named_by (ordered_head (Some here)) (flat_map (λ (id : ℕ). row_steps id names (steps_below m path)) (rows_below here.row here.in_group)))
    (ap order_in found)
    ∙ named_placed m path here (ordered_row here) value.order (alone_here here (path_most path here placed).0)
    (subst (λ (o : Option Place). IsOrderBy m path (ordered_head o) value.order) placed (tree.statements.orders path value found))
