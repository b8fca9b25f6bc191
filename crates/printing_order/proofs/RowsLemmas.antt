-- What is made of the children of a path, row by row.
use Rattle.std.proofs.Common.{◌≡◌, ℕ, ◌+◌, ◌==◌, Bool, true, false, cond, ◌&&◌, List, [], ◌∷◌, ◌++◌, length, filter, map as each, Option, Some, None, refl, sym, ap, ◌∙◌, if◌then◌else◌}
use Rattle.std.specs.List.{flat_map, AllByRecursion}
use Rattle.std.specs.FinMap as map
use Rattle.std.specs.Map.{keys_of}
use Rattle.cfg_base.specs.declared.path.Step.{Step}
use Rattle.cfg_base.specs.declared.value.Value.{Value}
use Rattle.cfg_entries.specs.EntryMap.{Pair}
use Rattle.cfg_schema.specs.declared.place.Place.{Place}
use Rattle.cfg_schema.specs.Profile.{row_of, head_of, rows_below, is_step_of}
use Rattle.cfg_schema.specs.Place.{place_of}
use Rattle.cfg_schema.proofs.TestLemmas.{both}
use Rattle.cfg_tree.specs.Statements.{Statements, is_below, last_of, size_of}
use Rattle.cfg_tree.specs.Children.{is_inside, is_child, order_in, row_steps, steps_below, children_at, children_of}
use Rattle.cfg_tree.specs.Tree.{step_of}
use Rattle.printing_order.specs.Inside.{statements_inside}
use Rattle.printing_order.proofs.EntriesLemmas.{child_inside, child_is, found_all, long_child, none_given, right_inside}
use Rattle.printing_order.proofs.NumberLemmas.{no_length}
use Rattle.printing_order.proofs.PutLemmas.{rows_flat}

-- no statement of a tree without statements is inside a path
pub none_of_none : (m : Statements) (path : List Step) → size_of m ≡ 0 → statements_inside m path ≡ []
none_of_none m path none =
    ap (λ (es : List (Pair Value)). filter (λ (e : Pair Value). is_inside path e.0) es) (no_length (map.entries m) (sym (map.len-entries m) ∙ none))

module _ {X : Type 0} (m : Statements) (path : List Step) (child : Step → List X) where
  -- a path that follows no rows has no children
  pub no_children : place_of path ≡ None → flat_map child (children_of m path) ≡ []
  no_children e = ap (λ (here : Option Place). flat_map child (children_at m path here)) e

  -- of steps nothing is made where no statement is inside the path
  pub none_made : ((s : Step) → map.get m (path ++ s ∷ []) ≡ None → child s ≡ []) → statements_inside m path ≡ [] → (steps : List Step) → flat_map child steps ≡ []
  none_made nothing none [] = refl
  none_made nothing none (s ∷ steps) =
      ap (λ (xs : List X). xs ++ flat_map child steps) (nothing s (none_given m path (is_inside path) s (right_inside path s) none)) ∙ none_made nothing none steps

  -- the children are met row by row
  pub by_rows : (here : Place) → place_of path ≡ Some here
      → flat_map child (children_of m path)
      ≡ flat_map (λ id. flat_map child (row_steps id (order_in (map.get m path)) (steps_below m path))) (rows_below here.row here.in_group)
  by_rows here e =
      ap (λ (o : Option Place). flat_map child (children_at m path o)) e
      ∙ rows_flat child (λ id. row_steps id (order_in (map.get m path)) (steps_below m path)) (rows_below here.row here.in_group)

  module _ (own : Pair Value → List X) (same : (e : Pair Value) → e.0 ≡ path ++ last_of e.0 ∷ [] → map.get m e.0 ≡ Some e.1 → own e ≡ child (last_of e.0)) where
    abbrev steps_with : ℕ → List (List Step) → List Step
    steps_with id ks = filter (is_step_of id) (each last_of ks)

    abbrev made : List Step → List X
    made steps = flat_map child steps

    abbrev made_of : ℕ → List (Pair Value) → List X
    made_of id es = flat_map (λ e. if length e.0 == length path + 1 && is_step_of id (last_of e.0) then own e else []) es

    made_in : (id : ℕ) (es : List (Pair Value)) → AllByRecursion (λ x. map.get m x.0 ≡ Some x.1) es
        → made_of id (filter (λ e. is_inside path e.0) es) ≡ made (steps_with id (filter (is_child path) (keys_of es)))
    made_in id [] found = refl
    made_in id (e ∷ es) found =
        by_inside (filter (λ x. is_inside path x.0) es) (filter (is_child path) (keys_of es)) (is_inside path e.0) (is_child path e.0) refl refl (made_in id es found.1)
      where
        by_tests : (xs : List (Pair Value)) (ks : List (List Step)) (c h : Bool) → is_child path e.0 ≡ c → (length e.0 == length path + 1) ≡ c
            → is_step_of id (last_of e.0) ≡ h → made_of id xs ≡ made (steps_with id ks)
            → (if c && h then own e else []) ++ made_of id xs ≡ made (steps_with id (cond c (e.0 ∷ ks) ks))
        by_tests xs ks true true is_one long like go =
            ap (λ (t : List X). t ++ made_of id xs) (same e (child_is path e.0 is_one) found.0)
            ∙ ap (λ (t : List X). child (last_of e.0) ++ t) go
            ∙ ap (λ (b : Bool). made (cond b (last_of e.0 ∷ steps_with id ks) (steps_with id ks))) (sym like)
        by_tests xs ks true false is_one long like go =
            go ∙ ap (λ (b : Bool). made (cond b (last_of e.0 ∷ steps_with id ks) (steps_with id ks))) (sym like)
        by_tests xs ks false h is_one long like go = go

        by_inside : (xs : List (Pair Value)) (ks : List (List Step)) (i c : Bool) → is_inside path e.0 ≡ i → is_child path e.0 ≡ c
            → made_of id xs ≡ made (steps_with id ks) → made_of id (cond i (e ∷ xs) xs) ≡ made (steps_with id (cond c (e.0 ∷ ks) ks))
        by_inside xs ks true c inside is_one go =
            let below = both (is_below path e.0) _ inside
            in let long : (length e.0 == length path + 1) ≡ c = sym (long_child path e.0 (length path + 1) refl below.0) ∙ is_one
            in ap (λ (b : Bool). (if b && is_step_of id (last_of e.0) then own e else []) ++ made_of id xs) long
            ∙ by_tests xs ks c (is_step_of id (last_of e.0)) is_one long refl go
        by_inside xs ks false true apart is_one go = let inside = child_inside path e.0 is_one in cc
        by_inside xs ks false false apart is_one go = go

    -- of the statements inside the path those of a row are what it has, where it has no order
    pub row_unordered : (id : ℕ) (inside : List (Pair Value)) → inside ≡ statements_inside m path → (row_of id).ordered ≡ false
        → made_of id inside ≡ flat_map child (row_steps id (order_in (map.get m path)) (steps_below m path))
    row_unordered id inside e unordered =
        ap (λ (es : List (Pair Value)). made_of id es) e
        ∙ made_in id (map.entries m) (found_all m)
        ∙ ap
        (λ (b : Bool). flat_map child
        (if b then each (step_of (head_of id)) (order_in (map.get m path)) else filter (is_step_of id) (steps_below m path)))
        (sym unordered)
