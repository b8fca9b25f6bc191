-- What was a configuration is printed as it was.
use Rattle.std.proofs.Common.{◌≡◌, ◌<◌, ◌+◌, ℕ, zero, suc, Bool, true, false, cond, List, [], ◌∷◌, ◌++◌, filter, map, Option, Some, None, is_some, refl, sym, ap, ◌∙◌, arith, append-nil, if◌then◌else◌}
use Rattle.std.specs.List.{AllByRecursion, flat_map}
use Rattle.std.specs.FinMap as finite
use Rattle.std.proofs.lemmas.Grind.{flat_map-append}
use Rattle.cfg_base.specs.declared.path.Step.{Step}
use Rattle.cfg_base.specs.declared.path.TheConstants.{MAX_STEPS}
use Rattle.cfg_base.specs.declared.value.Value.{Value}
use Rattle.cfg_entries.specs.EntryMap.{Pair}
use Rattle.cfg_schema.specs.declared.place.Place.{Place}
use Rattle.cfg_schema.specs.Profile.{profile, head_of, is_level, is_step_of, row_of}
use Rattle.cfg_schema.specs.Place.{and_then, place_after, place_of, top_place}
use Rattle.cfg_tree.specs.declared.first_profile.TheConstants.{FIRST_ROWS}
use Rattle.cfg_tree.specs.Children.{children_at, children_of, is_child, order_in, row_steps, steps_below}
use Rattle.cfg_tree.specs.Statements.{Statements, last_of}
use Rattle.cfg_tree.specs.Tree.{step_of}
use Rattle.cfg_tree.proofs.FoundLemmas.{found_all}
use Rattle.cfg_tree.proofs.TypedLemmas.{place_snoc}
use Rattle.curly_print.specs.Printed.{printed, statement_text, text_below}
use Rattle.group_expand.proofs.PlacedLemmas.{child_split}
use Rattle.profile_laws.specs.Before.{was_place_of, was_rows}
use Rattle.profile_laws.specs.Was.{WasTree, was_text, was_text_below, were_children, were_children_at}
use Rattle.profile_laws.proofs.TableLemmas.{IsNewRow, listed_first, new_rows, new_rows_are}
use Rattle.profile_laws.proofs.TypedLemmas.{follows}

flat_map-same : {X A : Type 0} (f g : X → List A) → ((x : X) → f x ≡ g x) → (xs : List X) → flat_map f xs ≡ flat_map g xs
flat_map-same f g each [] = refl
flat_map-same f g each (x ∷ xs) = ap (λ ys. ys ++ flat_map f xs) (each x) ∙ ap (λ ys. g x ++ ys) (flat_map-same f g each xs)

module _ (m : Statements) (was : WasTree m) where
  module _ (path : List Step) (here : Place) (is : place_of path ≡ Some here) where
    -- a child leads on to a row of the first profile
    child_leads : (s : Step) → is_some (finite.get m (path ++ s ∷ [])) ≡ true → (next : Place) × (place_after here s ≡ Some next) × (next.row < FIRST_ROWS)
    child_leads s there =
        let led = (follows m was (path ++ s ∷ []) there).1
        in (led.here, ap (and_then (λ h. place_after h s)) (sym is) ∙ sym (place_snoc path s top_place) ∙ led.is, led.small)

    -- and so is none of a new row
    none_of : (new : ℕ) → IsNewRow here new → (es : List (Pair Value)) → AllByRecursion (λ e. finite.get m e.0 ≡ Some e.1) es
        → filter (is_step_of new) (map last_of (filter (is_child path) (map (λ e. e.0) es))) ≡ []
    none_of new row [] found = refl
    none_of new row (e ∷ es) found = by_child (is_child path e.0) refl (none_of new row es found.1)
      where
        skipped : (b : Bool) (s : Step) (xs : List Step) → b ≡ false → xs ≡ [] → cond b (s ∷ xs) xs ≡ []
        skipped true s xs f empty = cc
        skipped false s xs f empty = empty

        by_child : (b : Bool) → is_child path e.0 ≡ b → filter (is_step_of new) (map last_of (filter (is_child path) (map (λ x. x.0) es))) ≡ []
            → filter (is_step_of new) (map last_of (cond b (e.0 ∷ filter (is_child path) (map (λ x. x.0) es)) (filter (is_child path) (map (λ x. x.0) es)))) ≡ []
        by_child false f go = go
        by_child true f go =
            let split = child_split path e.0 f
            in let there : is_some (finite.get m (path ++ last_of e.0 ∷ [])) ≡ true = ap (λ (q : List Step). is_some (finite.get m q)) (sym split) ∙ ap is_some found.0
            in let next = child_leads (last_of e.0) there
            in skipped (is_step_of new (last_of e.0)) (last_of e.0) _ (row.apart next.0 (last_of e.0) next.1 next.2) go

    none_new : (news : List ℕ) → AllByRecursion (IsNewRow here) news → flat_map (λ id. row_steps id (order_in (finite.get m path)) (steps_below m path)) news ≡ []
    none_new [] each = refl
    none_new (new ∷ news) each =
        ap (λ (b : Bool). (if b then map (step_of (head_of new)) (order_in (finite.get m path)) else filter (is_step_of new) (steps_below m path)) ++ flat_map (λ id. row_steps id (order_in (finite.get m path)) (steps_below m path)) news) each.0.unordered
        ∙ ap (λ (xs : List Step). xs ++ flat_map (λ id. row_steps id (order_in (finite.get m path)) (steps_below m path)) news) (none_of new each.0 (finite.entries m) (found_all m))
        ∙ none_new news each.1

    -- the children of a statement
    children_same : was_place_of path ≡ Some here → here.row < FIRST_ROWS → children_of m path ≡ were_children m path
    children_same placed small =
        ap (children_at m path) is
        ∙ ap (flat_map (λ id. row_steps id (order_in (finite.get m path)) (steps_below m path))) (listed_first here.row here.in_group small)
        ∙ flat_map-append (λ id. row_steps id (order_in (finite.get m path)) (steps_below m path)) (was_rows here.row here.in_group) (new_rows here.row here.in_group)
        ∙ ap (λ (xs : List Step). flat_map (λ id. row_steps id (order_in (finite.get m path)) (steps_below m path)) (was_rows here.row here.in_group) ++ xs)
        (none_new (new_rows here.row here.in_group) (new_rows_are here small))
        ∙ append-nil _
        ∙ ap (were_children_at m path) (sym placed)

  text_same : (levels : ℕ) (path : List Step) (indent : ℕ) (here : Place) → place_of path ≡ Some here → was_place_of path ≡ Some here → here.row < FIRST_ROWS
      → text_below levels m path indent ≡ was_text_below levels m path indent
  unfolding text_below was_text_below
  text_same zero path indent here is placed small = refl
  text_same (suc levels) path indent here is placed small =
      flat_map-same _ _ (λ s. by_value s (finite.get m (path ++ s ∷ [])) refl (λ there.
      let led = (follows m was (path ++ s ∷ []) there).1
      in text_same levels (path ++ s ∷ []) (indent + 4) led.here led.is led.was led.small)) (children_of m path)
      ∙ ap (flat_map (λ step. statement_text indent step (finite.get m (path ++ step ∷ [])) (was_text_below levels m (path ++ step ∷ []) (indent + 4)))) (children_same path here is placed small)
    where
      by_value : (s : Step) (o : Option Value) → finite.get m (path ++ s ∷ []) ≡ o
          → (is_some (finite.get m (path ++ s ∷ [])) ≡ true → text_below levels m (path ++ s ∷ []) (indent + 4) ≡ was_text_below levels m (path ++ s ∷ []) (indent + 4))
          → statement_text indent s (finite.get m (path ++ s ∷ [])) (text_below levels m (path ++ s ∷ []) (indent + 4))
          ≡ statement_text indent s (finite.get m (path ++ s ∷ [])) (was_text_below levels m (path ++ s ∷ []) (indent + 4))
      by_value s None e go =
          ap (λ (o : Option Value). statement_text indent s o (text_below levels m (path ++ s ∷ []) (indent + 4))) e
          ∙ sym (ap (λ (o : Option Value). statement_text indent s o (was_text_below levels m (path ++ s ∷ []) (indent + 4))) e)
      by_value s (Some value) e go = ap (statement_text indent s (finite.get m (path ++ s ∷ []))) (go (ap is_some e))

  top_opens : is_level (row_of 0).shape ≡ true
  unfolding profile
  top_opens = refl

  pub printed_same : printed m [] ≡ was_text m
  printed_same =
      ap (λ (b : Bool). if b then text_below MAX_STEPS m [] 0 else statement_text 0 (last_of []) (finite.get m []) []) top_opens
      ∙ text_same MAX_STEPS [] 0 top_place refl refl (omega arith)
