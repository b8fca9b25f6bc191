-- The curly text of a statement, of a configuration or an expansion, rests on what stands at the statement and below it.
use Rattle.std.proofs.Common.{◌≡◌, ℕ, zero, suc, ◌+◌, Bool, true, false, List, [], ◌∷◌, ◌++◌, refl, ap, ◌∙◌, Option, Some, None, if◌then◌else◌}
use Rattle.std.specs.FinMap as finite
use Rattle.std.specs.List.{flat_map}
use Rattle.cfg_base.specs.declared.path.Step.{Step}
use Rattle.cfg_base.specs.declared.path.TheConstants.{MAX_STEPS}
use Rattle.cfg_base.specs.declared.value.Value.{Value}
use Rattle.cfg_schema.specs.declared.place.Place.{Place}
use Rattle.cfg_schema.specs.Profile.{row_of, rows_below, is_level}
use Rattle.cfg_schema.specs.Place.{place_of}
use Rattle.cfg_tree.specs.declared.full.Given.{Given}
use Rattle.cfg_tree.specs.Statements.{Statements, last_of}
use Rattle.cfg_tree.specs.Children.{row_steps, order_in, steps_below, children_at, children_of}
use Rattle.cfg_tree.specs.Full.{Expansion}
use Rattle.curly_print.specs.Printed.{statement_text, text_at, text_below, printed}
use Rattle.curly_print.specs.Inherited.{full_text_at, given_below, given_children, given_children_at, given_order, given_steps, given_text, printed_full}
use Rattle.group_expand.proofs.KeysLemmas.{kids_same}

module _ (m n : Statements) (s : Step) (same : (q : List Step) → finite.get m (s ∷ q) ≡ finite.get n (s ∷ q)) where
  children_same_at : (q : List Step) (here : Option Place) → children_at m (s ∷ q) here ≡ children_at n (s ∷ q) here
  children_same_at q None = refl
  children_same_at q (Some here) =
      ap (λ (o : Option Value). flat_map (λ (id : ℕ). row_steps id (order_in o) (steps_below m (s ∷ q))) (rows_below here.row here.in_group)) (same q)
      ∙ ap (λ (steps : List Step). flat_map (λ (id : ℕ). row_steps id (order_in (finite.get n (s ∷ q))) steps) (rows_below here.row here.in_group)) (kids_same m n (s ∷ q) (λ t. same (q ++ t ∷ [])))

  pub children_same : (q : List Step) → children_of m (s ∷ q) ≡ children_of n (s ∷ q)
  children_same q = children_same_at q (place_of (s ∷ q))

  abbrev child_in : ℕ → Statements → List Step → ℕ → Step → List ℕ
  child_in levels k q indent step =
      statement_text indent step (finite.get k ((s ∷ q) ++ step ∷ [])) (text_below levels k ((s ∷ q) ++ step ∷ []) (indent + 4))

  text_same : (levels : ℕ) (q : List Step) (indent : ℕ) → text_below levels m (s ∷ q) indent ≡ text_below levels n (s ∷ q) indent
  unfolding text_below
  text_same zero q indent = refl
  text_same (suc levels) q indent =
      ap (λ (steps : List Step). flat_map (child_in levels m q indent) steps) (children_same q)
      ∙ (let each : child_in levels m q indent ≡ child_in levels n q indent
      = λ i step.
      (ap (λ (o : Option Value). statement_text indent step o (text_below levels m (s ∷ (q ++ step ∷ [])) (indent + 4))) (same (q ++ step ∷ []))
      ∙ ap (statement_text indent step (finite.get n (s ∷ (q ++ step ∷ [])))) (text_same levels (q ++ step ∷ []) (indent + 4))) i
      in ap (λ (text : Step → List ℕ). flat_map text (children_of n (s ∷ q))) each)

  pub printed_same : (q : List Step) → printed m (s ∷ q) ≡ printed n (s ∷ q)
  printed_same q = by_place (place_of (s ∷ q))
    where
      by_place : (here : Option Place) → text_at m (s ∷ q) here (finite.get m (s ∷ q)) ≡ text_at n (s ∷ q) here (finite.get n (s ∷ q))
      by_place None = refl
      by_place (Some here) = by_level (is_level (row_of here.row).shape)
        where
          by_level : (b : Bool) → (if b then text_below MAX_STEPS m (s ∷ q) 0 else statement_text 0 (last_of (s ∷ q)) (finite.get m (s ∷ q)) [])
              ≡ (if b then text_below MAX_STEPS n (s ∷ q) 0 else statement_text 0 (last_of (s ∷ q)) (finite.get n (s ∷ q)) [])
          by_level true = text_same MAX_STEPS q 0
          by_level false = ap (λ (o : Option Value). statement_text 0 (last_of (s ∷ q)) o []) (same q)

-- expansions that are the same below a statement at the top
module _ (full other : Expansion) (s : Step) (same : (q : List Step) → finite.get full (s ∷ q) ≡ finite.get other (s ∷ q)) where
  given_same_at : (q : List Step) (here : Option Place) → given_children_at full (s ∷ q) here ≡ given_children_at other (s ∷ q) here
  given_same_at q None = refl
  given_same_at q (Some here) =
      ap (λ (o : Option Given). flat_map (λ (id : ℕ). row_steps id (given_order o) (given_steps full (s ∷ q))) (rows_below here.row here.in_group)) (same q)
      ∙ ap (λ (steps : List Step). flat_map (λ (id : ℕ). row_steps id (given_order (finite.get other (s ∷ q))) steps) (rows_below here.row here.in_group))
      (kids_same full other (s ∷ q) (λ t. same (q ++ t ∷ [])))

  abbrev given_in : ℕ → Expansion → List Step → ℕ → Step → List ℕ
  given_in levels k q indent step =
      given_text indent step (finite.get k ((s ∷ q) ++ step ∷ [])) (given_below levels k ((s ∷ q) ++ step ∷ []) (indent + 4))

  given_same : (levels : ℕ) (q : List Step) (indent : ℕ) → given_below levels full (s ∷ q) indent ≡ given_below levels other (s ∷ q) indent
  unfolding given_below
  given_same zero q indent = refl
  given_same (suc levels) q indent =
      ap (λ (steps : List Step). flat_map (given_in levels full q indent) steps) (given_same_at q (place_of (s ∷ q)))
      ∙ (let each : given_in levels full q indent ≡ given_in levels other q indent
      = λ i step.
      (ap (λ (o : Option Given). given_text indent step o (given_below levels full (s ∷ (q ++ step ∷ [])) (indent + 4))) (same (q ++ step ∷ []))
      ∙ ap (given_text indent step (finite.get other (s ∷ (q ++ step ∷ [])))) (given_same levels (q ++ step ∷ []) (indent + 4))) i
      in ap (λ (text : Step → List ℕ). flat_map text (given_children other (s ∷ q))) each)

  pub printed_full_same : (q : List Step) → printed_full full (s ∷ q) ≡ printed_full other (s ∷ q)
  printed_full_same q = by_place (place_of (s ∷ q))
    where
      by_place : (here : Option Place) → full_text_at full (s ∷ q) here (finite.get full (s ∷ q)) ≡ full_text_at other (s ∷ q) here (finite.get other (s ∷ q))
      by_place None = refl
      by_place (Some here) = by_level (is_level (row_of here.row).shape)
        where
          by_level : (b : Bool) → (if b then given_below MAX_STEPS full (s ∷ q) 0 else given_text 0 (last_of (s ∷ q)) (finite.get full (s ∷ q)) [])
              ≡ (if b then given_below MAX_STEPS other (s ∷ q) 0 else given_text 0 (last_of (s ∷ q)) (finite.get other (s ∷ q)) [])
          by_level true = given_same MAX_STEPS q 0
          by_level false = ap (λ (o : Option Given). given_text 0 (last_of (s ∷ q)) o []) (same q)
