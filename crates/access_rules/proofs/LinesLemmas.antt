-- The set lines of a statement rest on what stands at the statement and below it.
use Rattle.std.proofs.Common.{◌≡◌, ℕ, zero, suc, ◌-◌, ◌==◌, Bool, true, false, List, [], ◌∷◌, ◌++◌, length, refl, sym, ap, ◌∙◌}
use Rattle.std.specs.FinMap as finite
use Rattle.std.specs.List.{AllByRecursion, flat_map}
use Rattle.cfg_base.specs.declared.path.Step.{Step}
use Rattle.cfg_base.specs.declared.path.TheConstants.{MAX_STEPS}
use Rattle.cfg_schema.specs.Place.{place_of}
use Rattle.cfg_tree.specs.Statements.{Statements}
use Rattle.cfg_tree.specs.Children.{children_of}
use Rattle.set_text.specs.Printed.{Line, paths_below, each_below, with_below, sets_in, sets_of, deactivates_in, deactivates_of, protects_in, protects_of, opens_at, shown_by, lines_shown, printed_lines, printed_set}
use Rattle.access_rules.proofs.TextLemmas.{children_same}

-- the same of each of which something holds
flat_map_same : {A B : Type 0} (P : A → Type 0) (f g : A → List B) (xs : List A) → AllByRecursion P xs → ((x : A) → P x → f x ≡ g x)
    → flat_map f xs ≡ flat_map g xs
flat_map_same P f g [] all h = refl
flat_map_same {A} {B} P f g (x ∷ xs) all h =
    ap (λ (ys : List B). ys ++ flat_map f xs) (h x all.0) ∙ ap (λ (ys : List B). g x ++ ys) (flat_map_same P f g xs all.1 h)

-- a path begins with a step
abbrev Starts : Step → List Step → Type 0
Starts s path = (rest : List Step) × (path ≡ s ∷ rest)

module _ (m n : Statements) (s : Step) (same : (q : List Step) → finite.get m (s ∷ q) ≡ finite.get n (s ∷ q)) where
  all_start : (levels : ℕ) (q : List Step) → AllByRecursion (Starts s) (paths_below levels m (s ∷ q))
  unfolding paths_below
  all_start zero q = tt
  all_start (suc levels) q = each (λ step. all_start levels (q ++ step ∷ [])) (children_of m (s ∷ q))
    where
      both : (xs ys : List (List Step)) → AllByRecursion (Starts s) xs → AllByRecursion (Starts s) ys → AllByRecursion (Starts s) (xs ++ ys)
      both [] ys a b = b
      both (x ∷ xs) ys a b = (a.0, both xs ys a.1 b)

      each : ((step : Step) → AllByRecursion (Starts s) (paths_below levels m (s ∷ (q ++ step ∷ [])))) → (steps : List Step)
          → AllByRecursion (Starts s) (each_below (paths_below levels m) (s ∷ q) steps)
      each more [] = tt
      each more (step ∷ steps) =
          both (with_below (paths_below levels m) ((s ∷ q) ++ step ∷ [])) (each_below (paths_below levels m) (s ∷ q) steps)
          ((q ++ step ∷ [], refl), more step) (each more steps)

  paths_same : (levels : ℕ) (q : List Step) → paths_below levels m (s ∷ q) ≡ paths_below levels n (s ∷ q)
  unfolding paths_below
  paths_same zero q = refl
  paths_same (suc levels) q =
      ap (each_below (paths_below levels m) (s ∷ q)) (children_same m n s same q)
      ∙ ap (λ (paths : Step → List (List Step)). flat_map paths (children_of n (s ∷ q)))
      (λ i step. (s ∷ (q ++ step ∷ [])) ∷ paths_same levels (q ++ step ∷ []) i)

  shown_start : (q : List Step) (b : Bool) → AllByRecursion (Starts s) (shown_by b m (s ∷ q))
  shown_start q true = all_start (MAX_STEPS - length (s ∷ q)) q
  shown_start q false = ((q, refl), tt)

  shown_same : (q : List Step) (b : Bool) → shown_by b m (s ∷ q) ≡ shown_by b n (s ∷ q)
  shown_same q true = paths_same (MAX_STEPS - length (s ∷ q)) q
  shown_same q false = refl

  sets_same : (path : List Step) → Starts s path → sets_of m path ≡ sets_of n path
  sets_same path (q, e) =
      ap (λ (p : List Step). sets_of m p) e
      ∙ ap (λ (steps : List Step). sets_in (s ∷ q) (length steps == 0) (finite.get m (s ∷ q))) (children_same m n s same q)
      ∙ ap (sets_in (s ∷ q) (length (children_of n (s ∷ q)) == 0)) (same q)
      ∙ sym (ap (λ (p : List Step). sets_of n p) e)

  deactivates_same : (path : List Step) → Starts s path → deactivates_of m path ≡ deactivates_of n path
  deactivates_same path (q, e) =
      ap (λ (p : List Step). deactivates_of m p) e ∙ ap (deactivates_in (s ∷ q)) (same q) ∙ sym (ap (λ (p : List Step). deactivates_of n p) e)

  protects_same : (path : List Step) → Starts s path → protects_of m path ≡ protects_of n path
  protects_same path (q, e) =
      ap (λ (p : List Step). protects_of m p) e ∙ ap (protects_in (s ∷ q)) (same q) ∙ sym (ap (λ (p : List Step). protects_of n p) e)

  lines_same : (paths : List (List Step)) → AllByRecursion (Starts s) paths → lines_shown m paths ≡ lines_shown n paths
  lines_same paths all =
      ap (λ (ls : List Line). ls ++ (flat_map (deactivates_of m) paths ++ flat_map (protects_of m) paths)) (flat_map_same (Starts s) (sets_of m) (sets_of n) paths all sets_same)
      ∙ ap (λ (ls : List Line). flat_map (sets_of n) paths ++ (ls ++ flat_map (protects_of m) paths))
      (flat_map_same (Starts s) (deactivates_of m) (deactivates_of n) paths all deactivates_same)
      ∙ ap (λ (ls : List Line). flat_map (sets_of n) paths ++ (flat_map (deactivates_of n) paths ++ ls))
      (flat_map_same (Starts s) (protects_of m) (protects_of n) paths all protects_same)

  pub printed_set_same : (q : List Step) → printed_set m (s ∷ q) ≡ printed_set n (s ∷ q)
  printed_set_same q =
      let opens = opens_at (place_of (s ∷ q))
      in ap printed_lines
      (lines_same (shown_by opens m (s ∷ q)) (shown_start q opens) ∙ ap (lines_shown n) (shown_same q opens))
