-- The children of a path are those of its rows, one row after the other.
use Rattle.std.proofs.Common.{◌≡◌, ℕ, Bool, true, false, cond, ◌&&◌, List, [], ◌∷◌, filter, flat_map, refl, ap, ◌∙◌, Option, Some, None}
use Rattle.std.specs.FinMap as map
use Rattle.cfg_base.specs.declared.path.Step.{Step}
use Rattle.cfg_schema.specs.declared.place.Place.{Place}
use Rattle.cfg_schema.specs.Profile.{rows_below}
use Rattle.cfg_schema.specs.Place.{place_of}
use Rattle.cfg_tree.specs.Statements.{Statements}
use Rattle.cfg_tree.specs.Children.{steps_below, order_in, row_steps, children_at, children_of}

pub filter-filter : {X : Type 0} (p q : X → Bool) (xs : List X) → filter q (filter p xs) ≡ filter (λ x. p x && q x) xs
filter-filter p q [] = refl
filter-filter {X} p q (x ∷ xs) = by_test (p x) (filter-filter p q xs)
  where
    by_test : (b : Bool) → filter q (filter p xs) ≡ filter (λ y. p y && q y) xs
        → filter q (cond b (x ∷ filter p xs) (filter p xs)) ≡ cond (b && q x) (x ∷ filter (λ y. p y && q y) xs) (filter (λ y. p y && q y) xs)
    by_test true go = ap (λ (ys : List X). cond (q x) (x ∷ ys) ys) go
    by_test false go = go

pub children_found : (m : Statements) (path steps : List Step) (here : Place) (below : List Step) (names : List (List ℕ)) (rows : List ℕ) (result : List Step)
    → steps ≡ path → Some here ≡ place_of steps → below ≡ steps_below m path
    → names ≡ order_in (map.get m path) → rows ≡ rows_below here.row here.in_group
    → result ≡ flat_map (λ (id : ℕ). row_steps id names below) rows → result ≡ children_of m path
children_found m path steps here below names rows result e placed g h i j =
    j
    ∙ ap (λ (rs : List ℕ). flat_map (λ (id : ℕ). row_steps id names below) rs) i
    ∙ ap (λ (ns : List (List ℕ)). flat_map (λ (id : ℕ). row_steps id ns below) (rows_below here.row here.in_group)) h
    ∙ ap (λ (ss : List Step). flat_map (λ (id : ℕ). row_steps id (order_in (map.get m path)) ss) (rows_below here.row here.in_group)) g
    ∙ ap (λ (o : Option Place). children_at m path o) (placed ∙ ap (λ (p : List Step). place_of p) e)

-- a path that follows no row has no children
pub none_found : (m : Statements) (path steps : List Step) → steps ≡ path → None ≡ place_of steps → [] ≡ children_of m path
none_found m path steps e f = ap (λ (o : Option Place). children_at m path o) (f ∙ ap (λ (p : List Step). place_of p) e)
