-- What the parts of the lister make together.
use Rattle.std.proofs.Common.{◌≡◌, ℕ, zero, suc, ◌+◌, ◌-◌, ◌<◌, List, [], ◌∷◌, ◌++◌, length, get_or, set, Option, Some, None, false, refl, ap, sym, ◌∙◌, arith, append_assoc, length-append}
use Rattle.std.specs.List.{flat_map}
use Rattle.std.specs.FinMap as map
use Rattle.std.proofs.Math.Seq.{set-append_seam}
use Rattle.std.proofs.lemmas.List.{get_or_at}
use Rattle.cfg_base.specs.declared.path.Step.{Step}
use Rattle.cfg_base.specs.declared.value.Value.{Value}
use Rattle.cfg_entries.specs.EntryMap.{Pair}
use Rattle.cfg_schema.specs.declared.place.Place.{Place}
use Rattle.cfg_schema.specs.Profile.{row_of, rows_below}
use Rattle.cfg_schema.specs.Place.{place_of}
use Rattle.cfg_tree.specs.Statements.{Statements, size_of}
use Rattle.cfg_tree.specs.Children.{children_of}
use Rattle.printing_order.specs.Inside.{statements_inside}
use Rattle.printing_order.specs.Listed.{Item, item_with, items_below}
use Rattle.printing_order.specs.Listing.{child_items, items_if_of_row, own_items, row_items}
use Rattle.printing_order.proofs.RowsLemmas as rows

-- no level is left
pub no_levels : (levels : ℕ) (m : Statements) (path : List Step) → levels ≡ 0 → items_below levels m path ≡ []
unfolding items_below
no_levels zero m path e = refl
no_levels (suc levels) m path e = absurd (omega (arith, e))

-- nothing is listed below a path that follows no rows
pub no_place : (levels : ℕ) (m : Statements) (path : List Step) → place_of path ≡ None → items_below levels m path ≡ []
unfolding items_below
no_place zero m path e = refl
no_place (suc levels) m path e = rows.no_children m path (child_items levels m path) e

-- nothing is listed below a path with no statement inside it
pub none_inside : (levels : ℕ) (m : Statements) (path : List Step) → statements_inside m path ≡ [] → items_below levels m path ≡ []
unfolding items_below
none_inside zero m path none = refl
none_inside (suc levels) m path none =
    rows.none_made m path (child_items levels m path)
    (λ s gone. ap (λ (o : Option Value). item_with (path ++ s ∷ []) o (items_below levels m (path ++ s ∷ []))) gone) none (children_of m path)

-- nothing is listed of a tree without statements
pub no_statements : (levels : ℕ) (m : Statements) (path : List Step) → size_of m ≡ 0 → items_below levels m path ≡ []
no_statements levels m path none = none_inside levels m path (rows.none_of_none m path none)

-- the statements below a path are listed row by row
pub by_rows : (levels : ℕ) (m : Statements) (path : List Step) (here : Place) → 0 < levels → place_of path ≡ Some here
    → items_below levels m path ≡ flat_map (row_items (levels - 1) m path) (rows_below here.row here.in_group)
unfolding items_below
by_rows zero m path here h e = absurd (omega (arith, h))
by_rows (suc levels) m path here h e =
    rows.by_rows m path (child_items levels m path) here e
    ∙ ap (λ (n : ℕ). flat_map (row_items n m path) (rows_below here.row here.in_group)) back
  where
    back : levels ≡ suc levels - 1
    back = omega arith

-- the statements of a row are what it lists, where it has no order
pub row_unordered : (levels : ℕ) (m : Statements) (path : List Step) (id : ℕ) (inside : List (Pair Value)) → inside ≡ statements_inside m path
    → (row_of id).ordered ≡ false → flat_map (items_if_of_row id (length path + 1) levels m) inside ≡ row_items levels m path id
row_unordered levels m path id inside e unordered =
    rows.row_unordered m path (child_items levels m path) (own_items levels m)
    (λ x at found.
    ap (λ (o : Option Value). item_with x.0 o (items_below levels m x.0)) (sym found)
    ∙ ap (λ (k : List Step). item_with k (map.get m k) (items_below levels m k)) at)
    id inside e unordered

-- an item, once those that stand in it are put after it, is told how many they are
pub told_behind : (old new below : List Item) (one held other : Item) (at : ℕ) → at ≡ length old → new ≡ (old ++ one ∷ []) ++ below → held ≡ get_or new at held
    → other ≡ record { path = held.path; value = held.value; inside = length new - at - 1 }
    → set new at other ≡ old ++ record { path = one.path; value = one.value; inside = length below } ∷ below
told_behind old new below one held other at here are is told =
    ap (λ (n : ℕ). set new n other) here
    ∙ ap (λ (xs : List Item). set xs (length old) other) (are ∙ append_assoc old (one ∷ []) below)
    ∙ set-append_seam old one below other
    ∙ ap (λ (it : Item). old ++ it ∷ below)
    (told
    ∙ ap (λ (it : Item). record { path = it.path; value = it.value; inside = length new - at - 1 }) same
    ∙ ap (λ (n : ℕ). record { path = one.path; value = one.value; inside = n }) count)
  where
    same : held ≡ one
    same =
        is
        ∙ ap (λ (n : ℕ). get_or new n held) here
        ∙ ap (λ (xs : List Item). get_or xs (length old) held) (are ∙ append_assoc old (one ∷ []) below)
        ∙ get_or_at old one below held (length old) refl

    count : length new - at - 1 ≡ length below
    count =
        omega (arith, here, ap (λ (xs : List Item). length xs) (are ∙ append_assoc old (one ∷ []) below), length-append old (one ∷ below))
