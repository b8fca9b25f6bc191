-- What the parts of the printer of trees make together.
use Rattle.std.proofs.Common.{◌≡◌, ℕ, zero, suc, ◌+◌, ◌-◌, ◌<◌, ◌==◌, ◌&&◌, Bool, if◌then◌else◌, List, [], ◌∷◌, ◌++◌, length, Option, Some, None, false, refl, sym, ap, ◌∙◌, arith}
use Rattle.std.specs.List.{flat_map}
use Rattle.std.specs.FinMap as map
use Rattle.cfg_base.specs.declared.path.Step.{Step}
use Rattle.cfg_base.specs.declared.value.Value.{Value}
use Rattle.cfg_entries.specs.EntryMap.{Pair}
use Rattle.cfg_schema.specs.declared.place.Place.{Place}
use Rattle.cfg_schema.specs.Profile.{row_of, rows_below, is_step_of}
use Rattle.cfg_schema.specs.Place.{place_of}
use Rattle.cfg_tree.specs.Statements.{Statements, last_of, size_of}
use Rattle.cfg_tree.specs.Children.{children_of}
use Rattle.printing_order.specs.Inside.{statements_inside}
use Rattle.printing_order.proofs.RowsLemmas as rows
use Rattle.curly_print.specs.Printed.{statement_text, text_below}
use Rattle.curly_print.specs.Printing.{child_text, own_if_of_row, own_row, own_text}

-- no level is left
pub no_levels : (levels : ℕ) (m : Statements) (path : List Step) (indent : ℕ) → levels ≡ 0 → text_below levels m path indent ≡ []
unfolding text_below
no_levels zero m path indent e = refl
no_levels (suc levels) m path indent e = absurd (omega (arith, e))

-- nothing is printed below a path that follows no rows
pub no_place : (levels : ℕ) (m : Statements) (path : List Step) (indent : ℕ) → place_of path ≡ None → text_below levels m path indent ≡ []
unfolding text_below
no_place zero m path indent e = refl
no_place (suc levels) m path indent e = rows.no_children m path (child_text levels m path indent) e

-- nothing is printed below a path with no statement inside it
pub none_inside : (levels : ℕ) (m : Statements) (path : List Step) (indent : ℕ) → statements_inside m path ≡ [] → text_below levels m path indent ≡ []
unfolding text_below
none_inside zero m path indent none = refl
none_inside (suc levels) m path indent none =
    rows.none_made m path (child_text levels m path indent)
    (λ s gone. ap (λ (o : Option Value). statement_text indent s o (text_below levels m (path ++ s ∷ []) (indent + 4))) gone) none (children_of m path)

-- nothing is printed of a tree without statements
pub no_statements : (levels : ℕ) (m : Statements) (path : List Step) (indent : ℕ) → size_of m ≡ 0 → text_below levels m path indent ≡ []
no_statements levels m path indent none = none_inside levels m path indent (rows.none_of_none m path none)

-- the statements below a path are printed row by row
pub by_rows : (levels : ℕ) (m : Statements) (path : List Step) (indent : ℕ) (here : Place) → 0 < levels → place_of path ≡ Some here
    → text_below levels m path indent ≡ flat_map (own_row (levels - 1) m path indent) (rows_below here.row here.in_group)
unfolding text_below
by_rows zero m path indent here h e = absurd (omega (arith, h))
by_rows (suc levels) m path indent here h e =
    rows.by_rows m path (child_text levels m path indent) here e
    ∙ ap (λ (n : ℕ). flat_map (own_row n m path indent) (rows_below here.row here.in_group)) back
  where
    back : levels ≡ suc levels - 1
    back = omega arith

-- the statements of a row are what it prints, where it has no order
pub row_unordered : (levels : ℕ) (m : Statements) (path : List Step) (indent id : ℕ) (inside : List (Pair Value)) → inside ≡ statements_inside m path
    → (row_of id).ordered ≡ false
    → flat_map (own_if_of_row id (length path + 1) levels m indent) inside ≡ own_row levels m path indent id
row_unordered levels m path indent id inside e unordered =
    rows.row_unordered m path (child_text levels m path indent) (own_text levels m indent)
    (λ x at found.
    ap (λ (o : Option Value). statement_text indent (last_of x.0) o (text_below levels m x.0 (indent + 4))) (sym found)
    ∙ ap (λ (k : List Step). statement_text indent (last_of x.0) (map.get m k) (text_below levels m k (indent + 4))) at)
    id inside e unordered

-- nothing is printed by a row of a statement of another length
pub no_child : (id count levels : ℕ) (m : Statements) (indent : ℕ) (e : Pair Value) → (length e.0 == count) ≡ false → own_if_of_row id count levels m indent e ≡ []
no_child id count levels m indent e other =
    ap (λ (b : Bool). if b && is_step_of id (last_of e.0) then own_text levels m indent e else []) other
