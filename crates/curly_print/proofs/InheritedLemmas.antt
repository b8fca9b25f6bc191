-- What the parts of the printer of expansions make together.
use Rattle.std.proofs.Common.{◌≡◌, ℕ, zero, suc, ◌+◌, ◌-◌, ◌<◌, ◌==◌, Bool, true, false, cond, List, [], ◌∷◌, ◌++◌, length, filter, map, Option, Some, None, refl, sym, ap, ◌∙◌, arith, if◌then◌else◌}
use Rattle.std.specs.List.{flat_map, AllByRecursion}
use Rattle.std.specs.FinMap as finite
use Rattle.std.specs.Map.{keys_of}
use Rattle.cfg_base.specs.declared.path.Step.{Step}
use Rattle.cfg_schema.specs.declared.place.Place.{Place}
use Rattle.cfg_schema.specs.Profile.{profile, row_of, head_of, rows_below, is_level, is_step_of}
use Rattle.cfg_schema.specs.Place.{place_of}
use Rattle.cfg_tree.specs.declared.full.Given.{Given}
use Rattle.cfg_tree.specs.Statements.{last_of}
use Rattle.cfg_tree.specs.Children.{is_child, row_steps}
use Rattle.cfg_tree.specs.Full.{Expansion}
use Rattle.cfg_tree.specs.Tree.{step_of}
use Rattle.curly_print.specs.Inherited.{given_below, given_children, given_children_at, given_order, given_steps, given_text, note_lines, note_of, noted_word}
use Rattle.curly_print.specs.Inheriting.{FullEntry, entry_text, given_child_text, given_entries, row_entries_text, row_text}
use Rattle.printing_order.proofs.EntriesLemmas.{child_is, found_all, none_given, right_below}
use Rattle.printing_order.proofs.PutLemmas.{rows_flat}

-- the note where there is a group
pub noted : (indent : ℕ) (step : Step) (group : List ℕ) → (length group == 0) ≡ false
    → note_of indent step group ≡ note_lines indent (noted_word step) group
noted indent step [] e = cc
noted indent step (byte ∷ group) e = refl

-- no level is left
pub no_levels : (levels : ℕ) (full : Expansion) (path : List Step) (indent : ℕ) → levels ≡ 0 → given_below levels full path indent ≡ []
unfolding given_below
no_levels zero full path indent e = refl
no_levels (suc levels) full path indent e = absurd (omega (arith, e))

-- nothing is printed below a path that follows no rows
pub no_place : (levels : ℕ) (full : Expansion) (path : List Step) (indent : ℕ) → place_of path ≡ None → given_below levels full path indent ≡ []
unfolding given_below
no_place zero full path indent e = refl
no_place (suc levels) full path indent e =
    ap (λ (here : Option Place). flat_map (given_child_text levels full path indent) (given_children_at full path here)) e

-- nothing is printed below a path that has no entry right below it
pub no_entries : (levels : ℕ) (full : Expansion) (path : List Step) (indent : ℕ) → given_entries full path ≡ [] → given_below levels full path indent ≡ []
unfolding given_below
no_entries zero full path indent none = refl
no_entries (suc levels) full path indent none = all_none (given_children full path)
  where
    all_none : (steps : List Step) → flat_map (given_child_text levels full path indent) steps ≡ []
    all_none [] = refl
    all_none (s ∷ steps) =
        ap
        (λ (o : Option Given). given_text indent s o (given_below levels full (path ++ s ∷ []) (indent + 4)) ++ flat_map (given_child_text levels full path indent) steps)
        (none_given full path (is_child path) s (right_below path s) none)
        ∙ all_none steps

-- what is given below a path is printed row by row
pub by_rows : (levels : ℕ) (full : Expansion) (path : List Step) (indent : ℕ) (here : Place) → 0 < levels → place_of path ≡ Some here
    → given_below levels full path indent ≡ flat_map (row_text (levels - 1) full path indent) (rows_below here.row here.in_group)
unfolding given_below
by_rows zero full path indent here h e = absurd (omega (arith, h))
by_rows (suc levels) full path indent here h e =
    ap (λ (o : Option Place). flat_map (given_child_text levels full path indent) (given_children_at full path o)) e
    ∙ rows_flat (given_child_text levels full path indent) (λ id. row_steps id (given_order (finite.get full path)) (given_steps full path)) (rows_below here.row here.in_group)
    ∙ ap (λ (n : ℕ). flat_map (row_text n full path indent) (rows_below here.row here.in_group)) back
  where
    back : levels ≡ suc levels - 1
    back = omega arith

module _ (levels : ℕ) (full : Expansion) (path : List Step) (indent : ℕ) where
  -- of an entry right below the path is printed what its step asks
  entry_child : (e : FullEntry) → is_child path e.0 ≡ true → finite.get full e.0 ≡ Some e.1
      → entry_text levels full indent e ≡ given_child_text levels full path indent (last_of e.0)
  entry_child e child found =
      ap (λ (o : Option Given). given_text indent (last_of e.0) o (given_below levels full e.0 (indent + 4))) (sym found)
      ∙ ap (λ (k : List Step). given_text indent (last_of e.0) (finite.get full k) (given_below levels full k (indent + 4))) (child_is path e.0 child)

  -- the steps right below the path that are of a row, among entries
  abbrev steps_with : ℕ → List (List Step) → List Step
  steps_with id ks = filter (is_step_of id) (map last_of ks)

  entries_in : (id : ℕ) (es : List FullEntry) → AllByRecursion (λ x. finite.get full x.0 ≡ Some x.1) es
      → row_entries_text id levels full indent (filter (λ e. is_child path e.0) es)
      ≡ flat_map (given_child_text levels full path indent) (steps_with id (filter (is_child path) (keys_of es)))
  entries_in id [] found = refl
  entries_in id (e ∷ es) found =
      by_tests (filter (λ x. is_child path x.0) es) (filter (is_child path) (keys_of es)) (is_child path e.0) (is_step_of id (last_of e.0)) refl refl
      (entries_in id es found.1)
    where
      by_tests : (xs : List FullEntry) (ks : List (List Step)) (c h : Bool) → is_child path e.0 ≡ c → is_step_of id (last_of e.0) ≡ h
          → row_entries_text id levels full indent xs ≡ flat_map (given_child_text levels full path indent) (steps_with id ks)
          → row_entries_text id levels full indent (cond c (e ∷ xs) xs)
          ≡ flat_map (given_child_text levels full path indent) (steps_with id (cond c (e.0 ∷ ks) ks))
      by_tests xs ks true true child same go =
          ap (λ (b : Bool). (if b then entry_text levels full indent e else []) ++ row_entries_text id levels full indent xs) same
          ∙ ap (λ (t : List ℕ). t ++ row_entries_text id levels full indent xs) (entry_child e child found.0)
          ∙ ap (λ (t : List ℕ). given_child_text levels full path indent (last_of e.0) ++ t) go
          ∙ ap (λ (b : Bool). flat_map (given_child_text levels full path indent) (cond b (last_of e.0 ∷ steps_with id ks) (steps_with id ks))) (sym same)
      by_tests xs ks true false child same go =
          ap (λ (b : Bool). (if b then entry_text levels full indent e else []) ++ row_entries_text id levels full indent xs) same
          ∙ go
          ∙ ap (λ (b : Bool). flat_map (given_child_text levels full path indent) (cond b (last_of e.0 ∷ steps_with id ks) (steps_with id ks))) (sym same)
      by_tests xs ks false h child same go = go

-- the entries of a row are what it prints, where it has no order
pub row_unordered : (levels : ℕ) (full : Expansion) (path : List Step) (indent id : ℕ) (entries : List FullEntry) → entries ≡ given_entries full path
    → (row_of id).ordered ≡ false → row_entries_text id levels full indent entries ≡ row_text levels full path indent id
row_unordered levels full path indent id entries e unordered =
    ap (row_entries_text id levels full indent) e
    ∙ entries_in levels full path indent id (finite.entries full) (found_all full)
    ∙ ap
    (λ (b : Bool). flat_map (given_child_text levels full path indent)
    (if b then map (step_of (head_of id)) (given_order (finite.get full path)) else filter (is_step_of id) (given_steps full path)))
    (sym unordered)

-- what isn't a level isn't the top
pub not_top : (path : List Step) (here : Place) → place_of path ≡ Some here → is_level (row_of here.row).shape ≡ false → 0 < length path
unfolding profile
not_top [] here e other = let told : true ≡ false = ap level_at e ∙ other in cc
  where
    level_at : Option Place → Bool
    level_at None = true
    level_at (Some there) = is_level (row_of there.row).shape
not_top (step ∷ path) here e other = omega arith
