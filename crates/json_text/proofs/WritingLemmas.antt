-- What the parts of the writer make together.
use Rattle.std.proofs.Common.{◌≡◌, ℕ, zero, suc, ◌+◌, ◌-◌, ◌<◌, ◌≤◌, ◌==◌, ◌&&◌, drop, Bool, true, false, List, [], ◌∷◌, ◌++◌, length, get_or, filter, flat_map, take, append_assoc, append-nil, Option, Some, None, refl, sym, ap, subst, ◌∙◌, arith, Result, Ok, Err, OnOk, if◌then◌else◌}
use Rattle.std.specs.FinMap as map
use Rattle.std.specs.List.{AllByRecursion}
use Rattle.cfg_base.specs.declared.path.Step.{Step}
use Rattle.cfg_base.specs.declared.value.Value.{Value}
use Rattle.cfg_entries.specs.EntryMap as entry
use Rattle.cfg_schema.specs.declared.place.Place.{Place}
use Rattle.cfg_schema.specs.Profile.{row_of, is_named, is_step_of, rows_below}
use Rattle.cfg_schema.specs.Place.{place_of}
use Rattle.cfg_tree.specs.Statements.{Statements, last_of, size_of}
use Rattle.printing_order.specs.Inside.{front_inside, statements_inside}
use Rattle.printing_order.proofs.EntriesLemmas.{found_all}
use Rattle.printing_order.proofs.PassLemmas.{past_within}
use Rattle.printing_order.proofs.RowsLemmas as rows
use Rattle.serde_json.specs.Data.{Data, Members, put}
use Rattle.json_text.proofs.RowLemmas.{plain_unordered}
use Rattle.json_text.specs.Keys.{key_of}
use Rattle.json_text.specs.Written.{Pair, put_all, listed, object_if, alone_if, child_object, child_alone, steps_of_row, pairs_by, pairs_of_row, pairs_at, pairs_below}
use Rattle.json_text.specs.Writing.{IsIn, object_if_of_row, own_object, row_objects, own_alone, alone_if_of_row, own_row, named_child}

-- members that are put in two parts
pub put_all-append : (ms : Members) (ps qs : List Pair) → put_all ms (ps ++ qs) ≡ put_all (put_all ms ps) qs
put_all-append ms [] qs = refl
put_all-append ms (p ∷ ps) qs = put_all-append (put p.0 p.1 ms) ps qs

-- nothing more is put
pub put_nothing : (ms : Members) (ps : List Pair) → ps ≡ [] → ms ≡ put_all ms ps
put_nothing ms ps none = ap (λ (qs : List Pair). put_all ms qs) (sym none)

-- the same is put in other words
pub put_same : {T E : Type 0} (answer : Result T E) (ms new : Members) (said more : List Pair) → OnOk answer (new ≡ put_all ms said) → said ≡ more
    → OnOk answer (new ≡ put_all ms more)
put_same (Ok done) ms new said more done_so e = done_so ∙ ap (λ (ps : List Pair). put_all ms ps) e
put_same (Err fault) ms new said more done_so e = tt

-- one more part is put
more_taken : {X : Type 0} (f : X → List Pair) (xs : List X) (at : ℕ) (x : X) → at < length xs → x ≡ get_or xs at x
    → flat_map f (take (suc at) xs) ≡ flat_map f (take at xs) ++ f x
more_taken f [] at x within is = absurd (omega (arith, within))
more_taken f (y ∷ ys) zero x within is = append-nil (f y) ∙ ap f (sym is)
more_taken f (y ∷ ys) (suc at) x within is =
    ap (λ (ps : List Pair). f y ++ ps) (more_taken f ys at x (omega (arith, within)) is) ∙ sym (append_assoc (f y) (flat_map f (take at ys)) (f x))

pub put_more : {X : Type 0} (f : X → List Pair) (ms now new : Members) (xs : List X) (at : ℕ) (x : X) → now ≡ put_all ms (flat_map f (take at xs))
    → new ≡ put_all now (f x) → at < length xs → x ≡ get_or xs at x → new ≡ put_all ms (flat_map f (take (at + 1) xs))
put_more f ms now new xs at x before put_so within is =
    put_so
    ∙ ap (λ (k : Members). put_all k (f x)) before
    ∙ sym (put_all-append ms (flat_map f (take at xs)) (f x))
    ∙ ap (λ (ps : List Pair). put_all ms ps) (sym (more_taken f xs at x within is))
    ∙ ap (λ (n : ℕ). put_all ms (flat_map f (take n xs))) next
  where
    next : suc at ≡ at + 1
    next = omega arith

-- members that are put of a statement are put up to what follows all that stands in it
pub put_past : (f : entry.Pair Value → List Pair) (count : ℕ) → ((x : entry.Pair Value) → (length x.0 == count) ≡ false → f x ≡ [])
    → (ms now new : Members) (inside behind within : List (entry.Pair Value)) (at : ℕ) (e : entry.Pair Value) → now ≡ put_all ms (flat_map f (take at inside))
    → new ≡ put_all now (f e) → at < length inside → e ≡ get_or inside at e → behind ≡ drop (at + 1) inside → within ≡ front_inside e.0 behind
    → count ≤ length e.0 → new ≡ put_all ms (flat_map f (take (at + (1 + length within)) inside))
put_past f count nothing ms now new inside behind within at e before put_so below is rest are deep =
    put_so
    ∙ ap (λ (k : Members). put_all k (f e)) before
    ∙ sym (put_all-append ms (flat_map f (take at inside)) (f e))
    ∙ ap (λ (ps : List Pair). put_all ms ps)
    (past_within f count nothing [] (flat_map f (take at inside)) (flat_map f (take at inside) ++ f e) inside behind within at e refl refl below is rest are deep)

-- nothing is made by a row of a statement of another length
pub no_object : (id count levels : ℕ) (m : Statements) (e : entry.Pair Value) → (length e.0 == count) ≡ false → object_if_of_row id count levels m e ≡ []
no_object id count levels m e other =
    ap (λ (b : Bool). if b && is_step_of id (last_of e.0) then own_object levels m e else []) other

pub no_alone : (id count levels : ℕ) (m : Statements) (e : entry.Pair Value) → (length e.0 == count) ≡ false → alone_if_of_row id count levels m e ≡ []
no_alone id count levels m e other =
    ap (λ (b : Bool). if b && is_step_of id (last_of e.0) then own_alone id levels m e else []) other

-- no level is left
pub no_levels : (levels : ℕ) (m : Statements) (path : List Step) → levels ≡ 0 → pairs_below levels m path ≡ []
unfolding pairs_below
no_levels zero m path e = refl
no_levels (suc levels) m path e = absurd (omega (arith, e))

-- nothing is written below a path that follows no rows
pub no_place : (levels : ℕ) (m : Statements) (path : List Step) → place_of path ≡ None → pairs_below levels m path ≡ []
unfolding pairs_below
no_place zero m path e = refl
no_place (suc levels) m path e = ap (λ (o : Option Place). pairs_at m path (pairs_below levels m) o) e

-- nothing is written below a path with no statement inside it
module _ (m : Statements) (path : List Step) (below : List Step → List Pair) (none : statements_inside m path ≡ []) where
  no_row : (named : Bool) (id : ℕ) (steps : List Step) → pairs_by m path below named id steps ≡ []
  no_row true id steps =
      ap (λ (ds : List Data). listed (key_of id) ds)
      (rows.none_made m path (child_object m path below) (λ s gone. ap (λ (o : Option Value). object_if s o (below (path ++ s ∷ []))) gone) none steps)
  no_row false id steps =
      rows.none_made m path (child_alone m path below id)
      (λ s gone. ap (λ (o : Option Value). alone_if (row_of id).shape (key_of id) s o (below (path ++ s ∷ []))) gone) none steps

  no_rows : (ids : List ℕ) → flat_map (pairs_of_row m path below) ids ≡ []
  no_rows [] = refl
  no_rows (id ∷ ids) = ap (λ (ps : List Pair). ps ++ flat_map (pairs_of_row m path below) ids) (no_row (is_named (row_of id).shape) id (steps_of_row m path below id)) ∙ no_rows ids

  no_pairs : (o : Option Place) → pairs_at m path below o ≡ []
  no_pairs None = refl
  no_pairs (Some here) = no_rows (rows_below here.row here.in_group)

pub none_inside : (levels : ℕ) (m : Statements) (path : List Step) → statements_inside m path ≡ [] → pairs_below levels m path ≡ []
unfolding pairs_below
none_inside zero m path none = refl
none_inside (suc levels) m path none = no_pairs m path (pairs_below levels m) none (place_of path)

-- nothing is written of a tree without statements
pub no_statements : (levels : ℕ) (m : Statements) (path : List Step) → size_of m ≡ 0 → pairs_below levels m path ≡ []
no_statements levels m path none = none_inside levels m path (rows.none_of_none m path none)

-- the statements below a path are written row by row
pub by_rows : (levels : ℕ) (m : Statements) (path : List Step) (here : Place) → 0 < levels → place_of path ≡ Some here
    → pairs_below levels m path ≡ flat_map (own_row (levels - 1) m path) (rows_below here.row here.in_group)
unfolding pairs_below
by_rows zero m path here h e = absurd (omega (arith, h))
by_rows (suc levels) m path here h e =
    ap (λ (o : Option Place). pairs_at m path (pairs_below levels m) o) e
    ∙ ap (λ (n : ℕ). flat_map (own_row n m path) (rows_below here.row here.in_group)) back
  where
    back : levels ≡ suc levels - 1
    back = omega arith

-- of the statements inside a path the objects of a row without an order
pub objects_unordered : (levels : ℕ) (m : Statements) (path : List Step) (id : ℕ) (inside : List (entry.Pair Value)) → inside ≡ statements_inside m path
    → (row_of id).ordered ≡ false
    → flat_map (object_if_of_row id (length path + 1) levels m) inside ≡ row_objects levels m path id
objects_unordered levels m path id inside e unordered =
    rows.row_unordered m path (named_child levels m path) (own_object levels m)
    (λ x at found.
    ap (λ (o : Option Value). object_if (last_of x.0) o (pairs_below levels m x.0)) (sym found)
    ∙ ap (λ (k : List Step). object_if (last_of x.0) (map.get m k) (pairs_below levels m k)) at)
    id inside e unordered

-- of the statements inside a path those of a row without names
pub single_row : (levels : ℕ) (m : Statements) (path : List Step) (id : ℕ) (inside : List (entry.Pair Value)) → inside ≡ statements_inside m path
    → is_named (row_of id).shape ≡ false
    → flat_map (alone_if_of_row id (length path + 1) levels m) inside ≡ own_row levels m path id
single_row levels m path id inside e plain =
    rows.row_unordered m path (child_alone m path (pairs_below levels m) id) (own_alone id levels m)
    (λ x at found.
    ap (λ (o : Option Value). alone_if (row_of id).shape (key_of id) (last_of x.0) o (pairs_below levels m x.0)) (sym found)
    ∙ ap (λ (k : List Step). alone_if (row_of id).shape (key_of id) (last_of x.0) (map.get m k) (pairs_below levels m k)) at)
    id inside e (plain_unordered id plain)
    ∙ ap (λ (b : Bool). pairs_by m path (pairs_below levels m) b id (steps_of_row m path (pairs_below levels m) id)) (sym plain)

-- each statement inside a path is one of the tree
abbrev AllIn : Statements → List (entry.Pair Value) → Type 0
AllIn m es = AllByRecursion (IsIn m) es

kept_in : (m : Statements) (p : entry.Pair Value → Bool) (es : List (entry.Pair Value)) → AllIn m es → AllIn m (filter p es)
kept_in m p [] a = tt
kept_in m p (e ∷ es) a = by_test (p e) (kept_in m p es a.1)
  where
    by_test : (b : Bool) → AllIn m (filter p es) → AllIn m (if b then e ∷ filter p es else filter p es)
    by_test true go = (a.0, go)
    by_test false go = go

in_at : (m : Statements) (es : List (entry.Pair Value)) (at : ℕ) (e d : entry.Pair Value) → AllIn m es → at < length es → e ≡ get_or es at d → IsIn m e
in_at m [] at e d a below is = absurd (omega (arith, below))
in_at m (x ∷ es) zero e d a below is = subst (λ (y : entry.Pair Value). IsIn m y) (sym is) a.0
in_at m (x ∷ es) (suc at) e d a below is = in_at m es at e d a.1 (omega (arith, below)) is

pub inside_in : (m : Statements) (path : List Step) (inside : List (entry.Pair Value)) (at : ℕ) (e : entry.Pair Value) → inside ≡ statements_inside m path
    → at < length inside → e ≡ get_or inside at e → IsIn m e
inside_in m path inside at e are within is =
    in_at m inside at e e (subst (λ (es : List (entry.Pair Value)). AllIn m es) (sym are) (kept_in m _ (map.entries m) (found_all m))) within is
