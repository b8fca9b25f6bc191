-- The root of a path: it is at the path or above it, and a change below it changes nothing of the expansion beside it.
use Rattle.std.proofs.Common.{◌≡◌, ℕ, Bool, true, false, not, cond, List, [], ◌∷◌, ◌++◌, map, refl, sym, ap, subst, ◌∙◌, Option, Some, None, is_some, option_map}
use Rattle.std.specs.Prelude.{◌&&◌, ◌||◌}
use Rattle.std.specs.List.{list_all, AllByRecursion}
use Rattle.std.specs.Ordering.{eq_by_cmp}
use Rattle.cfg_base.specs.Order.{step_cmp}
use Rattle.cfg_base.specs.declared.path.Step.{Step}
use Rattle.cfg_schema.specs.declared.place.Place.{Place}
use Rattle.cfg_schema.specs.Place.{top_place, and_then, place_from, ordered_row, place_of}
use Rattle.cfg_schema.specs.Profile.{head_of}
use Rattle.cfg_schema.proofs.TestLemmas.{both, both_true}
use Rattle.cfg_tree.specs.Statements.{Statements, is_below}
use Rattle.cfg_tree.specs.Full.{Expansion}
use Rattle.cfg_tree.specs.Tree.{ordered_head}
use Rattle.cfg_tree.proofs.MapLemmas.{same_step}
use Rattle.cfg_tree.proofs.BelowLemmas.{below_first}
use Rattle.group_expand.specs.Sources.{groups_step, same_step as alike, apply_step, except_step}
use Rattle.group_expand.specs.Runs.{is_apply_step}
use Rattle.group_expand.proofs.RowLemmas.{below_trans}
use Rattle.kept_expansion.specs.Changes.{is_reached, IsBehind}
use Rattle.kept_expansion.specs.Roots.{has_ordered, place_below, root_from, root_of, is_local, IsRoot}

-- it is at the path or above it
root_above : (here : Option Place) (path : List Step) → is_below (root_from here path) path ≡ true
root_above here [] = refl
root_above here (s ∷ rest) = by_test (is_apply_step s || has_ordered here) (root_above (place_below here s) rest)
  where
    by_test : (b : Bool) → is_below (root_from (place_below here s) rest) rest ≡ true → is_below (cond b [] (s ∷ root_from (place_below here s) rest)) (s ∷ rest) ≡ true
    by_test true go = refl
    by_test false go = both_true _ _ ((same_step s s).1 refl) go

pub below_root : (path q : List Step) → is_below path q ≡ true → is_below (root_of path) q ≡ true
below_root path q h = below_trans (root_of path) path q (root_above (Some top_place) path) h

-- none of its steps applies or excepts groups
no_apply : (here : Option Place) (path : List Step) → list_all (λ s. not (is_apply_step s)) (root_from here path) ≡ true
no_apply here [] = refl
no_apply here (s ∷ rest) = by_test (is_apply_step s) (has_ordered here) refl (no_apply (place_below here s) rest)
  where
    by_test : (a b : Bool) → is_apply_step s ≡ a → list_all (λ t. not (is_apply_step t)) (root_from (place_below here s) rest) ≡ true
        → list_all (λ t. not (is_apply_step t)) (cond (a || b) [] (s ∷ root_from (place_below here s) rest)) ≡ true
    by_test true b e go = refl
    by_test false true e go = refl
    by_test false false e go = ap (λ (c : Bool). not c && list_all (λ t. not (is_apply_step t)) (root_from (place_below here s) rest)) e ∙ go

last_fails : (t : Step → Bool) (xs : List Step) (s : Step) → t s ≡ false → list_all t (xs ++ s ∷ []) ≡ true → ⊥
last_fails t [] s no_ h = let k = both (t s) true h in let c = sym no_ ∙ k.0 in cc
last_fails t (x ∷ xs) s no_ h = last_fails t xs s no_ (both (t x) _ h).1

-- what stands right below a path is below the root where the path is, if it applies or excepts groups
apart : (root path : List Step) (s : Step) → list_all (λ t. not (is_apply_step t)) root ≡ true → is_apply_step s ≡ true → is_below root (path ++ s ∷ []) ≡ true
    → is_below root path ≡ true
apart root path s none is h = by_test (is_below root path) refl
  where
    by_test : (b : Bool) → is_below root path ≡ b → b ≡ true
    by_test true e = refl
    by_test false e =
        absurd (last_fails (λ t. not (is_apply_step t)) path s (ap not is)
        (ap (list_all (λ t. not (is_apply_step t))) (sym (below_first root path s h e)) ∙ none))

-- above it no order is kept
one_place : (here : Option Place) → and_then (place_from []) here ≡ here
one_place None = refl
one_place (Some h) = refl

next_place : (here : Option Place) (s : Step) (rest : List Step) → and_then (place_from (s ∷ rest)) here ≡ and_then (place_from rest) (place_below here s)
next_place None s rest = refl
next_place (Some h) s rest = refl

second : (a b : Bool) → (a || b) ≡ false → b ≡ false
second true b e = cc
second false b e = e

no_order : (here : Option Place) (path a : List Step) → is_below a (root_from here path) ≡ true → is_below (root_from here path) a ≡ false
    → has_ordered (and_then (place_from a) here) ≡ false
no_order here [] a h k = cc
no_order here (s ∷ rest) a h k = by_test (is_apply_step s || has_ordered here) refl (no_order (place_below here s) rest) a h k
  where
    by_test : (b : Bool) → (is_apply_step s || has_ordered here) ≡ b
        → ((a : List Step) → is_below a (root_from (place_below here s) rest) ≡ true → is_below (root_from (place_below here s) rest) a ≡ false
        → has_ordered (and_then (place_from a) (place_below here s)) ≡ false)
        → (a : List Step)
        → is_below a (cond b [] (s ∷ root_from (place_below here s) rest)) ≡ true → is_below (cond b [] (s ∷ root_from (place_below here s) rest)) a ≡ false
        → has_ordered (and_then (place_from a) here) ≡ false
    by_test true e go a h k = cc
    by_test false e go [] h k = ap has_ordered (one_place here) ∙ second _ _ e
    by_test false e go (x ∷ a) h k =
        let parts = both (eq_by_cmp step_cmp x s) _ h
        in let is : x ≡ s = (same_step x s).0 parts.0
        in let more : is_below (root_from (place_below here s) rest) a ≡ false
        = ap (λ (c : Bool). c && is_below (root_from (place_below here s) rest) a) (sym ((same_step s x).1 (sym is))) ∙ k
        in ap has_ordered (next_place here x a ∙ ap (λ (t : Step). and_then (place_from a) (place_below here t)) is)
        ∙ go a parts.1 more

unordered : (here : Option Place) → has_ordered here ≡ false → ordered_head here ≡ None
unordered None e = refl
unordered (Some h) e = none (ordered_row h) e
  where
    none : (o : Option ℕ) → is_some o ≡ false → option_map head_of o ≡ None
    none None e = refl
    none (Some n) e = cc

-- a local path isn't at or below `groups`
groups_apart : (root rest : List Step) → is_local root ≡ true → is_below root (groups_step ∷ rest) ≡ false
groups_apart [] rest e = cc
groups_apart (s ∷ root) rest e = by_test (eq_by_cmp step_cmp s groups_step) refl
  where
    by_test : (b : Bool) → eq_by_cmp step_cmp s groups_step ≡ b → (b && is_below root rest) ≡ false
    by_test false f = refl
    by_test true f =
        let is : s ≡ groups_step = (same_step s groups_step).0 f
        in let c = sym e ∙ ap (λ (t : Step). not (alike groups_step t)) is in cc

top_apart : (root : List Step) → is_local root ≡ true → is_below root [] ≡ false
top_apart [] e = cc
top_apart (s ∷ root) e = refl

pub root_is : (path : List Step) → is_local (root_of path) ≡ true → IsRoot (root_of path)
root_is path local = record {
  top = top_apart (root_of path) local;
  outside = λ rest. groups_apart (root_of path) rest local;
  applied = λ q h. apart (root_of path) q apply_step (no_apply (Some top_place) path) refl h;
  excepted = λ q h. apart (root_of path) q except_step (no_apply (Some top_place) path) refl h;
  unordered = λ q h k. unordered (place_of q) (no_order (Some top_place) path q h k);
}

all_roots_of : (paths : List (List Step)) → AllByRecursion (λ root. is_local root ≡ true) (map root_of paths) → AllByRecursion IsRoot (map root_of paths)
all_roots_of [] h = tt
all_roots_of (path ∷ paths) h = (root_is path h.0, all_roots_of paths h.1)

-- the roots of some paths, all local, are roots
pub all_roots : (paths roots : List (List Step)) → roots ≡ map root_of paths → AllByRecursion (λ root. is_local root ≡ true) roots → AllByRecursion IsRoot roots
all_roots paths roots e h =
    subst (λ (rs : List (List Step)). AllByRecursion IsRoot rs) (sym e)
    (all_roots_of paths (subst (λ (rs : List (List Step)). AllByRecursion (λ root. is_local root ≡ true) rs) e h))

-- what is reached from a path is reached from its root
reached_from : (paths : List (List Step)) (q : List Step) → is_reached (map root_of paths) q ≡ false → is_reached paths q ≡ false
reached_from [] q h = refl
reached_from (path ∷ paths) q h = by_test (is_below path q) refl (reached_from paths q (second (is_below (root_of path) q) _ h))
  where
    by_test : (b : Bool) → is_below path q ≡ b → is_reached paths q ≡ false → (b || is_reached paths q) ≡ false
    by_test true e go =
        let c = sym (ap (λ (b : Bool). b || is_reached (map root_of paths) q) (below_root path q e)) ∙ h in cc
    by_test false e go = go

pub behind_roots : (full : Expansion) (new : Statements) (paths roots : List (List Step)) → roots ≡ map root_of paths → IsBehind full new paths → IsBehind full new roots
behind_roots full new paths roots e h = (h.0, h.1, λ q apart. h.2 q (reached_from paths q (ap (λ (rs : List (List Step)). is_reached rs q) (sym e) ∙ apart)))
