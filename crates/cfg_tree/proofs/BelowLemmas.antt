-- Paths below a path: they are its steps and more, and in the order of paths they stand together.
use Rattle.std.proofs.Common.{◌≡◌, Bool, true, false, cond, ◌&&◌, List, [], ◌∷◌, ◌++◌, filter, refl, append-nil, sym, ap, ◌∙◌}
use Rattle.std.specs.declared.cmp.Ordering.TheVariants.{Less}
use Rattle.std.specs.Ordering.{eq_by_cmp, is_le}
use Rattle.cfg_schema.proofs.TestLemmas.{both, both_true, second_false}
use Rattle.cfg_tree.proofs.MapLemmas.{same_step}
use Rattle.std.specs.List.{AllByRecursion}
use Rattle.std.specs.List.Sorted.{IsStrictlySortedBy}
use Rattle.std.specs.Map.{keys_of}
use Rattle.std.proofs.lemmas.Map.Keys.{sorted_head, sorted_tail}
use Rattle.cfg_base.specs.Order.{path_cmp, step_cmp}
use Rattle.cfg_base.specs.declared.path.Step.{Step}
pub use Rattle.cfg_entries.proofs.BelowLemmas.{below_le, below_between}
use Rattle.cfg_tree.specs.Statements.{is_below}

-- the elements from the front on that pass
abbrev pub front_of : {X : Type 0} → (X → Bool) → List X → List X
front_of p [] = []
front_of p (x ∷ xs) = cond (p x) (x ∷ front_of p xs) []

-- whether a path isn't before another one
abbrev from_here : List Step → List Step → Bool
from_here p k = is_le (path_cmp p k)

skipped : {X : Type 0} (c : Bool) (j : X) (ks : List X) → c ≡ false → ks ≡ [] → cond c (j ∷ ks) ks ≡ []
skipped true j ks e f = cc
skipped false j ks e f = f

not_below : (p k j : List Step) (c : Bool) → is_below p j ≡ c → is_le (path_cmp p k) ≡ true → is_below p k ≡ false → path_cmp k j ≡ Less → c ≡ false
not_below p k j true e a b h = let d = below_between p k j a h e in cc
not_below p k j false e a b h = refl

pub none_later : (p k : List Step) (ks : List (List Step)) → is_le (path_cmp p k) ≡ true → is_below p k ≡ false
    → AllByRecursion (λ j. path_cmp k j ≡ Less) ks → filter (is_below p) ks ≡ []
none_later p k [] a b h = refl
none_later p k (j ∷ ks) a b h = skipped (is_below p j) j (filter (is_below p) ks) (not_below p k j _ refl a b h.0) (none_later p k ks a b h.1)

front_by : (p k : List Step) (rest kept : List (List Step)) (t b : Bool) → from_here p k ≡ t → is_below p k ≡ b
    → front_of (is_below p) rest ≡ kept → (t ≡ true → b ≡ false → kept ≡ [])
    → front_of (is_below p) (cond t (k ∷ rest) rest) ≡ cond b (k ∷ kept) kept
front_by p k rest kept true true e f h g = ap (λ (c : Bool). cond c (k ∷ front_of (is_below p) rest) []) f ∙ ap (λ (xs : List (List Step)). k ∷ xs) h
front_by p k rest kept true false e f h g = ap (λ (c : Bool). cond c (k ∷ front_of (is_below p) rest) []) f ∙ sym (g refl refl)
front_by p k rest kept false true e f h g = let d = below_le p k f in cc
front_by p k rest kept false false e f h g = h

-- of paths in order, those below a path stand together from it on
front_is : (p : List Step) (ks : List (List Step)) → IsStrictlySortedBy path_cmp ks
    → front_of (is_below p) (filter (from_here p) ks) ≡ filter (is_below p) ks
front_is p [] sorted = refl
front_is p (k ∷ ks) sorted =
    front_by p k (filter (from_here p) ks) (filter (is_below p) ks) _ _ refl refl (front_is p ks (sorted_tail path_cmp k ks sorted))
    (λ e f. none_later p k ks e f (sorted_head path_cmp k ks sorted))

keys_cond : {X : Type 0} (c : Bool) (e : List Step × X) (es : List (List Step × X)) (ks : List (List Step)) → keys_of es ≡ ks
    → keys_of (cond c (e ∷ es) es) ≡ cond c (e.0 ∷ ks) ks
keys_cond true e es ks h = ap (λ (xs : List (List Step)). e.0 ∷ xs) h
keys_cond false e es ks h = h

pub keys_filter : {X : Type 0} (t : List Step → Bool) (es : List (List Step × X)) → keys_of (filter (λ e. t e.0) es) ≡ filter t (keys_of es)
keys_filter t [] = refl
keys_filter t (e ∷ es) = keys_cond (t e.0) e (filter (λ x. t x.0) es) _ (keys_filter t es)

-- the paths that are found from a path on, up to the first that isn't below it, are all that are below it
pub found_below : {X : Type 0} (p : List Step) (es start : List (List Step × X)) → IsStrictlySortedBy path_cmp (keys_of es)
    → start ≡ filter (λ e. from_here p e.0) es → front_of (is_below p) (keys_of start) ≡ filter (is_below p) (keys_of es)
found_below {X = X} p es start sorted e =
    ap (λ (xs : List (List Step × X)). front_of (is_below p) (keys_of xs)) e
    ∙ ap (λ (ks : List (List Step)). front_of (is_below p) ks) (keys_filter (from_here p) es)
    ∙ front_is p (keys_of es) sorted

-- what is found so far is all, where nothing is left or the next one isn't below
pub found_end : {X : Type 0} (p : List Step) (so_far all : List (List Step)) (left : List (List Step × X)) → left ≡ []
    → so_far ++ front_of (is_below p) (keys_of left) ≡ all → so_far ≡ all
found_end {X = X} p so_far all left none e =
    sym (append-nil so_far) ∙ ap (λ (xs : List (List Step × X)). so_far ++ front_of (is_below p) (keys_of xs)) (sym none) ∙ e

pub found_other : {X : Type 0} (p k : List Step) (v : X) (so_far all : List (List Step)) (left rest : List (List Step × X))
    → left ≡ (k, v) ∷ rest → false ≡ is_below p k
    → so_far ++ front_of (is_below p) (keys_of left) ≡ all → so_far ≡ all
found_other {X = X} p k v so_far all left rest next f e =
    sym (append-nil so_far)
    ∙ ap (λ (c : Bool). so_far ++ cond c (k ∷ front_of (is_below p) (keys_of rest)) []) f
    ∙ ap (λ (xs : List (List Step × X)). so_far ++ front_of (is_below p) (keys_of xs)) (sym next)
    ∙ e

-- a child of what is below a path is below it
pub below_more : (p q : List Step) (s : Step) → is_below p q ≡ true → is_below p (q ++ s ∷ []) ≡ true
below_more [] q s h = refl
below_more (x ∷ p) [] s h = cc
below_more (x ∷ p) (y ∷ q) s h =
    let parts = both (eq_by_cmp step_cmp x y) _ h in both_true _ _ parts.0 (below_more p q s parts.1)

pub below_top : (p : List Step) → is_below p [] ≡ true → p ≡ []
below_top [] h = refl
below_top (x ∷ p) h = cc

-- what is below a path, and its parent isn't, is the path
pub below_first : (p q : List Step) (s : Step) → is_below p (q ++ s ∷ []) ≡ true → is_below p q ≡ false → p ≡ q ++ s ∷ []
below_first [] q s h k = cc
below_first (x ∷ p) [] s h k =
    let parts = both (eq_by_cmp step_cmp x s) _ h
    in let none = below_top p parts.1
    in ap (λ (t : Step). t ∷ p) ((same_step x s).0 parts.0) ∙ ap (λ (ts : List Step). s ∷ ts) none
below_first (x ∷ p) (y ∷ q) s h k =
    let parts = both (eq_by_cmp step_cmp x y) _ h
    in let rest = below_first p q s parts.1 (second_false _ _ k parts.0)
    in ap (λ (t : Step). t ∷ p) ((same_step x y).0 parts.0) ∙ ap (λ (ts : List Step). y ∷ ts) rest

-- a path is at itself
pub below_self : (p : List Step) → is_below p p ≡ true
below_self [] = refl
below_self (x ∷ p) = both_true _ _ ((same_step x x).1 refl) (below_self p)

-- its parent isn't below it
pub parent_apart : (q : List Step) (s : Step) → is_below (q ++ s ∷ []) q ≡ false
parent_apart [] s = refl
parent_apart (y ∷ q) s = and_false _ _ (parent_apart q s)
  where
    and_false : (a b : Bool) → b ≡ false → (a && b) ≡ false
    and_false true b h = h
    and_false false b h = refl
