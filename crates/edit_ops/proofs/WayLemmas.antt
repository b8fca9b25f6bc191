-- Paths on the way to a path: its first steps. They stand before it, and are exactly the paths that it is below.
use Rattle.std.proofs.Common.{◌≡◌, ◌≢◌, ◌⊎◌, inl, inr, ⊎_elim, ℕ, zero, suc, ◌≤◌, Bool, true, false, List, [], ◌∷◌, length, take, refl, sym, ap, subst, ◌∙◌, arith}
use Rattle.std.specs.Ordering.{eq_by_cmp, is_le}
use Rattle.std.specs.declared.cmp.Ordering.{Ordering}
use Rattle.std.specs.declared.cmp.Ordering.TheVariants.{Less, Equal, Greater}
use Rattle.cfg_base.specs.Order.{path_cmp, step_cmp}
use Rattle.cfg_base.specs.declared.path.Step.{Step}
use Rattle.cfg_schema.proofs.TestLemmas.{both, both_true}
use Rattle.cfg_tree.specs.Statements.{is_below}
use Rattle.cfg_tree.proofs.MapLemmas.{path_same, same_step}
use Rattle.cfg_tree.proofs.BelowLemmas.{below_le}
use Rattle.std.proofs.lemmas.List.{take_all}

-- the first steps of a path are on the way to it
pub take_below : (k : ℕ) (path : List Step) → is_below (take k path) path ≡ true
take_below zero [] = refl
take_below zero (x ∷ path) = refl
take_below (suc k) [] = refl
take_below (suc k) (x ∷ path) = both_true _ _ ((same_step x x).1 refl) (take_below k path)

-- and nothing else is
pub below_take : (above path : List Step) → is_below above path ≡ true → above ≡ take (length above) path
below_take [] path h = refl
below_take (x ∷ above) [] h = cc
below_take (x ∷ above) (y ∷ path) h =
    let parts = both (eq_by_cmp step_cmp x y) _ h
    in ap (λ (s : Step). s ∷ above) ((same_step x y).0 parts.0) ∙ ap (λ (ss : List Step). y ∷ ss) (below_take above path parts.1)

pub below_short : (above path : List Step) → is_below above path ≡ true → length above ≤ length path
below_short [] path h = omega arith
below_short (x ∷ above) [] h = cc
below_short (x ∷ above) (y ∷ path) h =
    let parts = both (eq_by_cmp step_cmp x y) _ h
    in let rest = below_short above path parts.1
    in omega (arith, rest)

pub below_trans : (a b c : List Step) → is_below a b ≡ true → is_below b c ≡ true → is_below a c ≡ true
below_trans [] b c h k = refl
below_trans (x ∷ a) [] c h k = cc
below_trans (x ∷ a) (y ∷ b) [] h k = cc
below_trans (x ∷ a) (y ∷ b) (z ∷ c) h k =
    let one = both (eq_by_cmp step_cmp x y) _ h
    in let two = both (eq_by_cmp step_cmp y z) _ k
    in both_true _ _
    (subst (λ (s : Step). eq_by_cmp step_cmp s z ≡ true) (sym ((same_step x y).0 one.0)) two.0)
    (below_trans a b c one.1 two.1)

-- of two paths on the way to a third, one is on the way to the other
pub comparable : (a b c : List Step) → is_below a c ≡ true → is_below b c ≡ true → (is_below a b ≡ true) ⊎ (is_below b a ≡ true)
comparable [] b c h k = inl refl
comparable (x ∷ a) [] c h k = inr refl
comparable (x ∷ a) (y ∷ b) [] h k = cc
comparable (x ∷ a) (y ∷ b) (z ∷ c) h k =
    let one = both (eq_by_cmp step_cmp x z) _ h
    in let two = both (eq_by_cmp step_cmp y z) _ k
    in let same = (same_step x z).0 one.0 ∙ sym ((same_step y z).0 two.0)
    in ⊎_elim
    (λ e. inl (both_true _ _ ((same_step x y).1 same) e))
    (λ e. inr (both_true _ _ ((same_step y x).1 (sym same)) e))
    (comparable a b c one.1 two.1)

-- a path on the way isn't after the path, and is before it where it isn't the path
no_greater : (o : Ordering) → is_le o ≡ true → o ≢ Greater
no_greater Less e f = cc
no_greater Equal e f = cc
no_greater Greater e f = cc

pub below_not_after : (a b : List Step) → is_below a b ≡ true → path_cmp a b ≢ Greater
below_not_after a b h = no_greater _ (below_le a b h)

less_by : (o : Ordering) (P : Type 0) → is_le o ≡ true → (o ≡ Equal → P) → (o ≡ Less → P) → P
less_by Less P e f g = g refl
less_by Equal P e f g = f refl
less_by Greater P e f g = cc

pub below_before : (a b : List Step) → is_below a b ≡ true → a ≢ b → path_cmp a b ≡ Less
below_before a b h differs =
    less_by (path_cmp a b) (path_cmp a b ≡ Less) (below_le a b h) (λ e. absurd (differs (path_same a b e))) (λ e. e)

-- whether a path is on the way or not
pub on_way_or_not : (a b : List Step) (P : Type 0) → (is_below a b ≡ true → P) → (is_below a b ≡ false → P) → P
on_way_or_not a b P yes_ no_ = by_test _ refl
  where
    by_test : (c : Bool) → is_below a b ≡ c → P
    by_test true e = yes_ e
    by_test false e = no_ e

pub way_whole : (path : List Step) → take (length path) path ≡ path
way_whole path = take_all (length path) path (omega arith)
