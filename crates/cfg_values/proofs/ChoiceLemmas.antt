-- A test of each word of a set says whether the bytes are one of them.
use Rattle.std.proofs.Common.{◌≡◌, ◌<◌, ◌∙◌, ap, refl, ℕ, zero, suc, List, [], ◌∷◌, map, length, Bool, true, false, ◌||◌, arith}
use Rattle.std.specs.Prelude.{Contains, slice_index_or}
use Rattle.std.specs.List.{list_any}
use Rattle.std.specs.Str.{bytes_eq}
use Rattle.std.proofs.lemmas.Bool.{false≢true}
use Rattle.std.proofs.lemmas.Slice.Eq.{bytes_eq-Decides}

or_right : (b : Bool) → (b || true) ≡ true
or_right true = refl
or_right false = refl

-- the first word passes, or one of the others does
or_cases : (b r : Bool) (P : Type 0) → (b || r) ≡ true → (b ≡ true → P) → (r ≡ true → P) → P
or_cases true r P e here there = here refl
or_cases false r P e here there = there e

pub any_contains : {X : Type 0} (f : X → List ℕ) (b : List ℕ) (words : List X)
    → list_any (λ word. bytes_eq (f word) b) words ≡ true → Contains (map f words) b
any_contains f b [] e = absurd (false≢true e)
any_contains f b (word ∷ words) e =
    or_cases (bytes_eq (f word) b) (list_any (λ w. bytes_eq (f w) b) words) (Contains (map f (word ∷ words)) b) e
    (λ here. (0, omega arith, (bytes_eq-Decides (f word) b).0 here))
    (λ there. let rest = any_contains f b words there in (suc rest.0, omega (arith, rest.1), rest.2))

pub contains_any : {X : Type 0} (f : X → List ℕ) (b : List ℕ) (words : List X) (k : ℕ) → k < length (map f words)
    → slice_index_or (map f words) k b ≡ b → list_any (λ word. bytes_eq (f word) b) words ≡ true
contains_any f b [] k within e = absurd (omega arith)
contains_any f b (word ∷ words) zero within e =
    ap (λ t. t || list_any (λ w. bytes_eq (f w) b) words) ((bytes_eq-Decides (f word) b).1 e)
contains_any f b (word ∷ words) (suc k) within e =
    ap (λ t. bytes_eq (f word) b || t) (contains_any f b words k (omega arith) e) ∙ or_right (bytes_eq (f word) b)
