-- The ranges of a class, read one by one.
use Rattle.std.proofs.Common.{◌≡◌, ℕ, ◌<◌, ◌≤◌, ◌==◌, Bool, true, false, cond, List, [], ◌∷◌, length, get_or, refl, arith}
use Rattle.std.specs.List.{list_any}
use Rattle.std.proofs.lemmas.Bool.{eqb-true, eq-eqb}
use Rattle.glob_name.specs.Glob.{in_range, begins_range, ranges_from}
use Rattle.glob_name.specs.Front.{IsFirstRange}

-- three bytes with a mark in the middle are a range
pub first_of_three : (inner : List ℕ) → 3 ≤ length inner → get_or inner 1 0 ≡ 45 → IsFirstRange inner (get_or inner 0 0) (get_or inner 2 0) 3
first_of_three [] h e = absurd (omega arith)
first_of_three (a ∷ []) h e = absurd (omega arith)
first_of_three (a ∷ b ∷ []) h e = absurd (omega arith)
first_of_three (a ∷ b ∷ c ∷ rest) h e = record { ranges = by_test (begins_range (b ∷ c ∷ rest)) is; some = omega arith; within = omega arith }
  where
    is : begins_range (b ∷ c ∷ rest) ≡ true
    is = let same : b ≡ 45 = e in eq-eqb b 45 same

    by_test : (t : Bool) → t ≡ true
        → (a, cond t c a) ∷ ranges_from (b ∷ c ∷ rest) (cond t 2 0) ≡ (a, c) ∷ ranges_from rest 0
    by_test true e = refl
    by_test false e = cc

-- any other first byte stands alone
pub first_alone : (inner : List ℕ) → 0 < length inner → (3 ≤ length inner → get_or inner 1 0 ≡ 45 → ⊥) → IsFirstRange inner (get_or inner 0 0) (get_or inner 0 0) 1
first_alone [] h e = absurd (omega arith)
first_alone (a ∷ rest) h e = record { ranges = by_test (begins_range rest) (is rest e); some = omega arith; within = omega arith }
  where
    is : (rest : List ℕ) → (3 ≤ length (a ∷ rest) → get_or (a ∷ rest) 1 0 ≡ 45 → ⊥) → begins_range rest ≡ false
    is [] e = refl
    is (b ∷ []) e = refl
    is (b ∷ c ∷ more) e = no_mark (b == 45) refl
      where
        no_mark : (t : Bool) → (b == 45) ≡ t → t ≡ false
        no_mark true k = absurd (e (omega arith) (eqb-true b 45 k))
        no_mark false k = refl

    by_test : (t : Bool) → t ≡ false
        → (a, cond t (get_or rest 1 0) a) ∷ ranges_from rest (cond t 2 0) ≡ (a, a) ∷ ranges_from rest 0
    by_test true e = cc
    by_test false e = refl

-- nothing is in the ranges of no bytes
pub no_ranges : (rest : List ℕ) (b : ℕ) (t : Bool) → list_any (in_range b) (ranges_from rest 0) ≡ t → length rest ≡ 0 → false ≡ t
no_ranges [] b t e h = e
no_ranges (x ∷ rest) b t e h = absurd (omega (arith, h))
