-- The test of two numbers.
use Rattle.std.proofs.Common.{◌≡◌, ℕ, zero, suc, ◌<◌, ◌≤◌, nat_lt, true, false, refl, arith, List, [], ◌∷◌, length}
use Rattle.std.proofs.lemmas.Bool.Decides.{nat_tests}

pub lt_is : (a b : ℕ) → a < b → nat_lt a b ≡ true
lt_is a b h = grind (arith, nat_tests)

pub lt_not : (a b : ℕ) → b ≤ a → nat_lt a b ≡ false
lt_not a b h = grind (arith, nat_tests)

pub lt_told : (a b : ℕ) → nat_lt a b ≡ true → a < b
lt_told a b h = grind (arith, nat_tests)

-- a number that isn't 0
pub some_levels : (levels : ℕ) → (levels ≡ 0 → ⊥) → 0 < levels
some_levels zero some = absurd (some refl)
some_levels (suc levels) some = omega arith

pub no_length : {X : Type 0} (es : List X) → length es ≡ 0 → es ≡ []
no_length [] e = refl
no_length (x ∷ es) e = absurd (omega (arith, e))
