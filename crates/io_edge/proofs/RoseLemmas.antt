-- Counts that rise.
use Rattle.std.proofs.Common.{◌≡◌, ℕ, ◌<◌, ◌≤◌, Bool, true, false, refl, arith, inl, inr}
use Rattle.std.proofs.Math.Dec.{ltb}
use Rattle.std.proofs.lemmas.Bool.{ltb-true, ltb-false}
use Rattle.cfg_base.specs.Counts.{Rose}

-- a count that rose, and never fell after
pub rose_later : (a b c : ℕ) → Rose a b → b ≤ c → Rose a c
rose_later a b c (inl more) later = inl (omega (arith, more, later))
rose_later a b c (inr full) later = inr full

-- a count that never fell, and then rose
pub rose_since : (a b c : ℕ) → a ≤ b → b ≤ c → Rose b c → Rose a c
rose_since a b c early late (inl more) = inl (omega (arith, early, more))
rose_since a b c early late (inr full) = by_test (ltb a c) refl
  where
    by_test : (more : Bool) → ltb a c ≡ more → Rose a c
    by_test true is = inl (ltb-true a c is)
    by_test false is = inr (omega (arith, ltb-false a c is, late, full))
