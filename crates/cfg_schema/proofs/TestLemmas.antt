-- What the tests of the rows say, and what a search for the first row gives.
use Rattle.std.proofs.Common.{◌≡◌, ◌≢◌, ℕ, ◌<◌, Bool, true, false, not, cond, ◌&&◌, ◌||◌, List, length, refl, arith, Some, None, nat_lt, get_or, position}
use Rattle.std.specs.List.{position_or_len}
use Rattle.std.specs.Cmp.Lexicographic.{bytes_decides}
use Rattle.std.proofs.lemmas.Bool.Decides.{nat_tests}
use Rattle.std.proofs.lemmas.List.Sums.{fails_before_first}
use Rattle.cfg_base.specs.declared.kind.Shape.{Shape}
use Rattle.cfg_base.specs.declared.kind.Shape.TheVariants.{Container, Fixed, Keyed, Bare, Leaf, Flag, Many}
use Rattle.cfg_schema.specs.Profile.{is_bare, is_fixed, same_word}

pub both : (a b : Bool) → (a && b) ≡ true → (a ≡ true) × (b ≡ true)
both true b h = (refl, h)
both false b h = cc

pub both_true : (a b : Bool) → a ≡ true → b ≡ true → (a && b) ≡ true
both_true true b h k = k
both_true false b h k = cc

pub not_true : (a : Bool) → not a ≡ true → a ≡ false
not_true true h = cc
not_true false h = refl

pub not_false : (a : Bool) → a ≡ false → not a ≡ true
not_false true h = cc
not_false false h = refl

pub neither : (a b : Bool) → (a || b) ≡ false → (a ≡ false) × (b ≡ false)
neither true b h = cc
neither false b h = (refl, h)

pub other_of : (a b : Bool) → (a || b) ≡ true → a ≡ false → b ≡ true
other_of true b h k = cc
other_of false b h k = h

pub second_false : (a b : Bool) → (a && b) ≡ false → a ≡ true → b ≡ false
second_false true b h k = h
second_false false b h k = cc

pub not_is_false : (a : Bool) → not a ≡ false → a ≡ true
not_is_false true h = refl
not_is_false false h = cc

pub not_is_true : (a : Bool) → a ≡ true → not a ≡ false
not_is_true true h = refl
not_is_true false h = cc

pub bare : (shape : Shape) → is_bare shape ≡ true → shape ≡ Bare
bare Bare h = refl
bare Container h = cc
bare Fixed h = cc
bare Keyed h = cc
bare Leaf h = cc
bare Flag h = cc
bare Many h = cc

pub bare_is : (shape : Shape) → shape ≡ Bare → is_bare shape ≡ true
bare_is Bare h = refl
bare_is Container h = cc
bare_is Fixed h = cc
bare_is Keyed h = cc
bare_is Leaf h = cc
bare_is Flag h = cc
bare_is Many h = cc

pub fixed : (shape : Shape) → is_fixed shape ≡ true → shape ≡ Fixed
fixed Fixed h = refl
fixed Bare h = cc
fixed Container h = cc
fixed Keyed h = cc
fixed Leaf h = cc
fixed Flag h = cc
fixed Many h = cc

pub fixed_is : (shape : Shape) → shape ≡ Fixed → is_fixed shape ≡ true
fixed_is Fixed h = refl
fixed_is Bare h = cc
fixed_is Container h = cc
fixed_is Keyed h = cc
fixed_is Leaf h = cc
fixed_is Flag h = cc
fixed_is Many h = cc

pub not_bare : (shape : Shape) → is_bare shape ≡ false → shape ≢ Bare
not_bare shape h e = let k = bare_is shape e in cc

pub bare_not : (shape : Shape) → (shape ≢ Bare) → is_bare shape ≡ false
bare_not Bare h = absurd (h refl)
bare_not Container h = refl
bare_not Fixed h = refl
bare_not Keyed h = refl
bare_not Leaf h = refl
bare_not Flag h = refl
bare_not Many h = refl

pub same : (xs ys : List ℕ) → same_word xs ys ≡ true → xs ≡ ys
same xs ys = (bytes_decides xs ys).0

pub same_is : (xs ys : List ℕ) → xs ≡ ys → same_word xs ys ≡ true
same_is xs ys = (bytes_decides xs ys).1

past : (n m k : ℕ) → cond (nat_lt n m) (Some n) None ≡ None → k < m → k < n
past n m k e h = grind (arith, nat_tests)

-- where no element is found, the test fails at each
pub position-None : {X : Type 0} (p : X → Bool) (xs : List X) (k : ℕ) (d : X) → position p xs ≡ None → k < length xs → p (get_or xs k d) ≡ false
position-None p xs k d none below = fails_before_first p xs k d (past (position_or_len p xs) (length xs) k none below)
