-- A list of four or five is that of its items.
use Rattle.std.proofs.Common.{◌≡◌, ◌≤◌, ◌<◌, List, [], ◌∷◌, length, get_or, refl, arith}

module _ {X : Type 0} where
  none_left : (xs : List X) → length xs < 1 → xs ≡ []
  none_left [] h = refl
  none_left (x ∷ xs) h = absurd (omega (arith, h))

  pub four : (xs : List X) (a b c d : X) → 4 ≤ length xs → length xs < 5
      → a ≡ get_or xs 0 a → b ≡ get_or xs 1 b → c ≡ get_or xs 2 c → d ≡ get_or xs 3 d
      → xs ≡ a ∷ b ∷ c ∷ d ∷ []
  four [] a b c d h k e f g i = absurd (omega (arith, h))
  four (x ∷ []) a b c d h k e f g i = absurd (omega (arith, h))
  four (x ∷ y ∷ []) a b c d h k e f g i = absurd (omega (arith, h))
  four (x ∷ y ∷ z ∷ []) a b c d h k e f g i = absurd (omega (arith, h))
  four (x ∷ y ∷ z ∷ w ∷ xs) a b c d h k e f g i =
      let ends = none_left xs (omega (arith, k)) in cc

  pub five : (xs : List X) (a b c d u : X) → 5 ≤ length xs → length xs < 6
      → a ≡ get_or xs 0 a → b ≡ get_or xs 1 b → c ≡ get_or xs 2 c → d ≡ get_or xs 3 d → u ≡ get_or xs 4 u
      → xs ≡ a ∷ b ∷ c ∷ d ∷ u ∷ []
  five [] a b c d u h k e f g i j = absurd (omega (arith, h))
  five (x ∷ xs) a b c d u h k e f g i j =
      let rest = four xs b c d u (omega (arith, h)) (omega (arith, k)) f g i j in cc
