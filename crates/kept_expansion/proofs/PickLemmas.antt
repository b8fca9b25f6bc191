-- An element of a list that passes a test.
use Rattle.std.proofs.Common.{◌≡◌, Bool, true, false, List, [], ◌∷◌, refl, sym, ap, ◌∙◌}
use Rattle.std.specs.Prelude.{◌||◌}
use Rattle.std.specs.List.{list_any, AllByRecursion}

either : (a b : Bool) → b ≡ true → (a || b) ≡ true
either true b e = refl
either false b e = e

first : (a b : Bool) → a ≡ true → (a || b) ≡ true
first true b e = refl
first false b e = cc

module _ {X : Type 0} where
  pub record Picked (t : X → Bool) (xs : List X) : Type 1 where
    pub one : X
    pub passes : t one ≡ true
    pub among : (u : X → Bool) → u one ≡ true → list_any u xs ≡ true
    pub each : (P : X → Type 0) → AllByRecursion P xs → P one

  -- one that passes, where any does
  pub pick : (t : X → Bool) (xs : List X) → list_any t xs ≡ true → Picked t xs
  pick t [] h = cc
  pick t (x ∷ xs) h = by_test (t x) refl (λ k. pick t xs k)
    where
      by_test : (b : Bool) → t x ≡ b → (list_any t xs ≡ true → Picked t xs) → Picked t (x ∷ xs)
      by_test true e go = record { one = x; passes = e; among = λ u k. first (u x) _ k; each = λ P all. all.0 }
      by_test false e go =
          let more = go (ap (λ (c : Bool). c || list_any t xs) (sym e) ∙ h)
          in record { one = more.one; passes = more.passes; among = λ u k. either (u x) _ (more.among u k); each = λ P all. more.each P all.1 }

  -- none passes, where each fails
  pub none_any : (t : X → Bool) (xs : List X) → AllByRecursion (λ x. t x ≡ false) xs → list_any t xs ≡ false
  none_any t [] h = refl
  none_any t (x ∷ xs) h = ap (λ (b : Bool). b || list_any t xs) h.0 ∙ none_any t xs h.1
