-- What the tests of a key say.
use Rattle.std.proofs.Common.{◌≡◌, ℕ, ◌<◌, Bool, true, false, ◌&&◌, List, [], ◌∷◌, ◌++◌, length, refl, sym, ap, ap₂, ◌∙◌, arith, nat_eq, take, drop, length-append}
use Rattle.std.proofs.lemmas.List.{take-append-drop}
use Rattle.cfg_base.specs.Words.{same_word}
use Rattle.cfg_schema.proofs.TestLemmas.{same}

-- a test that can't pass
fails : (b : Bool) → (b ≡ true → ⊥) → b ≡ false
fails true never = absurd (never refl)
fails false never = refl

pub too_short : (key head more : List ℕ) → length key < length head → same_word key (head ++ more) ≡ false
too_short key head more h = fails (same_word key (head ++ more)) (λ e. apart (same key (head ++ more) e))
  where
    apart : key ≡ head ++ more → ⊥
    apart e = let long = ap length e in omega (arith, h, long, length-append head more)

pub joined_tests : (front back head more : List ℕ) → length front ≡ length head → same_word (front ++ back) (head ++ more) ≡ (same_word front head && same_word back more)
joined_tests [] back [] more h = refl
joined_tests [] back (y ∷ head) more h = absurd (omega (arith, h))
joined_tests (x ∷ front) back [] more h = absurd (omega (arith, h))
joined_tests (x ∷ front) back (y ∷ head) more h = by_test (nat_eq x y) (joined_tests front back head more (omega (arith, h)))
  where
    by_test : (b : Bool) → same_word (front ++ back) (head ++ more) ≡ (same_word front head && same_word back more)
        → (b && same_word (front ++ back) (head ++ more)) ≡ ((b && same_word front head) && same_word back more)
    by_test true e = e
    by_test false e = refl

-- a key that is cut in two
pub split_tests : (key head more front back : List ℕ) → front ≡ take (length head) key → back ≡ drop (length head) key → length front ≡ length head
    → same_word key (head ++ more) ≡ (same_word front head && same_word back more)
split_tests key head more front back f b l =
    let whole : key ≡ front ++ back = sym (take-append-drop (length head) key) ∙ sym (ap₂ (λ (x y : List ℕ). x ++ y) f b)
    in ap (λ (k : List ℕ). same_word k (head ++ more)) whole ∙ joined_tests front back head more l
