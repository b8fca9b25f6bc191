-- The test of a pattern decides the match.
use Rattle.std.proofs.Common.{◌≡◌, ◌⊎◌, inl, inr, ℕ, Bool, true, false, List, [], ◌∷◌, refl, ap, ◌∙◌, IsTrue}
use Rattle.std.specs.Prelude.{◌||◌, ◌&&◌, ◌↔◌}
use Rattle.glob_name.specs.Glob.{Item, items, fits_byte, Matches, some_rest, one_then, is_empty, fits_all, glob}
use Rattle.glob_name.specs.Glob.Item.{Star, AnyByte, Class, Byte}
use Rattle.glob_name.proofs.MatchLemmas.{FitsLater, IsOne, star_splits, star_takes, star_takes_more, star_takes_later, one_gives, one_takes}

-- a test passes exactly the names that fit the items
abbrev Tells : List Item → (List ℕ → Bool) → Type 0
Tells w test = (n : List ℕ) → (test n ≡ true → Matches w n) × (Matches w n → test n ≡ true)

nothing_tells : Tells [] is_empty
nothing_tells [] = (λ e. refl, λ m. refl)
nothing_tells (b ∷ n) = (λ e. cc, λ m. cc)

either : (a b : Bool) → (a || b) ≡ true → (a ≡ true) ⊎ (b ≡ true)
either true b e = inl refl
either false b e = inr e

or_first : (a b : Bool) → a ≡ true → (a || b) ≡ true
or_first a b e = ap (λ (c : Bool). c || b) e

or_second : (a b : Bool) → b ≡ true → (a || b) ≡ true
or_second true b e = refl
or_second false b e = e

both : (a b : Bool) → (a && b) ≡ true → (a ≡ true) × (b ≡ true)
both true b e = (refl, e)
both false b e = cc

star_tells : (w : List Item) (test : List ℕ → Bool) → Tells w test → Tells (Star ∷ w) (some_rest test)
star_tells w test t [] = (λ e. star_takes w [] ((t []).0 e), λ m. elim (star_splits w [] m) [ inl h ↦ (t []).1 h | inr k ↦ absurd k ])
star_tells w test t (b ∷ n) =
    let below = star_tells w test t n
    in (
      λ e. elim (either _ _ e) [ inl h ↦ star_takes w (b ∷ n) ((t (b ∷ n)).0 h) | inr k ↦ star_takes_more w b n (below.0 k) ],
      λ m. elim (star_splits w (b ∷ n) m) [ inl h ↦ or_first _ _ ((t (b ∷ n)).1 h) | inr k ↦ or_second (test (b ∷ n)) _ (below.1 (later n k)) ],
    )
  where
    later : (n : List ℕ) → FitsLater w (b ∷ n) → Matches (Star ∷ w) n
    later n (inl h) = star_takes w n h
    later n (inr k) = star_takes_later w n k

one_tells : (item : Item) → IsOne item → (w : List Item) (test : List ℕ → Bool) → Tells w test → Tells (item ∷ w) (one_then (fits_byte item) test)
one_tells item one w test t [] = (λ e. cc, λ m. let g = one_gives item w [] one m in cc)
one_tells item one w test t (b ∷ n) = (
  λ e. let h = both _ _ e in one_takes item w b n h.0 ((t n).0 h.1),
  λ m. taken (one_gives item w (b ∷ n) one m),
)
  where
    taken : (c : ℕ) × (back : List ℕ) × (b ∷ n ≡ c ∷ back) × (fits_byte item c ≡ true) × Matches w back → (fits_byte item b && test n) ≡ true
    taken (c, back, same, fits, more) =
        let first : fits_byte item b ≡ true = cc in let rest : n ≡ back = cc
        in ap (λ (x : Bool). x && test n) first ∙ ap test rest ∙ (t back).1 more

fits_all_tells : (w : List Item) → Tells w (fits_all w)
fits_all_tells [] = nothing_tells
fits_all_tells (Star ∷ w) = star_tells w (fits_all w) (fits_all_tells w)
fits_all_tells (AnyByte ∷ w) = one_tells AnyByte tt w (fits_all w) (fits_all_tells w)
fits_all_tells (Class c inner ∷ w) = one_tells (Class c inner) tt w (fits_all w) (fits_all_tells w)
fits_all_tells (Byte x ∷ w) = one_tells (Byte x) tt w (fits_all w) (fits_all_tells w)

pub glob_tells : (pattern name : List ℕ) → IsTrue (glob pattern name) ↔ Matches (items pattern) name
glob_tells pattern name = fits_all_tells (items pattern) name

-- an answer that decides the match is the test's
pub answer_is_glob : (answer : Bool) (pattern name : List ℕ) → IsTrue answer ↔ Matches (items pattern) name → answer ≡ glob pattern name
answer_is_glob true pattern name h = let k = (glob_tells pattern name).1 (h.0 refl) in cc
answer_is_glob false pattern name h = by_test (glob pattern name) refl
  where
    by_test : (t : Bool) → glob pattern name ≡ t → false ≡ t
    by_test true e = h.1 ((glob_tells pattern name).0 e)
    by_test false e = refl
