-- Bytes of a file by place.
use Rattle.std.proofs.Common.{◌≡◌, ◌≤◌, ◌<◌, ◌⊎◌, ⊎_elim, ℕ, zero, suc, ◌+◌, ◌-◌, min, List, ◌++◌, length, get_or, take, drop, refl, sym, ◌∙◌, ap, arith, length-append}
use Rattle.std.proofs.lemmas.List.{ext_get_or, get_or-take, get_or-drop, get_or_append_left, get_or-append_right, get_or_past, take_at, drop_at}
use Rattle.record_code.specs.Reading.{byte, slice, Agree}

pub length-slice : (f : List ℕ) (at n : ℕ) → length (slice f at n) ≡ n
unfolding slice
length-slice f at zero = refl
length-slice f at (suc n) = ap (λ (m : ℕ). suc m) (length-slice f (suc at) n)

pub get_or-slice : (f : List ℕ) (at n k d : ℕ) → k < n → get_or (slice f at n) k d ≡ byte f (at + k)
unfolding slice
get_or-slice f at zero k d lt = absurd (omega arith)
get_or-slice f at (suc n) zero d lt = let e : at + 0 ≡ at = omega arith in ap (λ (m : ℕ). byte f m) (sym e)
get_or-slice f at (suc n) (suc k) d lt = let e : suc at + k ≡ at + suc k = omega arith in get_or-slice f (suc at) n k d (omega arith) ∙ ap (λ (m : ℕ). byte f m) e

-- a slice is a list that has its bytes
pub slice_is : (f : List ℕ) (at n : ℕ) (l : List ℕ) → length l ≡ n → ((k : ℕ) → k < n → byte f (at + k) ≡ get_or l k 0) → slice f at n ≡ l
slice_is f at n l size each =
    ext_get_or 0 (slice f at n) l (length-slice f at n ∙ sym size)
    (λ k lt. let inside : k < n = omega (arith, length-slice f at n) in get_or-slice f at n k 0 inside ∙ each k inside)

pub slice_byte : (f : List ℕ) (at n : ℕ) (l : List ℕ) (k : ℕ) → slice f at n ≡ l → k < n → byte f (at + k) ≡ get_or l k 0
slice_byte f at n l k is lt = sym (get_or-slice f at n k 0 lt) ∙ ap (λ (m : List ℕ). get_or m k 0) is

pub slice_same : (f g : List ℕ) (at n : ℕ) → Agree f g at (at + n) → slice f at n ≡ slice g at n
slice_same f g at n agree =
    slice_is f at n (slice g at n) (length-slice g at n) (λ k lt. agree (at + k) (omega arith) (omega arith) ∙ sym (get_or-slice g at n k 0 lt))

pub slice-append : (f : List ℕ) (at m n : ℕ) → slice f at (m + n) ≡ slice f at m ++ slice f (at + m) n
slice-append f at m n = slice_is f at (m + n) (slice f at m ++ slice f (at + m) n) (omega (arith, length-append (slice f at m) (slice f (at + m) n), length-slice f at m, length-slice f (at + m) n)) each
  where
    front : (k : ℕ) → k < m → byte f (at + k) ≡ get_or (slice f at m ++ slice f (at + m) n) k 0
    front k lt = sym (get_or_append_left (slice f at m) (slice f (at + m) n) 0 k (omega (arith, length-slice f at m)) ∙ get_or-slice f at m k 0 lt)

    back : (k : ℕ) → m ≤ k → k < m + n → byte f (at + k) ≡ get_or (slice f at m ++ slice f (at + m) n) k 0
    back k ge lt =
        let place : at + m + (k - m) ≡ at + k = omega arith in
        sym (get_or-append_right (slice f at m) (slice f (at + m) n) m k 0 (length-slice f at m) ge ∙ get_or-slice f (at + m) n (k - m) 0 (omega arith) ∙ ap (λ (j : ℕ). byte f j) place)

    lt_or_ge : (a b : ℕ) → (a < b) ⊎ (b ≤ a)
    lt_or_ge a b = grind arith

    each : (k : ℕ) → k < m + n → byte f (at + k) ≡ get_or (slice f at m ++ slice f (at + m) n) k 0
    each k lt = ⊎_elim (front k) (λ ge. back k ge lt) (lt_or_ge k m)

-- the front and the back of a slice that is known
pub slice_front : (f : List ℕ) (at m n : ℕ) (xs ys : List ℕ) → length xs ≡ m → slice f at (m + n) ≡ xs ++ ys → slice f at m ≡ xs
slice_front f at m n xs ys size is =
    sym (take_at (slice f at m) (slice f (at + m) n) m (length-slice f at m)) ∙ ap (λ (l : List ℕ). take m l) (sym (slice-append f at m n) ∙ is) ∙ take_at xs ys m size

pub slice_back : (f : List ℕ) (at m n : ℕ) (xs ys : List ℕ) → length xs ≡ m → slice f at (m + n) ≡ xs ++ ys → slice f (at + m) n ≡ ys
slice_back f at m n xs ys size is =
    sym (drop_at (slice f at m) (slice f (at + m) n) m (length-slice f at m)) ∙ ap (λ (l : List ℕ). drop m l) (sym (slice-append f at m n) ∙ is) ∙ drop_at xs ys m size

-- what a read fills, over zeros
pub slice_read : (f into before : List ℕ) (at n : ℕ) → n ≡ min (length before) (length f - at) → length into ≡ length before
    → take n into ≡ take n (drop at f) → drop n into ≡ drop n before → ((k : ℕ) → get_or before k 0 ≡ 0) → into ≡ slice f at (length before)
slice_read f into before at n count size front back zeros = sym (slice_is f at (length before) into size each)
  where
    lt_or_ge : (a b : ℕ) → (a < b) ⊎ (b ≤ a)
    lt_or_ge a b = grind arith

    read : (k : ℕ) → k < n → byte f (at + k) ≡ get_or into k 0
    read k lt =
        sym (get_or-drop at f k 0) ∙ sym (get_or-take n (drop at f) k 0 lt) ∙ ap (λ (l : List ℕ). get_or l k 0) (sym front) ∙ get_or-take n into k 0 lt

    past : (k : ℕ) → k < length before → n ≤ k → byte f (at + k) ≡ get_or into k 0
    past k lt ge =
        let place : n + (k - n) ≡ k = omega arith in
        get_or_past f (at + k) 0 (omega (arith, count))
        ∙ sym (zeros (n + (k - n)))
        ∙ sym (get_or-drop n before (k - n) 0)
        ∙ ap (λ (l : List ℕ). get_or l (k - n) 0) (sym back)
        ∙ get_or-drop n into (k - n) 0
        ∙ ap (λ (j : ℕ). get_or into j 0) place

    each : (k : ℕ) → k < length before → byte f (at + k) ≡ get_or into k 0
    each k lt = ⊎_elim (read k) (past k lt) (lt_or_ge k n)
