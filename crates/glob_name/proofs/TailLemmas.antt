-- The bytes after the last `]` of a pattern.
use Rattle.std.proofs.Common.{◌≡◌, ◌≢◌, ◌-◌, ◌⊎◌, inl, inr, ap, ℕ, suc, zero, ◌+◌, ◌<◌, ◌≤◌, ◌==◌, List, [], ◌∷◌, ◌++◌, length, drop, take, get_or, length-append, refl, sym, subst, ◌∙◌, Option, Some, None, arith}
use Rattle.std.specs.List.{position}
use Rattle.std.proofs.lemmas.Bool.{eqb-true}
use Rattle.std.proofs.lemmas.List.{take_more}
use Rattle.std.proofs.lemmas.List.Quantifiers.{position-Some}
use Rattle.glob_name.specs.Front.{IsTail}

-- the same bytes stand at the end of what is after the first bytes
pub tail_drop : (tail n : ℕ) (xs : List ℕ) → IsTail tail xs → IsTail tail (drop n xs)
tail_drop tail zero xs t = t
tail_drop tail (suc n) [] t = t
tail_drop tail (suc n) (x ∷ xs) (first, t) = tail_drop tail n xs t

tail_byte : (tail : ℕ) (xs : List ℕ) → IsTail tail xs → length xs ≤ tail → (k : ℕ) → k < length xs → get_or xs k 0 ≢ 93
tail_byte tail [] t h k less = absurd (omega arith)
tail_byte tail (x ∷ xs) (first, t) h zero less = first (omega arith)
tail_byte tail (x ∷ xs) (first, t) h (suc k) less = tail_byte tail xs t (omega arith) k (omega arith)

-- a class that begins there has no end
pub tail_none : (tail : ℕ) (xs : List ℕ) → IsTail tail xs → length xs ≤ tail → None ≡ position (λ b. b == 93) xs
tail_none tail xs t h = by_place (position (λ b. b == 93) xs) refl
  where
    by_place : (o : Option ℕ) → position (λ b. b == 93) xs ≡ o → None ≡ o
    by_place None e = refl
    by_place (Some n) e =
        let k = position-Some (λ b. b == 93) xs n 0 e
        in absurd (tail_byte tail xs t h n k.0 (eqb-true (get_or xs n 0) 93 k.1))

-- right after `]` nothing is known of what comes
pub tail_zero : (xs : List ℕ) → IsTail 0 xs
tail_zero [] = tt
tail_zero (x ∷ xs) = (λ less. absurd (omega arith), tail_zero xs)

-- one byte more that is no `]`
pub tail_more : (tail : ℕ) (xs : List ℕ) (b : ℕ) → IsTail tail xs → b ≢ 93 → IsTail (tail + 1) (xs ++ b ∷ [])
tail_more tail [] b t ne = (λ less. ne, tt)
tail_more tail (x ∷ xs) b (first, t) ne = (λ less. first (let e = length-append xs (b ∷ []) in omega (arith, e, less)), tail_more tail xs b t ne)

-- after one byte more of a pattern
pub tail_next : (tail next i : ℕ) (xs : List ℕ) → i < length xs → IsTail tail (take i xs) → (next ≡ 0) ⊎ ((next ≡ tail + 1) × (get_or xs i 0 ≢ 93)) → IsTail next (take (i + 1) xs)
tail_next tail next i xs less t (inl e) = subst (λ (n : ℕ). IsTail n (take (i + 1) xs)) (sym e) (tail_zero (take (i + 1) xs))
tail_next tail next i xs less t (inr (e, ne)) =
    subst (λ (n : ℕ). IsTail n (take (i + 1) xs)) (sym e)
    (subst (λ (r : List ℕ). IsTail (tail + 1) r) (sym (take_more xs i 0 less)) (tail_more tail (take i xs) (get_or xs i 0) t ne))

-- the same, of what a call gives as the rest
pub tail_behind : (tail n : ℕ) (xs rest : List ℕ) → IsTail tail xs → rest ≡ drop n xs → IsTail tail rest
tail_behind tail n xs rest t e = subst (λ (r : List ℕ). IsTail tail r) (sym e) (tail_drop tail n xs t)

-- the last `]` is the byte just read
pub last_mark : (xs : List ℕ) (i next : ℕ) → next ≡ 0 → get_or xs i 0 ≡ 93 → get_or xs (i + 1 - next - 1) 0 ≡ 93
last_mark xs i next e is = let k : i + 1 - next - 1 ≡ i = omega (arith, e) in ap (λ (j : ℕ). get_or xs j 0) k ∙ is

-- or the one known before
pub same_mark : (xs : List ℕ) (i tail next : ℕ) → next ≡ tail + 1 → next < i + 1 → (tail < i → get_or xs (i - tail - 1) 0 ≡ 93) → get_or xs (i + 1 - next - 1) 0 ≡ 93
same_mark xs i tail next e less is =
    let k : i + 1 - next - 1 ≡ i - tail - 1 = omega (arith, e)
    in ap (λ (j : ℕ). get_or xs j 0) k ∙ is (omega (arith, e, less))
