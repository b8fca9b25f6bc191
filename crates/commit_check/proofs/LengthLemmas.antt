-- The length that digits write.
use Rattle.std.proofs.Common.{◌≡◌, inl, inr, ℕ, ◌≤◌, ◌<◌, ◌+◌, ◌-◌, ◌*◌, ◌/◌, ◌%◌, Bool, true, false, cond, ◌&&◌, List, [], ◌∷◌, ◌++◌, refl, sym, ap, ◌∙◌, Some, None, arith, leb}
use Rattle.std.specs.Fmt.{decimal}
use Rattle.std.specs.Option.{unwrap_or}
use Rattle.std.proofs.lemmas.Bool.{leb-true, le-leb, and_from, cases_lt}
use Rattle.std.proofs.lemmas.Fmt.{decimal_digit, decimal_step}
use Rattle.commit_check.specs.Network.{one_digit, two_digits, length_of}

-- digits write a length
pub record Writes (digits : List ℕ) (length : ℕ) : Type 0 where
  pub within : length ≤ 32
  pub written : digits ≡ decimal length

both : (a b : Bool) → (a && b) ≡ true → (a ≡ true) × (b ≡ true)
both true b e = (refl, e)
both false b e = cc

same_some : (m n : ℕ) → Some m ≡ Some n → m ≡ n
same_some m n e = ap (λ o. unwrap_or o m) e

-- what a test gives where it gives something
given : (b : Bool) (m n : ℕ) → cond b (Some m) None ≡ Some n → (b ≡ true) × (m ≡ n)
given true m n e = (refl, same_some m n e)
given false m n e = cc

one_told : (d n : ℕ) → one_digit d ≡ Some n → Writes (d ∷ []) n
one_told d n e =
    let (test, is) = given (leb 48 d && leb d 57) (d - 48) n e in
    let (low, high) = both (leb 48 d) (leb d 57) test in
    let low_is = leb-true 48 d low in
    let high_is = leb-true d 57 high in
    let byte : d ≡ 48 + n = omega arith in
    record { within = omega arith; written = ap (λ b. b ∷ []) byte ∙ sym (decimal_digit n (omega arith)) }

-- two digits of which the first is no 0
decimal_two : (n : ℕ) → 10 ≤ n → n < 100 → decimal n ≡ (48 + n / 10) ∷ (48 + n % 10) ∷ []
decimal_two n low high =
    decimal_step n low (omega arith) ∙ ap (λ ds. ds ++ (48 + n % 10) ∷ []) (decimal_digit (n / 10) (omega arith))

two_told : (t d n : ℕ) → two_digits t d ≡ Some n → Writes (t ∷ d ∷ []) n
two_told t d n e =
    let (test, is) = given ((leb 49 t && leb t 51) && ((leb 48 d && leb d 57) && leb ((t - 48) * 10 + (d - 48)) 32)) ((t - 48) * 10 + (d - 48)) n e in
    let (ten, more) = both (leb 49 t && leb t 51) ((leb 48 d && leb d 57) && leb ((t - 48) * 10 + (d - 48)) 32) test in
    let (one, few) = both (leb 48 d && leb d 57) (leb ((t - 48) * 10 + (d - 48)) 32) more in
    let (ten_low, ten_high) = both (leb 49 t) (leb t 51) ten in
    let (one_low, one_high) = both (leb 48 d) (leb d 57) one in
    let t_low = leb-true 49 t ten_low in
    let t_high = leb-true t 51 ten_high in
    let d_low = leb-true 48 d one_low in
    let d_high = leb-true d 57 one_high in
    let within = leb-true ((t - 48) * 10 + (d - 48)) 32 few in
    let first : t ≡ 48 + n / 10 = omega arith in
    let second : d ≡ 48 + n % 10 = omega arith in
    record {
      within = omega arith;
      written = ap (λ b. b ∷ d ∷ []) first ∙ ap (λ b. (48 + n / 10) ∷ b ∷ []) second ∙ sym (decimal_two n (omega arith) (omega arith));
    }

pub length_told : (digits : List ℕ) (n : ℕ) → length_of digits ≡ Some n → Writes digits n
length_told [] n e = cc
length_told (d ∷ []) n e = one_told d n e
length_told (t ∷ d ∷ []) n e = two_told t d n e
length_told (a ∷ b ∷ c ∷ digits) n e = cc

one_reads : (n : ℕ) → n < 10 → one_digit (48 + n) ≡ Some n
one_reads n small =
    ap (λ b. cond b (Some ((48 + n) - 48)) None) (and_from _ _ (le-leb 48 (48 + n) (omega arith)) (le-leb (48 + n) 57 (omega arith)))
    ∙ ap Some (omega arith)

two_reads : (n : ℕ) → 10 ≤ n → n ≤ 32 → two_digits (48 + n / 10) (48 + n % 10) ≡ Some n
two_reads n low high =
    let value : ((48 + n / 10) - 48) * 10 + ((48 + n % 10) - 48) ≡ n = omega arith in
    let ten = and_from _ _ (le-leb 49 (48 + n / 10) (omega arith)) (le-leb (48 + n / 10) 51 (omega arith)) in
    let one = and_from _ _ (le-leb 48 (48 + n % 10) (omega arith)) (le-leb (48 + n % 10) 57 (omega arith)) in
    let few = le-leb (((48 + n / 10) - 48) * 10 + ((48 + n % 10) - 48)) 32 (omega arith) in
    ap (λ b. cond b (Some (((48 + n / 10) - 48) * 10 + ((48 + n % 10) - 48))) None) (and_from _ _ ten (and_from _ _ one few)) ∙ ap Some value

length_reads : (n : ℕ) → n ≤ 32 → length_of (decimal n) ≡ Some n
length_reads n high = elim (cases_lt n 10) [
  | inl small ↦ ap length_of (decimal_digit n small) ∙ one_reads n small
  | inr large ↦ ap length_of (decimal_two n large (omega arith)) ∙ two_reads n large high
]

-- what gives no length is not written of one
pub length_missed : (digits : List ℕ) (n : ℕ) → length_of digits ≡ None → n ≤ 32 → digits ≡ decimal n → ⊥
length_missed digits n none few e = let read = sym none ∙ ap length_of e ∙ length_reads n few in cc
