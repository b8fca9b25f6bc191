-- Digits and the numbers that they write, both ways.
use Rattle.std.proofs.Common.{◌≡◌, ◌<◌, ◌≤◌, ◌^◌, ◌∙◌, sym, ap, subst, ℕ, List, length, get_or, take, true, false, ◌+◌, ◌-◌, ◌*◌, arith, refl, ⊎_elim, lit<, inl, inr, ◌⊎◌, zero, suc, eqb}
use Rattle.std.specs.Str.Parse.{AllDigits, digits_value}
use Rattle.std.specs.Char.{is_ascii_digit, digit_value}
use Rattle.std.proofs.lemmas.Str.{digit_value_digit}
use Rattle.std.proofs.lemmas.Int.Digits.{digits_more, digits_value_more}
use Rattle.std.specs.Fmt.{decimal}
use Rattle.std.proofs.lemmas.Str.Parse.{IsNumeralModel, numerals_by_value, tells_digits, digits_value_short, digit_at}
use Rattle.std.proofs.lemmas.Fmt.{decimal-digits_value, decimal_is_IsNumeral, length-decimal-le, first_decimal, decimal_digit}
use Rattle.std.proofs.lemmas.List.{length-take, get_or_default}
use Rattle.std.specs.Prelude.{All}
use Rattle.std.proofs.lemmas.Bool.Decides.{nat_tests}
use Rattle.cfg_values.specs.Number.{IsNumber, IsNumberWithin}

-- `AllDigits` and `digits_value` recognize and read decimal digits
pub own_digits : IsNumeralModel (AllDigits 10) (digits_value 10)
own_digits = numerals_by_value (AllDigits 10) tells_digits

-- the first i bytes, where they are digits, write a number below 10 ^ k, for i up to k
pub front_below : (bytes : List ℕ) (i k : ℕ) → AllDigits 10 (take i bytes) → i ≤ k → digits_value 10 (take i bytes) < 10 ^ k
front_below bytes i k digits short = digits_value_short own_digits (take i bytes) k digits (omega (arith, length-take i bytes))

-- where all are digits, each is
pub each_is_digit : (bytes : List ℕ) (i : ℕ) → AllDigits 10 bytes → i < length bytes → false ≡ is_ascii_digit (get_or bytes i 0) → ⊥
each_is_digit bytes i digits within fails = let range = digit_at bytes i digits within in grind (arith, nat_tests)

-- the test of a digit gives its value
pub digit_tested : (b : ℕ) → true ≡ is_ascii_digit b → (digit_value b < 10) × (digit_value b ≡ b - 48)
digit_tested b e =
    let range : (48 ≤ b) × (b ≤ 57) = (grind (arith, nat_tests), grind (arith, nat_tests)) in
    let value = digit_value_digit b range in
    (omega arith, omega arith)

-- one more digit is read
pub digit_read : (bytes : List ℕ) (i n d : ℕ) → i < length bytes → AllDigits 10 (take i bytes) → n ≡ digits_value 10 (take i bytes)
    → true ≡ is_ascii_digit (get_or bytes i 0) → d ≡ get_or bytes i 0 - 48
    → AllDigits 10 (take (i + 1) bytes) × (n * 10 + d ≡ digits_value 10 (take (i + 1) bytes))
digit_read bytes i n d within digits value digit same =
    let tested = digit_tested (get_or bytes i 0) digit in
    let more = digits_value_more 10 bytes i within in
    (digits_more 10 bytes i within digits tested.0, omega arith)

-- a number of 1 to 10 digits is below 10 ^ 10
pub number_below : (bytes : List ℕ) (n : ℕ) → IsNumber bytes n → n < 10 ^ 10
number_below bytes n h = subst (λ m. m < 10 ^ 10) (sym h.value) (digits_value_short own_digits bytes 10 h.digits.1 h.short)

-- the digits write one number
pub IsNumber-unique : (bytes : List ℕ) (m n : ℕ) → IsNumber bytes m → IsNumber bytes n → m ≡ n
IsNumber-unique bytes m n first second = first.value ∙ sym second.value

-- what is written without leading zeros reads as the number
pub IsNumber-decimal : (n : ℕ) → n < 10 ^ 10 → IsNumber (decimal n) n
IsNumber-decimal n small =
    let both = decimal_is_IsNumeral n (omega arith) in
    record { digits = both.0; short = length-decimal-le 10 n (omega arith) small (omega arith); value = sym both.1 }

-- digits without leading zeros are how their number is written
pub number_written : (bytes : List ℕ) (n : ℕ) → IsNumber bytes n → (get_or bytes 0 0 ≡ 48 → length bytes ≡ 1) → bytes ≡ decimal n
number_written bytes n h front =
    let small = number_below bytes n h in
    sym (decimal-digits_value own_digits bytes h.digits.1 h.digits.0 front (subst (λ m. m < 2 ^ 64) h.value (omega arith))) ∙ ap decimal (sym h.value)

zero_or_more : (n : ℕ) → (n ≡ 0) ⊎ (0 < n)
zero_or_more zero = inl refl
zero_or_more (suc n) = inr (omega arith)

-- a number is written without leading zeros
pub no_leading_zero : (n : ℕ) → n < 2 ^ 64 → 1 < length (decimal n) → get_or (decimal n) 0 0 ≡ 48 → ⊥
no_leading_zero n small long first =
    ⊎_elim (λ none. omega (arith, ap length (decimal_digit 0 (lit< tt)), ap (λ m. length (decimal m)) none))
    (λ some. omega (arith, first_decimal n some small)) (zero_or_more n)

-- the number of those digits is the only one that is written so
pub number_only : (bytes : List ℕ) (m n : ℕ) → IsNumber bytes m → n < 10 ^ 10 → bytes ≡ decimal n → m ≡ n
number_only bytes m n h small e = IsNumber-unique bytes m n h (subst (λ b. IsNumber b n) (sym e) (IsNumber-decimal n small))

-- a length that is some and not above 1 is 1
pub one_digit : (n : ℕ) → 0 < n → (1 < n → ⊥) → n ≡ 1
one_digit n some few = omega arith

-- a byte below the digits stands nowhere in digits
pub no_mark_in_digits : (mark : ℕ) (bytes : List ℕ) → mark < 48 → AllDigits 10 bytes → All (λ b. eqb b mark ≡ false) bytes
no_mark_in_digits mark bytes low digits k d within =
    let digit = digit_at bytes k digits within in
    let same = get_or_default bytes k d 0 within in
    grind (arith, nat_tests)

-- a byte below the digits stands nowhere in a number
pub no_mark_in_decimal : (mark n : ℕ) → mark < 48 → n < 2 ^ 64 → All (λ b. eqb b mark ≡ false) (decimal n)
no_mark_in_decimal mark n low small = no_mark_in_digits mark (decimal n) low (decimal_is_IsNumeral n small).0.1

-- a number of a range, written without leading zeros, reads as itself
pub within_again : (from to : ℕ) (bytes : List ℕ) (n : ℕ) → IsNumberWithin from to bytes n → IsNumberWithin from to (decimal n) n
within_again from to bytes n h = record { read = IsNumber-decimal n (number_below bytes n h.read); low = h.low; high = h.high }
