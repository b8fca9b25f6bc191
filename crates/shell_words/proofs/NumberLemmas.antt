-- Numbers of at most ten digits.
use Rattle.std.proofs.Common.{◌≡◌, ◌<◌, ◌≤◌, ◌^◌, ℕ, List, [], ◌∷◌, length, get_or, take, Bool, true, false, ◌&&◌, ◌+◌, ◌-◌, ◌*◌, arith, refl}
use Rattle.std.specs.Int.{is_in_range}
use Rattle.std.proofs.lemmas.Bool.{false≢true}
use Rattle.std.specs.List.{list_all}
use Rattle.std.specs.Str.Parse.{AllDigits, digits_value}
use Rattle.std.specs.Char.{is_ascii_digit, digit_value}
use Rattle.std.proofs.lemmas.Str.{digit_value_digit}
use Rattle.std.proofs.lemmas.Int.Digits.{digits_value_more}
use Rattle.std.proofs.lemmas.Str.Parse.{IsNumeralModel, numerals_by_value, tells_digits, digits_value_short, digit_at}
use Rattle.std.proofs.lemmas.Str.Parse.{digits_value-take-le}
use Rattle.std.proofs.lemmas.Bool.Decides.{nat_tests}
use Rattle.shell_words.specs.Number.{is_number}

-- `AllDigits` and `digits_value` recognize and read decimal digits
own_digits : IsNumeralModel (AllDigits 10) (digits_value 10)
own_digits = numerals_by_value (AllDigits 10) tells_digits

-- a byte that the test passes has the value of a digit
digit_small : (b : ℕ) → is_ascii_digit b ≡ true → digit_value b < 10
digit_small b e =
    let range : (48 ≤ b) × (b ≤ 57) = (grind (arith, nat_tests), grind (arith, nat_tests)) in
    let value = digit_value_digit b range in
    omega arith

-- both parts of a test that passes pass
both_pass : (a b : Bool) → (a && b) ≡ true → (a ≡ true) × (b ≡ true)
both_pass true b e = (refl, e)
both_pass false b e = absurd (false≢true e)

-- bytes that all pass it are digits
all_digits : (bytes : List ℕ) → list_all is_ascii_digit bytes ≡ true → AllDigits 10 bytes
all_digits [] e = tt
all_digits (b ∷ bs) e =
    let both = both_pass (is_ascii_digit b) (list_all is_ascii_digit bs) e in
    (digit_small b both.0, all_digits bs both.1)

-- what a number's word is made of
number_parts : (word : List ℕ) → is_number word ≡ true → (length word ≤ 10) × AllDigits 10 word
number_parts word e =
    let parts = both_pass (is_in_range 1 10 (length word)) (list_all is_ascii_digit word) e in
    (grind (arith, nat_tests, parts.0), all_digits word parts.1)

-- one more digit of a number is read: it is one, and what it makes of the number is still small
pub record ReadsDigit (word : List ℕ) (i n : ℕ) : Type 0 where
  pub low : 48 ≤ get_or word i 0
  pub high : get_or word i 0 ≤ 57
  pub more : n * 10 + (get_or word i 0 - 48) ≡ digits_value 10 (take (i + 1) word)
  pub small : n * 10 + (get_or word i 0 - 48) < 10 ^ 10

pub reads_digit : (word : List ℕ) (i n : ℕ) → is_number word ≡ true → i < length word → n ≡ digits_value 10 (take i word) → ReadsDigit word i n
reads_digit word i n is within value =
    let parts = number_parts word is in
    let range = digit_at word i parts.1 within in
    let step = digits_value_more 10 word i within in
    let digit = digit_value_digit (get_or word i 0) range in
    let front = digits_value-take-le 10 word (i + 1) (omega arith) in
    let whole = digits_value_short own_digits word 10 parts.1 parts.0 in
    record { low = range.0; high = range.1; more = omega arith; small = omega arith }
