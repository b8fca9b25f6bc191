-- A number that digits write, digit by digit.
use Rattle.std.proofs.Common.{◌≡◌, ◌<◌, ◌≤◌, ◌+◌, ◌-◌, ◌*◌, ◌^◌, ℕ, List, length, take, get_or, arith}
use Rattle.std.specs.Str.Parse.{digits_value}
use Rattle.std.proofs.lemmas.Int.Digits.{digits_value_more}
use Rattle.std.proofs.lemmas.Str.{digit_value_digit}
use Rattle.std.proofs.lemmas.Str.Parse.{digits_value-take-le, digit_at}
use Rattle.cfg_values.specs.Number.{IsNumber}
use Rattle.cfg_values.proofs.NumberLemmas.{number_below}

-- the first digits write a number below 10 ^ 10
pub front_below : (bytes : List ℕ) (whole i number : ℕ) → IsNumber bytes whole → number ≡ digits_value 10 (take i bytes) → number < 10 ^ 10
front_below bytes whole i number is front =
    let least = digits_value-take-le 10 bytes i (omega arith) in
    let below = number_below bytes whole is in
    omega (arith, front, least, below, is.value)

pub digit_least : (bytes : List ℕ) (whole i : ℕ) → IsNumber bytes whole → i < length bytes → 48 ≤ get_or bytes i 0
digit_least bytes whole i is within = (digit_at bytes i is.digits.1 within).0

-- one digit more
pub next_digit : (bytes : List ℕ) (whole i number digit : ℕ) → IsNumber bytes whole → i < length bytes → number ≡ digits_value 10 (take i bytes)
    → digit ≡ get_or bytes i 0 - 48 → number * 10 + digit ≡ digits_value 10 (take (i + 1) bytes)
next_digit bytes whole i number digit is within front is_digit =
    let range = digit_at bytes i is.digits.1 within in
    let value = digit_value_digit (get_or bytes i 0) range in
    let more = digits_value_more 10 bytes i within in
    omega (arith, more, value, front, is_digit)

pub digit_small : (bytes : List ℕ) (whole i digit : ℕ) → IsNumber bytes whole → i < length bytes → digit ≡ get_or bytes i 0 - 48 → digit ≤ 9
digit_small bytes whole i digit is within is_digit = let range = digit_at bytes i is.digits.1 within in omega (arith, range.0, range.1, is_digit)
