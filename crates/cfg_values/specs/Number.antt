-- Numbers in decimal digits. How many digits are read is this project's own.
use Rattle.std.specs.Prelude.{◌≡◌, ◌≤◌, ℕ, List, length}
use Rattle.std.specs.Str.Parse.{IsNumeral, digits_value}

-- 1 to 10 digits, leading zeros among them, that write the number
pub record IsNumber (bytes : List ℕ) (number : ℕ) : Type 0 where
  pub digits : IsNumeral 10 bytes
  pub short : length bytes ≤ 10
  pub value : number ≡ digits_value 10 bytes

-- such digits whose number is in the range, both ends in it
pub record IsNumberWithin (from to : ℕ) (bytes : List ℕ) (number : ℕ) : Type 0 where
  pub read : IsNumber bytes number
  pub low : from ≤ number
  pub high : number ≤ to
