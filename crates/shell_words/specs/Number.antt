-- The numbers that commands name. How many digits are read is this project's own.
use Rattle.std.specs.Prelude.{ℕ, List, length, Bool, false, ◌&&◌, if◌then◌else◌, Option, None, Some, nat_le}
use Rattle.std.specs.List.{list_all}
use Rattle.std.specs.Int.{is_in_range}
use Rattle.std.specs.Char.{is_ascii_digit}
use Rattle.std.specs.Str.Parse.{digits_value}

-- 1 to 10 decimal digits, leading zeros among them
abbrev pub is_number : List ℕ → Bool
is_number word = is_in_range 1 10 (length word) && list_all is_ascii_digit word

-- the number that such digits write, where it is at most 2 ^ 32 - 1
abbrev pub number_of : List ℕ → Option ℕ
number_of word = if is_number word && nat_le (digits_value 10 word) 4294967295 then Some (digits_value 10 word) else None

-- it is a number between these two or one of them
abbrev pub is_between : ℕ → ℕ → Option ℕ → Bool
is_between low high None = false
is_between low high (Some number) = nat_le low number && nat_le number high
