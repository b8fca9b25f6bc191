-- The time that one word says, in UTC: `HH:MM` or `HH:MM:SS`, or one of these behind `YYYY-MM-DD` and a space.
-- Junos OS CLI User Guide, on scheduling a commit; the range of years, and that both parts are one word, is this project's own.
use Rattle.std.specs.Prelude.{ℕ, ◌+◌, ◌-◌, ◌*◌, ◌==◌, ◌&&◌, nat_le, nat_lt, Bool, List, length, drop, Option, Some, None, if◌then◌else◌, slice_index_or, pos, unsigned_abs}
use Rattle.std.specs.Char.{is_ascii_digit}
use Rattle.jiff_core.specs.Calendar.{days_in_month, days_from_civil}
use Rattle.commands.specs.declared.when.When.{When}
use Rattle.commands.specs.declared.when.When.TheVariants.{Today, OnDay}

-- two digits stand at the place
abbrev pub is_pair : List ℕ → ℕ → Bool
is_pair word place = is_ascii_digit (slice_index_or word place 0) && is_ascii_digit (slice_index_or word (place + 1) 0)

-- the number of two digits
abbrev pub pair : List ℕ → ℕ → ℕ
pair word place = (slice_index_or word place 0 - 48) * 10 + (slice_index_or word (place + 1) 0 - 48)

-- this byte stands at the place
abbrev pub is_byte : ℕ → List ℕ → ℕ → Bool
is_byte byte word place = slice_index_or word place 0 == byte

-- the word begins with HH:MM
abbrev pub is_minute : List ℕ → Bool
is_minute word = is_pair word 0 && is_byte 58 word 2 && is_pair word 3 && nat_lt (pair word 0) 24 && nat_lt (pair word 3) 60

-- :SS follows
abbrev pub is_second : List ℕ → Bool
is_second word = is_byte 58 word 5 && is_pair word 6 && nat_lt (pair word 6) 60

-- the second of the day with which that minute begins
abbrev pub minute_of : List ℕ → ℕ
minute_of word = pair word 0 * 3600 + pair word 3 * 60

-- the second of a day that HH:MM or HH:MM:SS says
abbrev pub clock_of : List ℕ → Option ℕ
clock_of word =
    if length word == 5 && is_minute word then Some (minute_of word)
    else if length word == 8 && (is_minute word && is_second word) then Some (minute_of word + pair word 6)
    else None

-- the word begins with YYYY-MM-DD and a space, in digits
abbrev pub is_date : List ℕ → Bool
is_date word =
    is_pair word 0 && is_pair word 2 && is_byte 45 word 4 && is_pair word 5 && is_byte 45 word 7 && is_pair word 8 && is_byte 32 word 10

-- the calendar has the date, in a year from 1970 to 9998
abbrev pub is_day : ℕ → ℕ → ℕ → Bool
is_day year month day =
    (nat_le 1970 year && nat_le year 9998) && ((nat_le 1 month && nat_le month 12) && (nat_le 1 day && nat_le day (days_in_month (pos year) month)))

-- how many days after 1970-01-01 it is
abbrev pub day_of : ℕ → ℕ → ℕ → Option ℕ
day_of year month day = if is_day year month day then Some (unsigned_abs (days_from_civil (pos year) month day)) else None

-- the day of the date that a word begins with
abbrev pub day_in : List ℕ → Option ℕ
day_in word = day_of (pair word 0 * 100 + pair word 2) (pair word 5) (pair word 8)

-- a second of the day on which the time is asked
abbrev pub today : Option ℕ → Option When
today None = None
today (Some second) = Some (Today second)

-- a second of a day, where there are both
abbrev pub on_day : Option ℕ → Option ℕ → Option When
on_day None second = None
on_day (Some day) None = None
on_day (Some day) (Some second) = Some (OnDay day second)

-- the word is long enough to begin with a date, and does
abbrev pub is_dated : List ℕ → Bool
is_dated word = nat_le 11 (length word) && is_date word

-- the time that a word with a date says
abbrev pub dated : List ℕ → Option When
dated word = if is_dated word then on_day (day_in word) (clock_of (drop 11 word)) else None

-- the time that a word says
abbrev pub when_of : List ℕ → Option When
when_of word = if nat_lt (length word) 11 then today (clock_of word) else dated word
