-- The times that words say: each is one of a day, before the last moment.
use Rattle.std.proofs.Common.{◌≡◌, ◌≤◌, ◌<◌, ◌+◌, ◌-◌, ◌*◌, ℕ, List, [], ◌∷◌, length, take, drop, Bool, true, false, cond, ◌&&◌, Option, None, Some, refl, length-drop, arith, ℤ, pos, negsuc, unsigned_abs}
use Rattle.std.specs.Prelude.{◌==◌, nat_le, nat_lt, unwrap_or}
use Rattle.std.proofs.lemmas.Bool.{and_parts}
use Rattle.std.proofs.lemmas.Bool.Decides.{nat_tests}
use Rattle.std.proofs.lemmas.List.{take_all}
use Rattle.jiff_core.specs.Calendar.{days_in_month, day_count, days_from_civil, IsCivilDate}
use Rattle.jiff_core.proofs.CalendarLemmas.{day_count-epoch, day_count-end, day_count-next_year, day_count-lt_year, days_from_civil-day_count}
use Rattle.jiff_core.proofs.SignedLemmas.{signed_arith}
use borrow.Author.Differences.{up, down}
use Rattle.commands.specs.declared.when.When.{When}
use Rattle.commands.specs.declared.when.When.TheVariants.{Today}
use Rattle.commands.specs.When.{IsTime}
use Rattle.shell_words.specs.Time.{is_pair, pair, is_byte, is_minute, is_second, minute_of, clock_of, is_day, day_of, day_in, today, on_day, is_dated, dated, when_of}
use Rattle.shell_words.specs.Made.{when_in}

-- what stands behind a place of a list, by its length
pub behind : (n : ℕ) (word : List ℕ) → take (length word - n) (drop n word) ≡ drop n word
behind n word = take_all (length word - n) (drop n word) (omega (arith, length-drop n word))

at_most : (m n : ℕ) → nat_le m n ≡ true → m ≤ n
at_most m n told = grind (arith, nat_tests)

less : (m n : ℕ) → nat_lt m n ≡ true → m < n
less m n told = grind (arith, nat_tests)

-- a second of a day, where there is one
abbrev IsSecond : Option ℕ → Type 0
IsSecond None = Unit {0}
IsSecond (Some second) = second < 86_400

-- the hours and the minutes of a time are few
minute_small : (word : List ℕ) → is_minute word ≡ true → (pair word 0 < 24) × (pair word 3 < 60)
minute_small word e =
    let hours : Bool = is_pair word 0 && is_byte 58 word 2 && is_pair word 3 in
    let minutes = and_parts (hours && nat_lt (pair word 0) 24) (nat_lt (pair word 3) 60) e in
    (less (pair word 0) 24 (and_parts hours (nat_lt (pair word 0) 24) minutes.0).1, less (pair word 3) 60 minutes.1)

second_small : (word : List ℕ) → is_second word ≡ true → pair word 6 < 60
second_small word e = less (pair word 6) 60 (and_parts (is_byte 58 word 5 && is_pair word 6) (nat_lt (pair word 6) 60) e).1

clock_small : (word : List ℕ) → IsSecond (clock_of word)
clock_small word = by_short (length word == 5 && is_minute word) refl
  where
    by_long : (b : Bool) → (length word == 8 && (is_minute word && is_second word)) ≡ b → IsSecond (cond b (Some (minute_of word + pair word 6)) None)
    by_long true e =
        let both = and_parts (is_minute word) (is_second word) (and_parts (length word == 8) (is_minute word && is_second word) e).1 in
        omega (arith, minute_small word both.0, second_small word both.1)
    by_long false e = tt

    by_short : (b : Bool) → (length word == 5 && is_minute word) ≡ b
        → IsSecond (cond b (Some (minute_of word)) (cond (length word == 8 && (is_minute word && is_second word)) (Some (minute_of word + pair word 6)) None))
    by_short true e = omega (arith, minute_small word (and_parts (length word == 5) (is_minute word) e).1)
    by_short false e = by_long (length word == 8 && (is_minute word && is_second word)) refl

-- a day before that of the last moment, where there is one
abbrev IsEarly : Option ℕ → Type 0
IsEarly None = Unit {0}
IsEarly (Some day) = day < 2_932_532

-- the number of a day, by its count
number_early : (number : ℤ) (count : ℕ) → up number + 4_371_953 ≡ down number + count → 4_371_587 < count → count < 7_304_485 → unsigned_abs number < 2_932_532
number_early (pos n) count e low high = omega (arith, e, high)
number_early (negsuc n) count e low high = omega (arith, e, low)

date_early : (year month day : ℕ) → is_day year month day ≡ true → unsigned_abs (days_from_civil (pos year) month day) < 2_932_532
date_early year month day e =
    number_early (days_from_civil (pos year) month day) (day_count (pos year) month day) (days_from_civil-day_count (pos year) month day)
    (omega (arith, after, first, day_count-epoch)) (omega (arith, before, last, day_count-end))
  where
    tests : (nat_le 1970 year && nat_le year 9998 ≡ true) × ((nat_le 1 month && nat_le month 12) && (nat_le 1 day && nat_le day (days_in_month (pos year) month)) ≡ true)
    tests = and_parts (nat_le 1970 year && nat_le year 9998) ((nat_le 1 month && nat_le month 12) && (nat_le 1 day && nat_le day (days_in_month (pos year) month))) e

    years : (1970 ≤ year) × (year ≤ 9998)
    years = let both = and_parts (nat_le 1970 year) (nat_le year 9998) tests.0 in (at_most 1970 year both.0, at_most year 9998 both.1)

    parts : (nat_le 1 month && nat_le month 12 ≡ true) × (nat_le 1 day && nat_le day (days_in_month (pos year) month) ≡ true)
    parts = and_parts (nat_le 1 month && nat_le month 12) (nat_le 1 day && nat_le day (days_in_month (pos year) month)) tests.1

    months : (1 ≤ month) × (month ≤ 12)
    months = let both = and_parts (nat_le 1 month) (nat_le month 12) parts.0 in (at_most 1 month both.0, at_most month 12 both.1)

    days : (1 ≤ day) × (day ≤ days_in_month (pos year) month)
    days = let both = and_parts (nat_le 1 day) (nat_le day (days_in_month (pos year) month)) parts.1 in (at_most 1 day both.0, at_most day (days_in_month (pos year) month) both.1)

    civil : IsCivilDate (pos year) month day
    civil = (omega (arith, signed_arith, years), months, days)

    -- it is before 9999-01-01, and after 1969-01-01
    before : day_count (pos year) month day < day_count (pos 9999) 1 1
    before = day_count-lt_year (pos year) month day (pos 9999) 1 1 civil (omega arith) (omega (arith, signed_arith, years))

    after : day_count (pos 1969) 1 1 < day_count (pos year) month day
    after = day_count-lt_year (pos 1969) 1 1 (pos year) month day (omega (arith, signed_arith), omega arith, omega arith) days.0 (omega (arith, signed_arith, years))

    last : day_count (pos 10000) 1 1 ≡ day_count (pos 9999) 1 1 + 365
    last = day_count-next_year (pos 9999) (pos 10000) (omega (arith, signed_arith)) refl

    first : day_count (pos 1970) 1 1 ≡ day_count (pos 1969) 1 1 + 365
    first = day_count-next_year (pos 1969) (pos 1970) (omega (arith, signed_arith)) refl

day_early : (year month day : ℕ) → IsEarly (day_of year month day)
day_early year month day = by_test (is_day year month day) refl
  where
    by_test : (b : Bool) → is_day year month day ≡ b → IsEarly (cond b (Some (unsigned_abs (days_from_civil (pos year) month day))) None)
    by_test true e = date_early year month day e
    by_test false e = tt

-- the time that is said, or else midnight
abbrev said : Option When → When
said when = unwrap_or when (Today 0)

today_is : (second : Option ℕ) → IsSecond second → IsTime (said (today second))
today_is None small = omega arith
today_is (Some second) small = small

on_day_is : (day second : Option ℕ) → IsEarly day → IsSecond second → IsTime (said (on_day day second))
on_day_is None second early small = omega arith
on_day_is (Some day) None early small = omega arith
on_day_is (Some day) (Some second) early small = (small, omega (arith, early, small))

dated_is : (word : List ℕ) → IsTime (said (dated word))
dated_is word = by_test (is_dated word)
  where
    by_test : (b : Bool) → IsTime (said (cond b (on_day (day_in word) (clock_of (drop 11 word))) None))
    by_test true = on_day_is (day_in word) (clock_of (drop 11 word)) (day_early (pair word 0 * 100 + pair word 2) (pair word 5) (pair word 8)) (clock_small (drop 11 word))
    by_test false = omega arith

said_is : (word : List ℕ) → IsTime (said (when_of word))
said_is word = by_test (nat_lt (length word) 11)
  where
    by_test : (b : Bool) → IsTime (said (cond b (today (clock_of word)) (dated word)))
    by_test true = today_is (clock_of word) (clock_small word)
    by_test false = dated_is word

-- the time of a commit is one
pub time_sound : (words : List (List ℕ)) → IsTime (when_in words)
time_sound [] = omega arith
time_sound (word ∷ words) = said_is word
