-- The date and the time of day of a moment in UTC: by the Gregorian calendar, with 86,400 seconds to each day.
-- RFC 3339, section 5.6, with a blank between date and time.
use Rattle.std.specs.Prelude.{ℕ, zero, suc, ◌+◌, ◌/◌, ◌%◌, List, [], ◌∷◌, ◌++◌, nat_lt, if◌then◌else◌, codes, pos}
use Rattle.jiff_core.specs.Calendar.{days_in_month}

-- a date of the calendar; months and days count from 1
pub record Date : Type 0 where
  pub year : ℕ
  pub month : ℕ
  pub day : ℕ

-- the date of the next day: in the same month, or the first of the next month, or 1 January of the next year
abbrev pub next_date : Date → Date
next_date date =
    if nat_lt date.day (days_in_month (pos date.year) date.month) then record { year = date.year; month = date.month; day = date.day + 1 }
    else (if nat_lt date.month 12 then record { year = date.year; month = date.month + 1; day = 1 }
    else record { year = date.year + 1; month = 1; day = 1 })

-- the date so many days after 1 January 1970
unfoldable pub date_after : ℕ → Date
date_after zero = record { year = 1970; month = 1; day = 1 }
date_after (suc days) = next_date (date_after days)

-- the last two digits of a number, and its last four
abbrev pub two : ℕ → List ℕ
two n = (48 + n / 10 % 10) ∷ ((48 + n % 10) ∷ [])

abbrev pub four : ℕ → List ℕ
four n = (48 + n / 1000 % 10) ∷ ((48 + n / 100 % 10) ∷ ((48 + n / 10 % 10) ∷ ((48 + n % 10) ∷ [])))

-- YYYY-MM-DD
abbrev pub day_text : Date → List ℕ
day_text date = four date.year ++ (codes "-" ++ (two date.month ++ (codes "-" ++ two date.day)))

-- HH:MM:SS, so many seconds after midnight
abbrev pub time_text : ℕ → List ℕ
time_text seconds =
    two (seconds / 3600) ++ (codes ":" ++ (two (seconds / 60 % 60) ++ (codes ":" ++ two (seconds % 60))))

-- YYYY-MM-DD HH:MM:SS, so many seconds after 1970-01-01 00:00:00
unfoldable pub date_text_at : ℕ → List ℕ
date_text_at moment = day_text (date_after (moment / 86_400)) ++ (codes " " ++ time_text (moment % 86_400))
