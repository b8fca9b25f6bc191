-- What jiff shows of a moment is the date and the time of specs/Date.
use Rattle.std.proofs.Common.{◌≡◌, ℕ, zero, suc, ◌+◌, ◌/◌, ◌%◌, ◌<◌, ◌≤◌, Bool, true, false, inl, inr, cond, nat_lt, ◌++◌, refl, sym, ap, ◌∙◌, arith, pos, ◌*ℤ◌, unsigned_abs}
use Rattle.std.specs.Prelude.{codes}
use Rattle.std.proofs.lemmas.Bool.{cases_order}
use Rattle.std.proofs.lemmas.Bool.Decides.{nat_tests}
use Rattle.jiff_core.specs.declared.civil.date.Date.{Date as JiffDate}
use Rattle.jiff_core.specs.declared.civil.datetime.DateTime.{DateTime}
use Rattle.jiff_core.specs.Calendar.{days_in_month, day_count, IsCivilDate}
use Rattle.jiff_core.specs.Date.{epoch_day}
use Rattle.jiff_core.specs.DateTime.{civil_nanos}
use Rattle.jiff_core.specs.Time.{time_seconds}
use Rattle.jiff_core.proofs.CalendarLemmas.{day_count-epoch, day_count-end, day_count-day, day_count-next_month, day_count-next_year, day_count-last_of_year, days_in_month_bounds, days_from_civil-day_count}
use Rattle.jiff_core.proofs.DateLemmas.{epoch_day_range, epoch_day_injective}
use Rattle.jiff_core.proofs.DateTimeLemmas.{civil_nanos-parts, time_nanos_bound}
use Rattle.jiff_core.proofs.SignedLemmas.{signed_arith}
use Rattle.commit_ledger.specs.Date.{Date, next_date, date_after, day_text, time_text, date_text_at}

below : (m n : ℕ) → nat_lt m n ≡ true → m < n
below m n told = grind (arith, nat_tests)

not_below : (m n : ℕ) → nat_lt m n ≡ false → n ≤ m
not_below m n told = grind (arith, nat_tests)

abbrev date_of : ℕ → ℕ → ℕ → Date
date_of year month day = record { year = year; month = month; day = day }

-- jiff has the date, and counts so many days from 1970-01-01 to it
record Stands (days : ℕ) (date : Date) : Type 0 where
  civil : IsCivilDate (pos date.year) date.month date.day
  count : day_count (pos date.year) date.month date.day ≡ 4_371_953 + days

-- so it does with the next date and one day more, up to 9999-12-31
module _ (days : ℕ) (date : Date) (few : days < 2_932_896) (is : Stands days date) where
  next_month : date.day ≡ days_in_month (pos date.year) date.month → date.month < 12 → Stands (suc days) (date_of date.year (date.month + 1) 1)
  next_month last early = record {
    civil = (is.civil.0, omega arith, (omega arith, omega (arith, days_in_month_bounds (pos date.year) (date.month + 1))));
    count =
        let month = day_count-next_month (pos date.year) date.month is.civil.1.0 in
        let first = day_count-day (pos date.year) date.month date.day 1 is.civil.2.0 (omega arith) in
        omega (arith, month, first, last, is.count);
  }

  next_year : date.day ≡ days_in_month (pos date.year) date.month → date.month ≡ 12 → Stands (suc days) (date_of (date.year + 1) 1 1)
  next_year last december = record {
    civil = (omega (arith, signed_arith, is.civil.0, within), omega arith, (omega arith, omega (arith, days_in_month_bounds (pos (date.year + 1)) 1)));
    count = count;
  }
    where
      day : date.day ≡ 31
      day = last ∙ ap (days_in_month (pos date.year)) december

      here : day_count (pos date.year) 12 31 ≡ 4_371_953 + days
      here = sym (ap (λ m. day_count (pos date.year) m date.day) december ∙ ap (day_count (pos date.year) 12) day) ∙ is.count

      count : day_count (pos (date.year + 1)) 1 1 ≡ 4_371_953 + suc days
      count =
          let year = day_count-next_year (pos date.year) (pos (date.year + 1)) (omega (arith, signed_arith)) (omega (arith, signed_arith)) in
          omega (arith, year, day_count-last_of_year (pos date.year), here)

      within : date.year < 9999
      within = elim (cases_order date.year 9999) [
        | inl ends ↦ absurd (omega (arith, ap (λ y. day_count (pos (y + 1)) 1 1) ends, day_count-end, count, few))
        | inr (inl lt) ↦ lt
        | inr (inr gt) ↦ absurd (omega (arith, signed_arith, is.civil.0, gt))
      ]

  stands_next : Stands (suc days) (next_date date)
  stands_next = by_day (nat_lt date.day (days_in_month (pos date.year) date.month)) refl
    where
      by_month : date.day ≡ days_in_month (pos date.year) date.month → (b : Bool) → nat_lt date.month 12 ≡ b
          → Stands (suc days) (cond b (date_of date.year (date.month + 1) 1) (date_of (date.year + 1) 1 1))
      by_month last true told = next_month last (below date.month 12 told)
      by_month last false told = next_year last (omega (arith, is.civil.1, not_below date.month 12 told))

      by_day : (b : Bool) → nat_lt date.day (days_in_month (pos date.year) date.month) ≡ b
          → Stands (suc days) (cond b (date_of date.year date.month (date.day + 1)) (cond (nat_lt date.month 12) (date_of date.year (date.month + 1) 1) (date_of (date.year + 1) 1 1)))
      by_day true told = record {
        civil = (is.civil.0, is.civil.1, (omega arith, omega (arith, below date.day (days_in_month (pos date.year) date.month) told)));
        count = let next = day_count-day (pos date.year) date.month date.day (date.day + 1) is.civil.2.0 (omega arith) in omega (arith, next, is.count);
      }
      by_day false told =
          by_month (omega (arith, is.civil.2, not_below date.day (days_in_month (pos date.year) date.month) told)) (nat_lt date.month 12) refl

stands : (days : ℕ) → days ≤ 2_932_896 → Stands days (date_after days)
unfolding date_after
stands zero few = record { civil = (omega (arith, signed_arith), omega arith, omega arith); count = day_count-epoch }
stands (suc days) few = stands_next days (date_after days) (omega (arith, few)) (stands days (omega (arith, few)))

-- a date of jiff's is the one that comes so many days after 1970-01-01
same_date : (days : ℕ) (d : JiffDate) → epoch_day d ≡ pos days → date_after days ≡ date_of (unsigned_abs d.year) d.month d.day
same_date days d is =
    ap (λ y. date_of y (date_after days).month (date_after days).day) (ap unsigned_abs parts.0) ∙ ap (λ m. date_of (unsigned_abs d.year) m (date_after days).day) parts.1
    ∙ ap (date_of (unsigned_abs d.year) d.month) parts.2
  where
    there : Stands days (date_after days)
    there = stands days (omega (arith, signed_arith, epoch_day_range d, is))

    shown : JiffDate
    shown = record {
      year = pos (date_after days).year;
      month = (date_after days).month;
      day = (date_after days).day;
      year_in = there.civil.0;
      month_in = there.civil.1;
      day_in = there.civil.2;
    }

    parts : (pos (date_after days).year ≡ d.year) × ((date_after days).month ≡ d.month) × ((date_after days).day ≡ d.day)
    parts =
        let days_shown = days_from_civil-day_count (pos (date_after days).year) (date_after days).month (date_after days).day in
        epoch_day_injective shown d (omega (arith, signed_arith, days_shown, there.count, is))

-- what jiff shows at a moment
pub date_is : (moment : ℕ) (shown : DateTime) → civil_nanos shown ≡ pos moment *ℤ pos 1_000_000_000
    → date_text_at moment ≡ day_text (date_of (unsigned_abs shown.date.year) shown.date.month shown.date.day) ++ (codes " " ++ time_text (time_seconds shown.time))
unfolding date_text_at
date_is moment shown is =
    let parts = civil_nanos-parts shown in
    let days : epoch_day shown.date ≡ pos (moment / 86_400) = omega (arith, signed_arith, parts, is, time_nanos_bound shown.time) in
    let seconds : moment % 86_400 ≡ time_seconds shown.time = omega (arith, signed_arith, parts, is, time_nanos_bound shown.time) in
    ap (λ d. day_text d ++ (codes " " ++ time_text (moment % 86_400))) (same_date (moment / 86_400) shown.date days)
    ∙ ap (λ s. day_text (date_of (unsigned_abs shown.date.year) shown.date.month shown.date.day) ++ (codes " " ++ time_text s)) seconds
