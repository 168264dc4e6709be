-- The days of the calendar, one after another.
use Rattle.std.proofs.Common.{◌≡◌, ℕ, zero, suc, ◌+◌, ◌<◌, ◌≤◌, Bool, true, false, cond, nat_lt, inl, inr}
use Rattle.std.proofs.Common.{refl, subst, arith, ℤ, pos, ◌+ℤ◌}
use Rattle.std.specs.Int.{IsInRange}
use Rattle.std.proofs.lemmas.Bool.{cases_lt, ltb-true, ltb-false}
use Rattle.jiff_core.specs.declared.civil.date.Date.{Date}
use Rattle.jiff_core.specs.Calendar.{days_in_month, day_count}
use Rattle.jiff_core.specs.Date.{epoch_day}
use Rattle.jiff_core.proofs.SignedLemmas.{signed_arith}
use Rattle.jiff_core.proofs.CalendarLemmas.{day_count-epoch, days_from_civil-day_count, days_in_month_bounds}
use Rattle.jiff_core.proofs.CalendarLemmas.{day_count-day, day_count-next_month, day_count-next_year}
use Rattle.jiff_core.proofs.CalendarLemmas.{day_count-day_of_year, day_count-last_of_year, day_count-later_year}
use Rattle.jiff_core.proofs.CalendarLemmas.{day_count-end, day_count_bounds}
use Rattle.jiff_core.proofs.DateLemmas.{epoch_day_range, epoch_day_injective}
use Rattle.dump_views.specs.Texts.{CalendarDay, day_after, day_since, day_of}

-- a day of the calendar, so many days behind 1 January 1970
record IsDayAt (d : CalendarDay) (n : ℕ) : Type 0 where
  month : IsInRange 1 12 d.month
  day : IsInRange 1 (days_in_month (pos d.year) d.month) d.day
  count : day_count (pos d.year) d.month d.day ≡ n + 4_371_953

-- the first day of the next year
year_after : (y m d n : ℕ) → m ≡ 12 → d ≡ 31 → day_count (pos y) m d ≡ n + 4_371_953
    → day_count (pos (y + 1)) 1 1 ≡ n + 1 + 4_371_953
year_after y m d n last late count =
    let there : pos (y + 1) ≡ pos y +ℤ pos 1 = omega (arith, signed_arith) in
    omega (
      arith,
      rw last at rw late at count,
      day_count-next_year (pos y) (pos (y + 1))
          (omega (arith, signed_arith)) there,
      day_count-last_of_year (pos y),
    )

last_of_month : (y m d : ℕ) → m ≡ 12 → d ≤ days_in_month (pos y) m → days_in_month (pos y) m ≤ d → d ≡ 31
last_of_month y m d last low high = let long : days_in_month (pos y) m ≡ 31 = rw last refl in omega (arith, long)

is_day_after : (d : CalendarDay) (n : ℕ) → IsDayAt d n → IsDayAt (day_after d) (n + 1)
is_day_after d n at = by_tests (nat_lt d.day (days_in_month (pos d.year) d.month)) (nat_lt d.month 12) refl refl
  where
    y : ℤ
    y = pos d.year

    by_tests : (a b : Bool) → nat_lt d.day (days_in_month (pos d.year) d.month) ≡ a → nat_lt d.month 12 ≡ b
        → IsDayAt (cond a (record { year = d.year; month = d.month; day = d.day + 1 })
        (cond b (record { year = d.year; month = d.month + 1; day = 1 })
        (record { year = d.year + 1; month = 1; day = 1 }))) (n + 1)
    by_tests true b less early =
        let room : d.day < days_in_month (pos d.year) d.month = ltb-true _ _ less in
        record {
          month = at.month;
          day = (omega arith, omega arith);
          count = omega (arith, at.count, day_count-day (pos d.year) d.month d.day (d.day + 1) at.day.0 (omega arith));
        }
    by_tests false true less early =
        let room : d.month < 12 = ltb-true _ _ early in
        let full : days_in_month (pos d.year) d.month ≤ d.day = ltb-false _ _ less in
        record {
          month = (omega arith, omega arith);
          day = (omega arith, omega (arith, days_in_month_bounds (pos d.year) (d.month + 1)));
          count = omega (
            arith,
            at.day,
            at.count,
            day_count-day (pos d.year) d.month d.day 1 at.day.0 (omega arith),
            day_count-next_month (pos d.year) d.month at.month.0,
          );
        }
    by_tests false false less early =
        let full : 12 ≤ d.month = ltb-false _ _ early in
        let last : d.month ≡ 12 = omega (arith, at.month) in
        let late : d.day ≡ 31 = last_of_month d.year d.month d.day last at.day.1 (ltb-false _ _ less) in
        record {
          month = (omega arith, omega arith);
          day = (omega arith, omega (arith, days_in_month_bounds (pos (d.year + 1)) 1));
          count = year_after d.year d.month d.day n last late at.count;
        }

is_day_since : (n : ℕ) → IsDayAt (day_since n) n
unfolding day_since
is_day_since zero = record {
  month = (omega arith, omega arith);
  day = (omega arith, omega (arith, days_in_month_bounds (pos 1970) 1));
  count = day_count-epoch;
}
is_day_since (suc n) = let next : n + 1 ≡ suc n = omega arith
    in subst (IsDayAt (day_after (day_since n))) next (is_day_after (day_since n) n (is_day_since n))

-- the year 9999 ends with day 2,932,896
day_of_year_9999 : (d : CalendarDay) (n : ℕ) → IsDayAt d n → d.year ≤ 9999 → n ≤ 2_932_896
day_of_year_9999 d n at early =
    omega (
      arith,
      at.count,
      day_count_bounds (pos d.year)
          d.month d.day ((omega (arith, signed_arith), omega (arith, signed_arith)), at.month, at.day),
    )

day_of_later_year : (d : CalendarDay) (n : ℕ) → IsDayAt d n → 9999 < d.year → 2_932_896 < n
day_of_later_year d n at late =
    let next : pos 10000 ≡ pos 9999 +ℤ pos 1 = omega (arith, signed_arith) in
    omega (
      arith,
      at.count,
      at.day.0,
      day_count-end,
      day_count-day (pos d.year) d.month d.day 1 at.day.0 (omega arith),
      day_count-day_of_year (pos d.year) d.month 1 (omega arith),
      day_count-next_year (pos 9999) (pos 10000) (omega (arith, signed_arith)) next,
      day_count-later_year (pos 9999) (pos d.year) (omega (arith, signed_arith)) (omega (arith, signed_arith)),
    )

pub late_year : (n : ℕ) → 2_932_896 < n → 9999 < (day_since n).year
late_year n late =
    elim (cases_lt 9999 (day_since n).year) [
      | inl later ↦ later
      | inr early ↦ absurd (omega (arith, day_of_year_9999 (day_since n) n (is_day_since n) early))
    ]

-- a date of the library is the day of its number
pub date_is : (date : Date) (n : ℕ) → epoch_day date ≡ pos n → (day_of date ≡ day_since n) × ((day_since n).year ≤ 9999)
date_is date n is =
    let d = day_since n in
    let at = is_day_since n in
    let range : n ≤ 2_932_896 = omega (arith, signed_arith, epoch_day_range date) in
    let early : d.year ≤ 9999 = elim (cases_lt 9999 d.year) [
      | inl later ↦ absurd (omega (arith, day_of_later_year d n at later))
      | inr early ↦ early
    ] in
    let other : Date = record {
      year = pos d.year;
      month = d.month;
      day = d.day;
      year_in = (omega (arith, signed_arith), omega (arith, signed_arith));
      month_in = at.month;
      day_in = at.day;
    } in
    let same = epoch_day_injective date other
    (omega (arith, signed_arith, is, at.count, days_from_civil-day_count (pos d.year) d.month d.day)) in
    (same_day date d same.0 same.1 same.2, early)
  where
    same_day : (date : Date) (d : CalendarDay) → date.year ≡ pos d.year → date.month ≡ d.month
        → date.day ≡ d.day → day_of date ≡ d
    same_day date d year month day = rw (year, month, day) refl
