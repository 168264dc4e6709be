-- The text of a listing.
use Rattle.std.specs.Prelude.{ℕ, zero, suc, ◌+◌, ◌-◌, ◌/◌, ◌%◌, nat_le, nat_lt, List, [], ◌∷◌}
use Rattle.std.specs.Prelude.{◌++◌, length, replicate, Option, Some, None}
use Rattle.std.specs.Prelude.{if◌then◌else◌, codes, pos, unsigned_abs}
use Rattle.jiff_core.specs.Calendar.{days_in_month}
use Rattle.jiff_core.specs.declared.civil.date.Date.{Date}

-- the last two digits of a number
abbrev pub two_digits : ℕ → List ℕ
two_digits n = (48 + n / 10 % 10) ∷ (48 + n % 10) ∷ []

-- its last four digits
abbrev pub year_text : ℕ → List ℕ
year_text year = two_digits (year / 100) ++ two_digits year

-- a day of the calendar
pub record CalendarDay : Type 0 where
  pub year : ℕ
  pub month : ℕ
  pub day : ℕ

-- the day behind it
abbrev pub day_after : CalendarDay → CalendarDay
day_after d =
    if nat_lt d.day (days_in_month (pos d.year) d.month) then record { year = d.year; month = d.month; day = d.day + 1 }
    else (if nat_lt d.month 12 then record {
      year = d.year;
      month = d.month + 1;
      day = 1;
    } else record { year = d.year + 1; month = 1; day = 1 })

-- the day so many days behind 1 January 1970
unfoldable pub day_since : ℕ → CalendarDay
day_since zero = record { year = 1970; month = 1; day = 1 }
day_since (suc n) = day_after (day_since n)

-- a day that the calendar's library has
abbrev pub day_of : Date → CalendarDay
day_of d = record { year = unsigned_abs d.year; month = d.month; day = d.day }

-- a day as YYYY-MM-DD
abbrev pub date_text : CalendarDay → List ℕ
date_text d = year_text d.year ++ codes "-" ++ two_digits d.month ++ codes "-" ++ two_digits d.day

-- so many seconds of a day as hh:mm:ss
abbrev pub clock_text : ℕ → List ℕ
clock_text s = two_digits (s / 3600) ++ codes ":" ++ two_digits (s / 60 % 60) ++ codes ":" ++ two_digits (s % 60)

-- the room of a time: `-` behind the year 9999
abbrev pub no_utc : List ℕ
no_utc = codes "-                   "

-- the text of so many seconds since 1970, as YYYY-MM-DDThh:mm:ssZ: the day of the calendar and the time of day, by UTC
abbrev pub utc_text : ℕ → List ℕ
utc_text s = if nat_le (day_since (s / 86400)).year 9999 then date_text (day_since (s / 86400)) ++ codes "T"
    ++ clock_text (s % 86400) ++ codes "Z" else no_utc

-- and `-` where no time is known
abbrev pub utc_column : Option ℕ → List ℕ
utc_column None = no_utc
utc_column (Some s) = utc_text s

-- a text at the right end of a column of eight
abbrev pub right_aligned : List ℕ → List ℕ
right_aligned text = replicate (8 - length text) 0x20 ++ text
