-- The calendar of RFC 3339 (section 5.6 and appendix C), and the moments that its dates and clocks show.
use Rattle.std.specs.Prelude.{◌≡◌, ℕ, zero, suc, ◌+◌, ◌*◌, ◌%◌, ◌≤◌, ◌==◌, Bool, false, not}
use Rattle.std.specs.Prelude.{◌&&◌, ◌||◌, if◌then◌else◌}
use Rattle.time_text.specs.declared.calendar.Date.{Date}
use Rattle.time_text.specs.declared.clock.Clock.{Clock}
use Rattle.time_text.specs.declared.clock.Offset.{Offset}

-- ---- dates

-- 4 divides the year, and it isn't a full century unless 400 divides it
abbrev pub is_leap : ℕ → Bool
is_leap year = (year % 4 == 0) && (not (year % 100 == 0) || (year % 400 == 0))

abbrev pub days_of_year : ℕ → ℕ
days_of_year year = if is_leap year then 366 else 365

-- (section 5.7)
abbrev pub days_of_month : (year month : ℕ) → ℕ
days_of_month year month =
    if month == 2 then (if is_leap year then 29 else 28)
    else if (month == 4) || (month == 6) || (month == 9) || (month == 11) then 30 else 31

-- the days of the years from 0 on that come before
unfoldable pub days_before_year : ℕ → ℕ
days_before_year zero = 0
days_before_year (suc year) = days_before_year year + days_of_year year

-- the days of the year's months that come before; January is 1
unfoldable pub days_before_month : (year month : ℕ) → ℕ
days_before_month year zero = 0
days_before_month year (suc zero) = 0
days_before_month year (suc (suc month)) = days_before_month year (suc month) + days_of_month year (suc month)

pub record IsDate (d : Date) : Type 0 where
  pub from_january : 1 ≤ d.month
  pub to_december : d.month ≤ 12
  pub from_first : 1 ≤ d.day
  pub to_last : d.day ≤ days_of_month d.year d.month

-- the days from the first of January of the year 0 to this one, both counted
abbrev pub day_number : Date → ℕ
day_number d = days_before_year d.year + days_before_month d.year d.month + d.day

-- 1970-01-01
abbrev pub first_day : ℕ
first_day = day_number (record { year = 1970; month = 1; day = 1 })

-- ---- clocks

-- a leap second, 60, is none: moments don't count it
pub record IsClock (c : Clock) : Type 0 where
  pub hour : c.hour ≤ 23
  pub minute : c.minute ≤ 59
  pub second : c.second ≤ 59

-- the milliseconds since midnight
abbrev pub since_midnight : Clock → ℕ
since_midnight c = 1000 * (60 * (60 * c.hour + c.minute) + c.second) + c.millisecond

pub record IsOffset (o : Offset) : Type 0 where
  pub hour : o.hour ≤ 23
  pub minute : o.minute ≤ 59

abbrev pub utc : Offset
utc = record { is_behind = false; hour = 0; minute = 0 }

-- ---- moments

-- the milliseconds by which local time is ahead of UTC, and by which it is behind: one of them is 0
abbrev pub ahead : Offset → ℕ
ahead o = if o.is_behind then 0 else 60000 * (60 * o.hour + o.minute)

abbrev pub behind : Offset → ℕ
behind o = if o.is_behind then 60000 * (60 * o.hour + o.minute) else 0

-- at this moment, in milliseconds since 1970 UTC, calendar and clock show this at this offset (section 4.2)
abbrev pub IsShownAt : Date → Clock → Offset → ℕ → Type 0
IsShownAt d c o m =
    m + 86400000 * first_day + ahead o ≡ 86400000 * day_number d + since_midnight c + behind o
