-- Moments as RFC 3339 writes them (section 5.6): milliseconds since 1970 UTC, on the calendar of specs/Calendar.
use Rattle.std.specs.Prelude.{◌≡◌, ℕ, ◌+◌, ◌-◌, ◌*◌, ◌/◌, ◌%◌, ◌<◌, ◌≤◌, nat_lt, ◌⊎◌, ◌==◌, Bool}
use Rattle.std.specs.Prelude.{List, [], ◌∷◌, ◌++◌, length, take, drop, codes, true, if◌then◌else◌, get_or}
use Rattle.std.specs.Char.{is_ascii_digit, to_ascii_uppercase}
use Rattle.std.specs.Fmt.{decimal}
use Rattle.time_text.specs.declared.calendar.Date.{Date}
use Rattle.time_text.specs.declared.clock.Clock.{Clock}
use Rattle.time_text.specs.declared.clock.Offset.{Offset}
use Rattle.time_text.specs.Calendar.{IsDate, IsClock, IsOffset, IsShownAt, day_number, first_day, utc}

-- ---- forms

-- the octet may stand for one of a form, whose 0 is any digit
abbrev pub is_alike : (form octet : ℕ) → Bool
is_alike form octet = if form == 48 then is_ascii_digit octet else to_ascii_uppercase octet == form

pub record IsLike (form text : List ℕ) : Type 0 where
  pub long : length form ≡ length text
  pub each : (k : ℕ) → k < length form → is_alike (get_or form k 0) (get_or text k 0) ≡ true

-- in UTC, or at an offset ahead of it or behind it
abbrev pub IsOneOf : (utc ahead behind text : List ℕ) → Type 0
IsOneOf utc ahead behind text = IsLike utc text ⊎ (IsLike ahead text ⊎ IsLike behind text)

-- up to three decimals of a second, and an offset
abbrev pub IsTail : List ℕ → Type 0
IsTail tail =
    IsOneOf (codes "Z") (codes "+00:00") (codes "-00:00") tail
    ⊎ (IsOneOf (codes ".0Z") (codes ".0+00:00") (codes ".0-00:00") tail
    ⊎ (IsOneOf (codes ".00Z") (codes ".00+00:00") (codes ".00-00:00") tail
    ⊎ IsOneOf (codes ".000Z") (codes ".000+00:00") (codes ".000-00:00") tail))

abbrev pub IsTimeForm : List ℕ → Type 0
IsTimeForm text = IsLike (codes "0000-00-00T00:00:00") (take 19 text) × IsTail (drop 19 text)

-- ---- what a text of that form shows

-- the number that two digits write, from a place on
abbrev pub two_at : (place : ℕ) → List ℕ → ℕ
two_at place text = 10 * (get_or text place 0 - 48) + (get_or text (place + 1) 0 - 48)

abbrev pub date_of : List ℕ → Date
date_of text = record { year = 100 * two_at 0 text + two_at 2 text; month = two_at 5 text; day = two_at 8 text }

-- digits up to the first octet that is none, the first of them worth so much
unfoldable pub fraction : (worth : ℕ) → List ℕ → ℕ
fraction worth [] = 0
fraction worth (octet ∷ rest) = if is_ascii_digit octet then worth * (octet - 48) + fraction (worth / 10) rest else 0

-- the decimals behind a point
abbrev pub milliseconds_of : List ℕ → ℕ
milliseconds_of text = if get_or text 19 0 == 46 then fraction 100 (drop 20 text) else 0

abbrev pub clock_of : List ℕ → Clock
clock_of text = record {
  hour = two_at 11 text;
  minute = two_at 14 text;
  second = two_at 17 text;
  millisecond = milliseconds_of text;
}

-- a text of 25 octets or more ends with a sign, hours, a colon and minutes; a shorter one with Z
abbrev pub offset_of : List ℕ → Offset
offset_of text = if nat_lt (length text) 25 then utc else record {
  is_behind = get_or text (length text - 6) 0 == 45;
  hour = two_at (length text - 5) text;
  minute = two_at (length text - 2) text;
}

-- the text has the form of a time, of a day that the calendar has and a clock shows, at an offset; at this moment
pub record IsTimeOf (text : List ℕ) (m : ℕ) : Type 0 where
  pub form : IsTimeForm text
  pub date : IsDate (date_of text)
  pub clock : IsClock (clock_of text)
  pub offset : IsOffset (offset_of text)
  pub moment : IsShownAt (date_of text) (clock_of text) (offset_of text) m

-- ---- what is written

abbrev pub two : ℕ → List ℕ
two n = (48 + n / 10) ∷ (48 + n % 10) ∷ []

abbrev pub three : ℕ → List ℕ
three n = (48 + n / 100) ∷ two (n % 100)

abbrev pub date_text : Date → List ℕ
date_text d = two (d.year / 100) ++ (two (d.year % 100) ++ (45 ∷ two d.month ++ (45 ∷ two d.day)))

abbrev pub clock_text : Clock → List ℕ
clock_text c = two c.hour ++ (58 ∷ two c.minute ++ (58 ∷ two c.second ++ (46 ∷ three c.millisecond)))

-- what calendar and clock show of the moment in UTC
pub record IsClockText (m : ℕ) (text : List ℕ) : Type 0 where
  pub date : Date
  pub clock : Clock
  pub date_is : IsDate date
  pub four_digits : date.year ≤ 9999
  pub clock_is : IsClock clock
  pub three_decimals : clock.millisecond ≤ 999
  pub moment : IsShownAt date clock utc m
  pub spelled : text ≡ date_text date ++ (84 ∷ clock_text clock ++ 90 ∷ [])

-- that, or the milliseconds from the year 10000 on
abbrev pub IsTimeText : ℕ → List ℕ → Type 0
IsTimeText m text =
    IsClockText m text
    ⊎ ((86400000 * day_number (record { year = 10000; month = 1; day = 1 }) ≤ m + 86400000 * first_day)
    × (text ≡ decimal m))

-- ---- laws

-- a text is a time of one moment at most
abbrev pub OneMoment : Type 0
OneMoment = (text : List ℕ) (m n : ℕ) → IsTimeOf text m → IsTimeOf text n → m ≡ n

-- what is written of a moment is a time of it
abbrev pub ReadAgain : Type 0
ReadAgain = (text : List ℕ) (m : ℕ) → IsClockText m text → IsTimeOf text m
