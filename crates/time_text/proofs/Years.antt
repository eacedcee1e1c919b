-- The days before a year, counted without going through the years.
use Rattle.std.specs.Prelude.{◌≡◌, ℕ, zero, suc, ◌+◌, ◌*◌, ◌/◌}
use Rattle.std.proofs.Common.{arith, refl, ap, add-one, ◌≤◌, ◌<◌}
use Rattle.std.proofs.lemmas.Bool.Decides.{nat_tests}
use Rattle.time_text.specs.Calendar.{days_before_year, days_of_year, first_day, day_number, IsDate}
use Rattle.time_text.specs.declared.calendar.Date.{Date}
use Rattle.time_text.proofs.Months.{january}

pub one_more : (y d : ℕ) → d + (y + 99) / 100 ≡ 365 * y + (y + 3) / 4 + (y + 399) / 400
    → d + days_of_year y + (suc y + 99) / 100 ≡ 365 * suc y + (suc y + 3) / 4 + (suc y + 399) / 400
one_more y d h = grind (arith, nat_tests)

pub days_counted : (y : ℕ) → days_before_year y + (y + 99) / 100 ≡ 365 * y + (y + 3) / 4 + (y + 399) / 400
unfolding days_before_year
days_counted zero = refl
days_counted (suc y) = one_more y (days_before_year y) (days_counted y)

pub first_day_is : first_day ≡ 719529
first_day_is = omega (arith, days_counted 1970, january 1970)

pub next_year : (year : ℕ) → days_before_year (year + 1) ≡ days_before_year year + days_of_year year
unfolding days_before_year
next_year year = ap days_before_year (add-one year)

-- a year has 365 days at least and 366 at most
pub years_long : (year : ℕ) → 365 * year ≤ days_before_year year
years_long year = omega (arith, days_counted year)

pub years_short : (year : ℕ) → days_before_year year ≤ 366 * year
years_short year = omega (arith, days_counted year)

pub four_digits : (d : Date) → IsDate d → day_number d ≤ 3652425 → d.year ≤ 9999
four_digits d is le = omega (arith, days_counted d.year, is.from_first)

pub behind_years : (m : ℕ) → 253402300799999 < m → 86400000 * day_number (record { year = 10000; month = 1; day = 1 })
    ≤ m + 86400000 * first_day
behind_years m over = omega (arith, days_counted 10000, january 10000, first_day_is)
