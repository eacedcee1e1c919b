-- The days before a month, month by month.
use Rattle.std.specs.Prelude.{◌≡◌, ℕ, zero, suc, ◌+◌, ◌*◌, ◌≤◌}
use Rattle.std.proofs.Common.{arith, refl, ap, ◌∙◌, add-one}
use Rattle.std.proofs.lemmas.Bool.Decides.{nat_tests}
use Rattle.time_text.specs.Calendar.{days_before_month, days_of_month, days_of_year}

step : (year month : ℕ) → days_before_month year (suc (suc month))
    ≡ days_before_month year (suc month) + days_of_month year (suc month)
unfolding days_before_month
step year month = refl

pub next_month : (year month : ℕ) → 1 ≤ month → days_before_month year (month + 1)
    ≡ days_before_month year month + days_of_month year month
next_month year zero le = absurd (omega arith)
next_month year (suc month) le = ap (days_before_month year) (add-one (suc month)) ∙ step year month

pub month_long : (year month : ℕ) → days_of_month year month ≤ 31
month_long year month = grind (arith, nat_tests)

pub month_end : (year month : ℕ) → days_before_month year month ≤ 31 * month
unfolding days_before_month
month_end year zero = omega arith
month_end year (suc zero) = omega arith
month_end year (suc (suc month)) = omega (arith, month_end year (suc month), month_long year (suc month))

pub january : (year : ℕ) → days_before_month year 1 ≡ 0
unfolding days_before_month
january year = refl

-- the twelve months make the year
pub december : (year : ℕ) → days_before_month year 12 + 31 ≡ days_of_year year
unfolding days_before_month
december year = grind (arith, nat_tests)
