use Rattle.std.proofs.Common.{ℕ, ◌≡◌, ◌+◌, arith, subst}
use Rattle.time_text.specs.Calendar.{days_before_month}
use Rattle.time_text.proofs.Months.{january, next_month, december}
use Rattle.time_text.proofs.calendar.month_with.Goals as goal

pub loop-month-init : goal.loop-month-init
loop-month-init c = (c.requires.counted, omega (arith, january c.args.year))

pub loop-month-preserved : goal.loop-month-preserved
loop-month-preserved c =
    let kept = c.loop-month.invariant.1 in
    let next = next_month c.args.year c.loop-month.month c.loop-month.auto.month in
    let days = c.days_of_month-days.ensures.value in
    (omega arith, omega (arith, kept, next, days, c.if-day-days.false))

pub returns-clause-date : goal.returns-clause-date
returns-clause-date c =
    let last : c.loop-month.month ≡ 12 = omega arith in
    let kept = subst (λ (m : ℕ). days_before_month c.args.year m + c.loop-month.day ≡ c.args.day_of_year) last
    c.loop-month.invariant.1 in
    let year = december c.args.year in
    record {
      from_january = omega arith;
      to_december = omega arith;
      from_first = c.loop-month.invariant.0;
      to_last =
          omega (arith, kept, year, c.requires.within);
    }
