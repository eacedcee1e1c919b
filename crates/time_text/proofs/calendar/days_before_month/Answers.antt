use Rattle.std.proofs.Common.{◌∙◌, ap₂, sym, ◌+◌}
use Rattle.time_text.proofs.Months.{january, next_month}
use Rattle.time_text.proofs.calendar.days_before_month.Goals as goal

pub loop-earlier-init : goal.loop-earlier-init
loop-earlier-init c = sym (january c.args.year)

pub loop-earlier-preserved : goal.loop-earlier-preserved
loop-earlier-preserved c =
    ap₂ (λ x y. x + y) c.loop-earlier.invariant c.days_of_month-days.ensures.value
    ∙ sym (next_month c.args.year c.loop-earlier.earlier c.loop-earlier.auto.earlier)
