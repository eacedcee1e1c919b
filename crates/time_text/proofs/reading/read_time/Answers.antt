use Rattle.std.proofs.Common.{rules, sym}
use Rattle.std.proofs.lemmas.Option.{IfSome_then}
use Rattle.time_text.proofs.Forms.{form_long, same_shown}
use Rattle.time_text.proofs.reading.read_time.Goals as goal

pub date_of-date-requires : goal.date_of-date-requires
date_of-date-requires c = form_long _ (c.is_time_form.ensures.0 (search rules))

pub clock_of-clock-requires : goal.clock_of-clock-requires
clock_of-clock-requires c = form_long _ (c.is_time_form.ensures.0 (search rules))

pub returns-clause-found : goal.returns-clause-found
returns-clause-found c = IfSome_then c.moment_of.result c.moment_of.ensures.found (λ m shown. record {
  form = c.is_time_form.ensures.0 (search rules);
  date = rw (← c.date_of-date.ensures.date) (search rules);
  clock = rw (← c.clock_of-clock.ensures.clock) (search rules);
  offset = rw (← c.offset_of-offset.ensures) (search rules);
  moment = same_shown _ _ _ _ _ _ m c.date_of-date.ensures.date c.clock_of-clock.ensures.clock
      c.offset_of-offset.ensures shown;
})

pub returns-clause-none : goal.returns-clause-none
returns-clause-none c none m most is =
    c.moment_of.ensures.none none m most (same_shown _ _ _ _ _ _ m (sym c.date_of-date.ensures.date)
    (sym c.clock_of-clock.ensures.clock) (sym c.offset_of-offset.ensures) is.moment)
