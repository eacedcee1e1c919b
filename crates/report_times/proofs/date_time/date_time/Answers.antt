use Rattle.std.proofs.Common.{rules, subst, sym, ◌∙◌}
use Rattle.time_text.specs.Time.{IsTimeOf}
use Rattle.report_times.proofs.date_time.date_time.Goals as goal

pub returns-clause-none : goal.returns-clause-none
returns-clause-none c = λ none m within is. c.read_time.ensures.none none m within
    (subst (λ text. IsTimeOf text m) (sym (c.deref.ensures.value ∙ c.in_ok-normal.ensures)) is)
