use Rattle.std.proofs.Common.{◌≡◌, ◌++◌, rules, subst, sym, List, ℕ, codes}
use Rattle.time_text.specs.Time.{IsTimeOf}
use Rattle.report_times.specs.DateTimes.{normal_form}
use Rattle.report_times.proofs.date_time.local_time.Goals as goal

pub returns-clause-none : goal.returns-clause-none
returns-clause-none c none m within is =
    let whole : c.deref.result.now ≡ normal_form c.args.text.now ++ codes "Z" = search rules in
    c.read_time.ensures.none none m within (subst (λ (text : List ℕ). IsTimeOf text m) (sym whole) is)
