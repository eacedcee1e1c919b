use Rattle.std.proofs.Common.{rules, List, ℕ, sym, subst}
use Rattle.std.specs.Option.{option_map}
use Rattle.report_times.specs.ReportTimes.{IsReportTimeBy}
use Rattle.desk_args.proofs.when.reported.Goals as goal

pub returns-in-Ok-clause-given : goal.returns-in-Ok-clause-given
returns-in-Ok-clause-given c = (
  search rules,
  subst (λ (t : List ℕ). IsReportTimeBy (option_map (λ z. z.now.table) c.args.zone) t c.in-Ok.moment) c.as_bytes.ensures.value
      c.in-Ok.ensures.given,
)

pub returns-in-Err-clause-none : goal.returns-in-Err-clause-none
returns-in-Err-clause-none c = λ other m is. c.in-Err.ensures.none other m is.0
    (subst (λ (t : List ℕ). IsReportTimeBy (option_map (λ z. z.now.table) c.args.zone) t m) (sym c.as_bytes.ensures.value)
    is.1)
