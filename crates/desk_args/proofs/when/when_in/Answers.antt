use Rattle.std.proofs.Common.{sym, subst, Some, ◌≢◌, ℕ}
use Rattle.std.specs.Prelude.{IfOk, IfErr}
use Rattle.std.specs.Option.{option_map}
use Rattle.report_times.specs.declared.error.ReportTimeError.TheVariants.{Memory}
use Rattle.desk_args.specs.declared.when.BareNumbers.{BareNumbers}
use Rattle.desk_args.specs.Given.{IsWhen}
use Rattle.desk_args.proofs.when.when_in.Goals as goal

pub returns-in-SureMilliseconds-clause-given : goal.returns-in-SureMilliseconds-clause-given
returns-in-SureMilliseconds-clause-given c =
    subst (λ (n : BareNumbers). IfOk c.reported.result
    (IsWhen (option_map (λ z. z.now.table) c.args.zone) n (Some c.args.text.now))) (sym c.in-SureMilliseconds.is)
    c.reported.ensures.given

pub returns-in-SureMilliseconds-clause-none : goal.returns-in-SureMilliseconds-clause-none
returns-in-SureMilliseconds-clause-none c =
    subst (λ (n : BareNumbers). IfErr c.reported.result
    (λ e. e ≢ Memory → (m : ℕ) → IsWhen (option_map (λ z. z.now.table) c.args.zone) n (Some c.args.text.now) m → ⊥))
    (sym c.in-SureMilliseconds.is) c.reported.ensures.none

pub returns-in-AnyMilliseconds-clause-given : goal.returns-in-AnyMilliseconds-clause-given
returns-in-AnyMilliseconds-clause-given c =
    subst (λ (n : BareNumbers). IfOk c.reported_or_counted.result
    (IsWhen (option_map (λ z. z.now.table) c.args.zone) n (Some c.args.text.now))) (sym c.in-AnyMilliseconds.is)
    c.reported_or_counted.ensures.given

pub returns-in-AnyMilliseconds-clause-none : goal.returns-in-AnyMilliseconds-clause-none
returns-in-AnyMilliseconds-clause-none c =
    subst (λ (n : BareNumbers). IfErr c.reported_or_counted.result
    (λ e. e ≢ Memory → (m : ℕ) → IsWhen (option_map (λ z. z.now.table) c.args.zone) n (Some c.args.text.now) m → ⊥))
    (sym c.in-AnyMilliseconds.is) c.reported_or_counted.ensures.none
