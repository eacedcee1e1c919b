use Rattle.std.proofs.Common.{◌≡◌, ℕ, IfOk, subst}
use Rattle.time_text.specs.Time.{IsTimeText}
use Rattle.report_data.proofs.Moments.{past_readings, of_digits}
use Rattle.report_data.proofs.values.utc_text.Goals as goal

pub returns-in-Ok : goal.returns-in-Ok
returns-in-Ok c =
    let m = c.args.milliseconds in
    let same = subst (λ r. IfOk r (λ x. x ≡ m)) c.in-Ok.is c.new.ensures.made in
    subst (λ (n : ℕ). IfOk c.moment_text.result (λ text. IsTimeText n text.items)) same c.moment_text.ensures

pub returns-in-Err : goal.returns-in-Err
returns-in-Err c =
    let m = c.args.milliseconds in
    of_digits (λ text. text.items) m c.digits_of.result
    (past_readings m c.new.result c.in-Err.field-0 c.new.ensures.fits c.in-Err.is) c.digits_of.ensures
