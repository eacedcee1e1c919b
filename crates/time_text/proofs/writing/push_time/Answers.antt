use Rattle.std.proofs.Common.{inr, ap, arith}
use Rattle.std.specs.Fmt.{decimal}
use Rattle.std.proofs.lemmas.Result.{on_ok_weaker}
use Rattle.time_text.proofs.Years.{behind_years}
use Rattle.time_text.proofs.writing.push_time.Goals as goal

pub returns-then-milliseconds-gt-LAST : goal.returns-then-milliseconds-gt-LAST
returns-then-milliseconds-gt-LAST c =
    let same = c.milliseconds-milliseconds.ensures.value in
    on_ok_weaker c.push_number.result
    (λ is. (
      decimal c.milliseconds-milliseconds.result,
      is,
      inr (behind_years c.args.moment (omega arith), ap decimal same),
    ))
    c.push_number.ensures
