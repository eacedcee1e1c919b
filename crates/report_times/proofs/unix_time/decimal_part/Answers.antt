use Rattle.std.proofs.Common.{rules, arith, ◌∙◌, sym, get_or}
use Rattle.text_fields.proofs.Ahead.{digit_below}
use Rattle.time_text.proofs.Decimals.{fraction_step, fraction_stop, fraction_end, one_kept, one_within}
use Rattle.report_times.proofs.unix_time.decimal_part.Goals as goal

pub returns-then-not-is_ascii_digit-clause-value : goal.returns-then-not-is_ascii_digit-clause-value
returns-then-not-is_ascii_digit-clause-value c =
    let stop = fraction_stop c.args.digits.now c.loop-octet.worth c.loop-octet.octet-index (search rules)
    (sym c.is_ascii_digit.ensures.value ∙ c.if-not-is_ascii_digit.true) in
    let kept = c.loop-octet.invariant.0 in
    omega arith

pub loop-octet-preserved : goal.loop-octet-preserved
loop-octet-preserved c =
    let is_digit = sym c.is_ascii_digit.ensures.value ∙ c.if-not-is_ascii_digit.false in
    let step = fraction_step c.args.digits.now c.loop-octet.worth c.loop-octet.octet-index (search rules) is_digit in
    let below = digit_below (get_or c.args.digits.now c.loop-octet.octet-index 0) is_digit in (
      one_kept _ _ _ _ _ _ _ c.loop-octet.invariant.0 step c.from.ensures,
      one_within _ _ _ c.loop-octet.invariant.1 (omega arith),
    )

pub returns-clause-value : goal.returns-clause-value
returns-clause-value c =
    let stop = fraction_end c.args.digits.now c.loop-octet.worth c.loop-octet.octet-index (search rules) in
    let kept = c.loop-octet.invariant.0 in
    omega arith
