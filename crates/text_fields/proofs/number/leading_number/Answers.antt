use Rattle.std.proofs.Common.{arith, ◌∙◌, sym, get_or}
use Rattle.text_fields.proofs.Ahead.{none_read, digit_below, one_more, grows}
use Rattle.text_fields.proofs.number.leading_number.Goals as goal

pub loop-i-init : goal.loop-i-init
loop-i-init c = none_read _

pub overflow_mul-number : goal.overflow_mul-number
overflow_mul-number c = omega (arith, grows _ _ _ (omega arith) c.loop-i.invariant)

pub overflow_add-number : goal.overflow_add-number
overflow_add-number c = omega (
  arith,
  grows _ _ _ (omega arith) c.loop-i.invariant,
  digit_below (get_or c.args.text.now c.loop-i.i 0) (sym c.is_ascii_digit.ensures.value
      ∙ c.if-not-is_ascii_digit.false),
)

pub loop-i-preserved : goal.loop-i-preserved
loop-i-preserved c =
    rw c.from.ensures (one_more _ _ _ (omega arith) (omega arith) (sym c.is_ascii_digit.ensures.value
    ∙ c.if-not-is_ascii_digit.false) c.loop-i.invariant)
