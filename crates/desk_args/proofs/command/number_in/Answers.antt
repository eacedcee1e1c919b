use Rattle.std.proofs.Common.{◌∙◌, sym, arith}
use Rattle.text_fields.proofs.NumberLaws.{number_takes}
use Rattle.desk_args.proofs.Numbers.{none_spelled, none_within}
use Rattle.desk_args.proofs.command.number_in.Goals as goal

pub returns-in_err-number-clause-none : goal.returns-in_err-number-clause-none
returns-in_err-number-clause-none c none n is =
    none_spelled c.args.most c.ranges.most.fits _ (rw (sym c.as_bytes.ensures.value) c.in_err-number.ensures) n is

pub returns-then-number-most-clause-none : goal.returns-then-number-most-clause-none
returns-then-number-most-clause-none c none n is =
    none_within c.args.most c.ranges.most.fits c.args.text.now c.in_ok-number.number
    (rw (sym c.as_bytes.ensures.value) c.in_ok-number.ensures) (omega (arith, c.if-number-most.true)) n is

pub returns-clause-given : goal.returns-clause-given
returns-clause-given c = (
  sym c.as_bytes.ensures.value ∙ (number_takes _ _ c.in_ok-number.ensures).0,
  omega (arith, c.if-number-most.false),
)
