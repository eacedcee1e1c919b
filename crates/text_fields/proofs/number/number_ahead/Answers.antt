use Rattle.std.proofs.Common.{◌≡◌, true, arith, sym, ◌∙◌, eqb, get_or}
use Rattle.std.proofs.lemmas.Bool.{eq-eqb}
use Rattle.text_fields.proofs.Ahead.{is_last, is_first}
use Rattle.text_fields.proofs.number.number_ahead.Goals as goal
use Rattle.text_fields.proofs.number.number_ahead.Goals.{then-count-gt1, else-count-gt1}

pub returns-then-count-text : goal.returns-then-count-text
returns-then-count-text c = is_last _ _ _ _ (record {
  value = c.leading_number-number.ensures.value;
  within = c.leading_number-number.ensures.within;
  some = omega arith;
  lead = elim c.if-count-gt1.branch [
    | then-count-gt1 w ↦ λ lt e.
        (let zero : eqb (get_or c.args.text.now 0 0) 48 ≡ true = eq-eqb _ _ e in cc)
    | else-count-gt1 w ↦ λ lt. absurd (omega arith)
  ];
  other = sym c.is_ascii_digit.ensures.value ∙ c.if-is_ascii_digit.false;
}) c.if-count-text.true

pub returns : goal.returns
returns c = is_first _ _ _ _ (record {
  value = c.leading_number-number.ensures.value;
  within = c.leading_number-number.ensures.within;
  some = omega arith;
  lead = elim c.if-count-gt1.branch [
    | then-count-gt1 w ↦ λ lt e.
        (let zero : eqb (get_or c.args.text.now 0 0) 48 ≡ true = eq-eqb _ _ e in cc)
    | else-count-gt1 w ↦ λ lt. absurd (omega arith)
  ];
  other = sym c.is_ascii_digit.ensures.value ∙ c.if-is_ascii_digit.false;
}) c.if-count-text.false c.if-text-count.false
