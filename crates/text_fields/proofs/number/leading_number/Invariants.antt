use Rattle.text_fields.proofs.Ahead.{AreRead}
use Rattle.text_fields.proofs.number.leading_number.Given as goal

abbrev pub invariant-loop-i : goal.invariant-loop-i
invariant-loop-i l = AreRead l.text l.i l.number
