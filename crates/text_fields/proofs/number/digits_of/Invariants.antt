use Rattle.std.proofs.Common.{◌≡◌, drop}
use Rattle.text_fields.specs.Number.{digits_of}
use Rattle.text_fields.proofs.number.digits_of.Given as goal

-- the number so far and the digits that are left make the number
abbrev pub invariant-loop-b : goal.invariant-loop-b
invariant-loop-b l = digits_of l.n (drop l.b-index l.word) ≡ digits_of 0 l.word
