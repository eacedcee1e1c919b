use Rattle.std.proofs.Common.{◌≡◌, drop}
use Rattle.prefix_range.specs.Spelling.{digits_on}
use Rattle.prefix_range.proofs.numeral.digits_on.Given as goal

-- the number so far and the digits that are left make the number
abbrev pub invariant-loop-byte : goal.invariant-loop-byte
invariant-loop-byte l = digits_on l.base l.number (drop l.byte-index l.word) ≡ digits_on l.base 0 l.word
