use Rattle.std.proofs.Common.{◌≡◌, ◌*◌, take, drop}
use Rattle.text_fields.specs.Octets.{octets_of}
use Rattle.text_fields.proofs.Digits.{octets_front}
use Rattle.text_fields.proofs.octets.octets_of.Given as goal

-- the octets so far and the digits that are left make the octets
abbrev pub invariant-loop-i : goal.invariant-loop-i
invariant-loop-i l = octets_front (take l.i l.out) (octets_of (drop (2 * l.i) l.word)) ≡ octets_of l.word
