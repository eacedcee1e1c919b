use Rattle.std.proofs.Common.{◌≡◌, ◌++◌, take}
use Rattle.text_fields.specs.Octets.{hex}
use Rattle.text_fields.proofs.octets.push_octets.Given as goal

abbrev pub invariant-loop-octet : goal.invariant-loop-octet
invariant-loop-octet l = l.out.items ≡ l.fn.out.items ++ hex (take l.octet-index l.octets)
