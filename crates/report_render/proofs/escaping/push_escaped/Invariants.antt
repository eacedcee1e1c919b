use Rattle.std.proofs.Common.{◌≡◌, ◌++◌, take}
use Rattle.report_render.specs.Escaping.{escaped}
use Rattle.report_render.proofs.escaping.push_escaped.Given as goal

abbrev pub invariant-loop-octet : goal.invariant-loop-octet
invariant-loop-octet l = l.out.items ≡ l.initial.out.items ++ escaped (take l.octet-index l.text)
