use Rattle.std.specs.List.{flat_map}
use Rattle.std.proofs.Common.{◌≡◌, ◌++◌, take}
use Rattle.desk_reports.specs.Unanswered.{paragraph_octet}
use Rattle.desk_reports.proofs.unanswered.push_paragraph_octets.Given as goal

abbrev pub invariant-loop-octet : goal.invariant-loop-octet
invariant-loop-octet l = l.out.items ≡ l.initial.out.items ++ flat_map paragraph_octet (take l.octet-index l.text)
