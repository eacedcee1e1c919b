use Rattle.std.proofs.Common.{◌≡◌, ◌++◌, map, take}
use Rattle.std.specs.List.{flat_map}
use Rattle.report_document.specs.Telling.{told_of}
use Rattle.report_document.specs.Whole.{cited_told}
use Rattle.report_document.proofs.document.push_lines.Given as goal

abbrev pub invariant-loop-cited : goal.invariant-loop-cited
invariant-loop-cited l =
    map told_of l.out.items ≡ map told_of l.initial.out.items ++ flat_map cited_told (take l.cited-index l.lines)
