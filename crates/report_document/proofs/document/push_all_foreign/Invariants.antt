use Rattle.std.proofs.Common.{◌≡◌, ◌++◌, map, take}
use Rattle.std.specs.List.{flat_map}
use Rattle.report_document.specs.Telling.{told_of}
use Rattle.report_document.specs.Foreign.{foreign_told}
use Rattle.report_document.proofs.document.push_all_foreign.Given as goal

abbrev pub invariant-loop-entry : goal.invariant-loop-entry
invariant-loop-entry l =
    map told_of l.out.items
    ≡ map told_of l.initial.out.items
    ++ flat_map (foreign_told l.report.skew l.report.transit l.report.certificate.now) (take l.entry-index l.foreign)
