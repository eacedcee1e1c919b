use Rattle.std.proofs.Common.{◌≡◌, ◌++◌, map, take}
use Rattle.std.specs.List.{flat_map}
use Rattle.report_document.specs.Telling.{told_of}
use Rattle.report_document.specs.Reasons.{lease_told}
use Rattle.report_document.proofs.whole.push_leases.Given as goal

abbrev pub invariant-loop-lease : goal.invariant-loop-lease
invariant-loop-lease l =
    map told_of l.out.items
    ≡ map told_of l.initial.out.items ++ flat_map (lease_told l.query) (take l.lease-index l.leases)
