use Rattle.std.proofs.Common.{◌≡◌, ◌++◌, map, take}
use Rattle.report_document.specs.Telling.{told_of}
use Rattle.report_document.specs.Pieces.{releases_told}
use Rattle.report_document.proofs.pieces.push_releases.Given as goal

abbrev pub invariant-loop-release : goal.invariant-loop-release
invariant-loop-release l =
    map told_of l.out.items
    ≡ map told_of l.initial.out.items ++ releases_told l.skew l.piece (take l.release-index l.releases)
