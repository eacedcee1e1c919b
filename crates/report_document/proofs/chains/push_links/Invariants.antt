use Rattle.std.proofs.Common.{◌≡◌, ◌++◌, map, take}
use Rattle.report_document.specs.Telling.{values_of}
use Rattle.report_document.specs.declared.word.ReportWord.TheVariants.{Line as LineWord}
use Rattle.report_document.proofs.chains.push_links.Given as goal

abbrev pub invariant-loop-index : goal.invariant-loop-index
invariant-loop-index l =
    values_of l.words.items ≡ values_of l.initial.words.items ++ map LineWord (take l.index l.chain)
