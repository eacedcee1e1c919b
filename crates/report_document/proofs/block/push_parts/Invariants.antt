use Rattle.std.proofs.Common.{◌≡◌, ◌++◌, take}
use Rattle.report_document.specs.Telling.{values_of, values_in}
use Rattle.report_document.proofs.block.push_parts.Given as goal

abbrev pub invariant-loop-part : goal.invariant-loop-part
invariant-loop-part l =
    values_of l.words.items ≡ values_of l.initial.words.items ++ values_in (take l.part-index l.parts)
