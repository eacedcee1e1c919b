use Rattle.std.proofs.Common.{take}
use Rattle.report_render.specs.Spelling.{AddsWords}
use Rattle.report_render.proofs.words.push_words.Given as goal

abbrev pub invariant-loop-word : goal.invariant-loop-word
invariant-loop-word l = AddsWords l.zone (take l.word-index l.words) l.initial.out.items l.out.items
