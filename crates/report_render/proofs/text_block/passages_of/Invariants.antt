use Rattle.std.proofs.Common.{take}
use Rattle.report_render.specs.Spelling.{ArePassages}
use Rattle.report_render.proofs.text_block.passages_of.Given as goal

abbrev pub invariant-loop-block : goal.invariant-loop-block
invariant-loop-block l = ArePassages l.zone (take l.block-index l.blocks) l.passages.items
