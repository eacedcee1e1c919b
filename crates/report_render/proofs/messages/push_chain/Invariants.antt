use Rattle.report_render.specs.Picture.{AreMessages}
use Rattle.report_render.proofs.messages.push_chain.Given as goal

abbrev pub invariant-loop-index : goal.invariant-loop-index
invariant-loop-index l = AreMessages l.dots l.arrows.items
