use Rattle.report_render.specs.Picture.{AreMessages}
use Rattle.report_render.proofs.messages.messages_of.Given as goal

abbrev pub invariant-loop-piece : goal.invariant-loop-piece
invariant-loop-piece l = AreMessages l.dots l.arrows.items

abbrev pub invariant-loop-foreign : goal.invariant-loop-foreign
invariant-loop-foreign l = AreMessages l.dots l.arrows.items
