use Rattle.report_render.specs.Picture.{AreMessages}
use Rattle.report_render.proofs.messages.push_piece.Given as goal

abbrev pub invariant-loop-release : goal.invariant-loop-release
invariant-loop-release l = AreMessages l.dots l.arrows.items
