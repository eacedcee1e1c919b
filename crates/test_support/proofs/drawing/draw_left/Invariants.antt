use Rattle.std.proofs.Common.{◌-◌, length}
use Rattle.test_support.specs.Mirror.{file_of}
use Rattle.test_support.proofs.Drawn.{IsFront}
use Rattle.test_support.proofs.drawing.draw_left.Given as goal

abbrev pub invariant-loop-draws : goal.invariant-loop-draws
invariant-loop-draws l = IsFront (file_of l.state) l.content.items

abbrev pub decreases-loop-draws : goal.decreases-loop-draws
decreases-loop-draws l = l.length - length l.content.items
