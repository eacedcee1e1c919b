use Rattle.std.proofs.Common.{◌-◌, length}
use Rattle.test_support.proofs.DrawnFolder.{AreSoFar}
use Rattle.test_support.proofs.folder.draw_contents.Given as goal

abbrev pub invariant-loop-contents : goal.invariant-loop-contents
invariant-loop-contents l = AreSoFar l.files l.count l.contents.items

abbrev pub decreases-loop-contents : goal.decreases-loop-contents
decreases-loop-contents l = l.count - length l.contents.items
