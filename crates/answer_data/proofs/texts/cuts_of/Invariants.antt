use Rattle.std.proofs.Common.{length}
use Rattle.text_fields.specs.Cuts.{split}
use Rattle.answer_data.proofs.Lists.{AreCutSoFar}
use Rattle.answer_data.proofs.texts.cuts_of.Given as goal

abbrev pub invariant-loop-line : goal.invariant-loop-line
invariant-loop-line l = AreCutSoFar (split 10 l.text) l.values.items l.lines

abbrev pub decreases-loop-line : goal.decreases-loop-line
decreases-loop-line l = length l.lines
