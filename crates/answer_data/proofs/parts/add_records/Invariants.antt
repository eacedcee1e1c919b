use Rattle.std.proofs.Common.{length}
use Rattle.text_fields.specs.Cuts.{split}
use Rattle.answer_data.specs.Parts.{record_in}
use Rattle.answer_data.specs.Texts.{octets_of, without_feed}
use Rattle.answer_data.proofs.Lists.{IsGatheredSoFar}
use Rattle.answer_data.proofs.parts.add_records.Given as goal

abbrev pub invariant-loop-line : goal.invariant-loop-line
invariant-loop-line l = IsGatheredSoFar record_in (octets_of l.initial.records.items) (split 10 (without_feed l.text))
    (octets_of l.records.items) l.lines

abbrev pub decreases-loop-line : goal.decreases-loop-line
decreases-loop-line l = length l.lines
