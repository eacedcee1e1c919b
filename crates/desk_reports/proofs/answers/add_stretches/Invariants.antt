use Rattle.std.proofs.Common.{◌≡◌, drop}
use Rattle.answer_data.specs.Parts.{said}
use Rattle.desk_reports.specs.Answers.{all_evidence}
use Rattle.desk_reports.proofs.answers.add_stretches.Given as goal

abbrev pub invariant-loop-stretch : goal.invariant-loop-stretch
invariant-loop-stretch l = all_evidence l.names (drop l.stretch-index l.stretches) (said l.parts)
    ≡ all_evidence l.names l.stretches (said l.initial.parts)
