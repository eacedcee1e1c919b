use Rattle.std.proofs.Common.{◌≡◌, drop}
use Rattle.answer_data.specs.Parts.{said}
use Rattle.desk_reports.specs.Answers.{all_given}
use Rattle.desk_reports.proofs.answers.add_given.Given as goal

abbrev pub invariant-loop-ruling : goal.invariant-loop-ruling
invariant-loop-ruling l =
    all_given (drop l.ruling-index l.rulings) (said l.parts) ≡ all_given l.rulings (said l.initial.parts)
