use Rattle.std.proofs.Common.{◌≡◌, drop}
use Rattle.answer_data.specs.Parts.{said}
use Rattle.desk_reports.specs.Answers.{all_rulings}
use Rattle.desk_reports.proofs.answers.add_rulings.Given as goal

abbrev pub invariant-loop-ruling : goal.invariant-loop-ruling
invariant-loop-ruling l =
    all_rulings (drop l.ruling-index l.rulings) (said l.parts) ≡ all_rulings l.rulings (said l.initial.parts)
