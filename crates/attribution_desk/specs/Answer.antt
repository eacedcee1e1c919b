-- What the desk answers to an input.
use Rattle.std.specs.Prelude.{◌≡◌, ℕ, List, Result}
use Rattle.binding_rules.specs.declared.role.Role.TheVariants.{Primary, Secondary}
use Rattle.journal_lines.specs.declared.line.Journal.{Journal}
use Rattle.journal_lines.specs.declared.fault.JournalFault.{JournalFault}
use Rattle.journal_text.specs.Faults.{journal_of_side}
use Rattle.certificate.specs.Faults.{certificate_of}
use Rattle.attribution_desk.specs.Input.{first_text, text_behind}
use Rattle.pair_judgement.specs.declared.judging.Judgement.{Judgement}
use Rattle.pair_judgement.specs.Judgements.{judgement_line, status_of}
use Rattle.attribution_desk.specs.Judgements.{IsJudgementOfParsed}

-- the line and the status of the ruling on what two texts are as journals and on a certificate's text
abbrev pub IsAnswerOf : Result Journal JournalFault → Result Journal JournalFault → List ℕ → (skew transit : ℕ)
    → List ℕ → ℕ → Type 0
IsAnswerOf a b certificate skew transit line status =
    (r : Judgement) × IsJudgementOfParsed a b skew transit (certificate_of certificate) r
    × (line ≡ judgement_line r) × (status ≡ status_of r)

-- of an input: journal A, journal B and the certificate, one after the other
abbrev pub IsDeskAnswer : List ℕ → (skew transit : ℕ) → List ℕ → ℕ → Type 0
IsDeskAnswer input skew transit line status =
    IsAnswerOf (journal_of_side Primary (first_text input)) (journal_of_side Secondary (first_text (text_behind input)))
    (text_behind (text_behind input)) skew transit line status
