-- What is told in all: the ruling, and what the certificate shows.
use Rattle.std.specs.Prelude.{ℕ, ◌+◌, List, [], ◌∷◌, ◌++◌, Option, Some, None}
use Rattle.std.specs.List.{flat_map}
use Rattle.binding_rules.specs.declared.role.Role.TheVariants.{Primary, Secondary}
use Rattle.evidence_report.specs.declared.piece_report.PieceReport.{PieceReport}
use Rattle.evidence_report.specs.declared.report.CitedLine.{CitedLine}
use Rattle.evidence_report.specs.declared.report.Report.{Report}
use Rattle.report_document.specs.declared.document.Explanation.{Explanation}
use Rattle.report_document.specs.declared.word.ReportWord.TheVariants as word
use Rattle.report_document.specs.Telling.{Told, heading, cited}
use Rattle.report_document.specs.Question.{question_told, premises_told, side_told}
use Rattle.report_document.specs.Pieces.{piece_told}
use Rattle.report_document.specs.Foreign.{foreign_told}
use Rattle.report_document.specs.Refusing.{ruling_told, failure_told}

-- pieces, counted on from this number
abbrev pub pieces_told : (skew transit number : ℕ) → List PieceReport → List Told
pieces_told skew transit number [] = []
pieces_told skew transit number (p ∷ pieces) =
    piece_told skew transit number p ++ pieces_told skew transit (number + 1) pieces

-- a line, in full, and all of them
abbrev pub cited_told : CitedLine → List Told
cited_told c = cited (word.Line c.at ∷ word.Entry c.line ∷ []) ∷ []

unfoldable pub lines_told : List CitedLine → List Told
lines_told lines = (heading [] ∷ []) ++ flat_map cited_told lines

-- the question and its premises
unfoldable pub asked_told : Report → List Told
asked_told r = question_told r.certificate.now ++ premises_told r.skew r.transit

-- what each side's journal shows of the interval at all
unfoldable pub sides_told : Report → List Told
sides_told r =
    side_told r.skew r.transit r.certificate.now Primary r.primary
    ++ side_told r.skew r.transit r.certificate.now Secondary r.secondary

-- the question, each piece, each foreign entry, each line
abbrev pub report_told : Report → List Told
report_told r =
    asked_told r ++ sides_told r ++ pieces_told r.skew r.transit 1 r.pieces.items
    ++ flat_map (foreign_told r.skew r.transit r.certificate.now) r.foreign.items
    ++ lines_told r.cited.items

abbrev pub shown_told : Option Report → List Told
shown_told None = []
shown_told (Some r) = report_told r

abbrev pub explanation_told : Explanation → List Told
explanation_told e = ruling_told e.ruling ++ failure_told e.failure ++ shown_told e.report
