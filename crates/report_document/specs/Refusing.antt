-- What is told of a ruling, and of the comparison that a refusal rests on.
use Rattle.std.specs.Prelude.{ℕ, List, [], ◌∷◌, Option, Some, None}
use Rattle.binding_rules.specs.declared.role.Role.{Role}
use Rattle.journal_lines.specs.declared.fault.JournalFault.{JournalFault}
use Rattle.journal_lines.specs.declared.fault.JournalFault.TheVariants as fault
use Rattle.causal_order.specs.declared.fault.CertificateFault.{CertificateFault}
use Rattle.causal_order.specs.declared.fault.CertificateFault.TheVariants as text
use Rattle.book_rules.specs.Rules.{rule_number}
use Rattle.attribution.specs.declared.verdict.Verdict.{Verdict}
use Rattle.attribution.specs.declared.verdict.Verdict.TheVariants as verdict
use Rattle.pair_judgement.specs.declared.judging.Judgement.{Judgement}
use Rattle.pair_judgement.specs.declared.judging.Judgement.TheVariants as ruling
use Rattle.evidence_report.specs.declared.faults.PieceFault.{PieceFault}
use Rattle.evidence_report.specs.declared.faults.PieceFault.TheVariants as piece
use Rattle.evidence_report.specs.declared.faults.ForeignFault.{ForeignFault}
use Rattle.evidence_report.specs.declared.faults.ForeignFault.TheVariants as foreign
use Rattle.evidence_report.specs.declared.faults.Failure.{Failure}
use Rattle.evidence_report.specs.declared.faults.Failure.TheVariants as failure
use Rattle.report_document.specs.declared.word.ReportWord.{ReportWord}
use Rattle.report_document.specs.declared.word.ReportWord.TheVariants as word
use Rattle.report_document.specs.Telling.{Told, paragraph}

-- ---- rulings

abbrev pub journal_values : Role → JournalFault → List ReportWord
journal_values side fault.Head = word.Side side ∷ []
journal_values side (fault.Form line) = word.Line (record { side = side; number = line }) ∷ []
journal_values side (fault.Number line) = word.Line (record { side = side; number = line }) ∷ []
journal_values side (fault.Reading line) = word.Line (record { side = side; number = line }) ∷ []
journal_values side fault.End = word.Side side ∷ []

abbrev pub certificate_values : CertificateFault → List ReportWord
certificate_values text.Head = []
certificate_values (text.Form line) = word.Number line ∷ []
certificate_values text.End = []

-- a piece, a line or a side that a verdict names
abbrev pub verdict_values : Verdict → List ReportWord
verdict_values (verdict.Journal side fault) = journal_values side fault
verdict_values (verdict.Certificate fault) = certificate_values fault
verdict_values (verdict.Rule side line rule) =
    word.Line (record { side = side; number = line }) ∷ word.Number (rule_number rule) ∷ []
verdict_values (verdict.Unsent r) = word.Line r ∷ []
verdict_values (verdict.Differs r) = word.Line r ∷ []
verdict_values (verdict.PastEnd side) = word.Side side ∷ []
verdict_values (verdict.PieceGap n) = word.Number n ∷ []
verdict_values (verdict.PieceGrant n) = word.Number n ∷ []
verdict_values (verdict.PieceRelease n r) = word.Number n ∷ word.Line r ∷ []
verdict_values (verdict.Uncovered r) = word.Line r ∷ []
verdict_values (verdict.Reason r) = word.Line r ∷ []
verdict_values _ = []

abbrev pub ruling_values : Judgement → List ReportWord
ruling_values (ruling.Verdict v) = verdict_values v
ruling_values (ruling.Clocks take) = word.Line take ∷ []
ruling_values ruling.Pair = []
ruling_values ruling.Skew = []
ruling_values (ruling.Carried line) = word.Line line ∷ []

abbrev pub ruling_told : Judgement → List Told
ruling_told r = paragraph (ruling_values r) ∷ []

-- ---- the comparison that fails

abbrev pub piece_values : PieceFault → List ReportWord
piece_values (piece.OtherClient client) = word.Client client ∷ []
piece_values (piece.OtherPrefix prefix) = word.Prefix prefix ∷ []
piece_values (piece.BegunLate begun from) = word.Moment begun ∷ word.Moment from ∷ []
piece_values (piece.EndsEarly needed shown) = word.Number needed ∷ word.Number shown ∷ []
piece_values _ = []

abbrev pub foreign_values : ForeignFault → List ReportWord
foreign_values (foreign.EndsLate ends from) = word.Moment ends ∷ word.Moment from ∷ []
foreign_values (foreign.BeginsEarly needed shown) = word.Number needed ∷ word.Number shown ∷ []
foreign_values (foreign.GivenBackLate given from) = word.Moment given ∷ word.Moment from ∷ []
foreign_values _ = []

abbrev pub gap_values : Option (ℕ × ℕ) → List ReportWord
gap_values None = []
gap_values (Some piece) = word.Moment piece.0 ∷ word.Moment piece.1 ∷ []

abbrev pub failure_values : Failure → List ReportWord
failure_values (failure.EmptyInterval from to) = word.Moment from ∷ word.Moment to ∷ []
failure_values (failure.PastEnd side needed closed) = word.Reading needed ∷ word.Side side ∷ word.Reading closed ∷ []
failure_values (failure.PieceGap number must piece) = word.Number number ∷ word.Moment must ∷ gap_values piece
failure_values (failure.PieceGrant number fault) = word.Number number ∷ piece_values fault
failure_values (failure.BeforeOpen side needed from) = word.Side side ∷ word.Moment needed ∷ word.Moment from ∷ []
failure_values (failure.PieceBeforeOpen number side) = word.Number number ∷ word.Side side ∷ []
failure_values (failure.PieceRelease number release) = word.Number number ∷ word.Line release ∷ []
failure_values (failure.Uncovered r d) = word.Line r ∷ word.Client d.client ∷ word.Prefix d.prefix ∷ []
failure_values (failure.Reason r fault) = word.Line r ∷ foreign_values fault

abbrev pub failure_told : Option Failure → List Told
failure_told None = []
failure_told (Some f) = paragraph (failure_values f) ∷ []
