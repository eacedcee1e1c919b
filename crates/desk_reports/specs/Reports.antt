-- What is written of a ruling: as sentences, as a page, as an object.
use Rattle.std.specs.Prelude.{◌≡◌, ℕ, List, [], Option, Some, None, Result, Ok, map}
use Rattle.std.specs.Borrow.{Bor}
use Rattle.serde_json.specs.Data.{Data}
use Rattle.journal_lines.specs.declared.line.Journal.{Journal}
use Rattle.journal_lines.specs.declared.fault.JournalFault.{JournalFault}
use Rattle.zone_times.specs.declared.zone.ZoneFile.{ZoneFile}
use Rattle.evidence_report.specs.declared.report.Report.{Report}
use Rattle.evidence_report.specs.declared.piece_report.PieceReport.{PieceReport}
use Rattle.evidence_report.specs.declared.report.CitedLine.{CitedLine}
use Rattle.report_document.specs.declared.document.Explanation.{Explanation}
use Rattle.report_document.specs.declared.block.Document.{Document}
use Rattle.report_document.specs.Telling.{told_of}
use Rattle.report_document.specs.Whole.{explanation_told}
use Rattle.report_render.specs.declared.picture.Picture.{Picture}
use Rattle.report_render.specs.declared.text_block.RenderedText.{RenderedText}
use Rattle.report_render.specs.Drawing.{IsSvg}
use Rattle.report_render.specs.Picture.{IsPicture}
use Rattle.report_render.specs.Spelling.{IsSpelling}
use Rattle.report_render.specs.Text.{report_text}
use Rattle.report_data.specs.Rulings.{IsRulingLine}
use Rattle.answer_data.specs.Volumes.{IsVolumesData}
use Rattle.archive_desk.specs.declared.coverage_gaps.TimingBounds.{TimingBounds}
use Rattle.desk_args.specs.declared.request.ReportForm.{ReportForm}
use Rattle.desk_args.specs.declared.request.ReportForm.TheVariants.{Plain, Page, Json}
use Rattle.desk_reports.specs.declared.pages.ReportSubject.{ReportSubject}
use Rattle.desk_reports.specs.declared.style.ReportSource.{ReportSource}
use Rattle.desk_reports.specs.declared.style.ReportStyle.{ReportStyle}
use Rattle.desk_reports.specs.Pages.{certificate_of, moment_of, IsPageText}
use Rattle.desk_reports.specs.Unanswered.{sentences_page}

-- the document of a ruling, spelled
pub record IsSpelledReport (e : Explanation) (zone : Option (Bor ZoneFile)) (spelling : RenderedText) : Type 0 where
  pub document : Document
  pub ruling : document.ruling ≡ e.ruling
  pub told : map told_of document.blocks.items ≡ explanation_told e
  pub spelled : IsSpelling zone document spelling

-- the picture of what is shown, with the moment that was asked of; nothing where nothing is
abbrev pub IsPictureText : Option Report → Option ℕ → List ℕ → Type 0
IsPictureText None asked text = text ≡ []
IsPictureText (Some report) asked text = (picture : Picture) × IsPicture report asked picture × IsSvg picture text

-- as sentences
abbrev pub IsPlainReport : Explanation → Option (Bor ZoneFile) → List ℕ → Type 0
IsPlainReport e zone text = (spelling : RenderedText) × IsSpelledReport e zone spelling × (text ≡ report_text spelling)

-- the pieces whose grants go into the table; none where nothing is shown
abbrev pub pieces_of : Option Report → List PieceReport
pieces_of None = []
pieces_of (Some report) = report.pieces.items

-- the lines that it names; none where nothing is shown
abbrev pub cited_of : Option Report → List CitedLine
cited_of None = []
cited_of (Some report) = report.cited.items

-- as a page
pub record IsPageReport (e : Explanation) (source : ReportSource) (s : ReportSubject) (bounds : TimingBounds)
    (style : ReportStyle) (text : List ℕ) : Type 0 where
  pub spelling : RenderedText
  pub spelled : IsSpelledReport e style.zone spelling
  pub picture : List ℕ
  pub picture_is : IsPictureText e.report (moment_of s) picture
  pub page : IsPageText source s bounds style spelling picture (pieces_of e.report) (cited_of e.report) text

-- as a page of its sentences alone
abbrev pub IsUnreadReport : Explanation → Option (Bor ZoneFile) → List ℕ → Type 0
IsUnreadReport e zone text =
    (sentences : List ℕ) × IsPlainReport e zone sentences × (text ≡ sentences_page sentences)

-- of journals; where a text is none its page has the report's sentences alone
abbrev pub IsPageBy : Result Journal JournalFault → Result Journal JournalFault → Explanation → ReportSource → ReportSubject
    → TimingBounds → ReportStyle → List ℕ → Type 0
IsPageBy (Ok a) (Ok b) e source s bounds style text = IsPageReport e source s bounds style text
IsPageBy a b e source s bounds style text = IsUnreadReport e style.zone text

-- as an object
abbrev pub IsDataReport : Explanation → ReportSource → ReportSubject → List ℕ → Type 0
IsDataReport e source s text = (volumes : Data) × IsVolumesData source.volumes volumes
    × IsRulingLine e (certificate_of s) volumes text

-- in the form that is asked for
abbrev pub IsReportIn : ReportForm → Explanation → ReportSource → ReportSubject → TimingBounds → ReportStyle → List ℕ
    → Type 0
IsReportIn Plain e source s bounds style text = IsPlainReport e style.zone text
IsReportIn Page e source s bounds style text =
    IsPageBy source.pair.now.primary source.pair.now.secondary e source s bounds style text
IsReportIn Json e source s bounds style text = IsDataReport e source s text

abbrev pub IsReportText : Explanation → ReportSource → ReportSubject → TimingBounds → ReportStyle → List ℕ → Type 0
IsReportText e source s bounds style text = IsReportIn style.form e source s bounds style text
