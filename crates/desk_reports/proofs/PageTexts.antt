-- The text of a page that is made of what is asked for.
use Rattle.std.specs.Prelude.{◌≡◌, ℕ, List, Result, Ok, Err, IfOk}
use Rattle.archive_desk.specs.declared.coverage_gaps.TimingBounds.{TimingBounds}
use Rattle.evidence_report.specs.declared.piece_report.PieceReport.{PieceReport}
use Rattle.evidence_report.specs.declared.report.CitedLine.{CitedLine}
use Rattle.report_render.specs.declared.page.Page.{Page}
use Rattle.report_render.specs.declared.text_block.RenderedText.{RenderedText}
use Rattle.report_render.specs.Page.{IsPage}
use Rattle.desk_reports.specs.declared.pages.ReportSubject.{ReportSubject}
use Rattle.desk_reports.specs.declared.style.ReportSource.{ReportSource}
use Rattle.desk_reports.specs.declared.style.ReportStyle.{ReportStyle}
use Rattle.desk_reports.specs.Pages.{IsPageFor, IsPageText}

pub page_text : {T E : Type 0} (items : T → List ℕ) (source : ReportSource) (s : ReportSubject) (bounds : TimingBounds)
    (style : ReportStyle) (spelling : RenderedText) (picture : List ℕ)
    (pieces : List PieceReport) (cited : List CitedLine) (page : Page) (result : Result T E)
    → IfOk result (λ t. IsPage style.zone page (items t)) → IsPageFor source s bounds style spelling picture pieces cited page
    → IfOk result (λ t. IsPageText source s bounds style spelling picture pieces cited (items t))
page_text items source s bounds style spelling picture pieces cited page (Ok t) is made = (page, made, is)
page_text items source s bounds style spelling picture pieces cited page (Err e) is made = tt

-- what is so of each value is so of what comes of it
pub mapped : {T E : Type 0} (P Q : T → Type 0) (result : Result T E) → IfOk result P → ((t : T) → P t → Q t)
    → IfOk result Q
mapped P Q (Ok t) is next = next t is
mapped P Q (Err e) is next = tt
