use Rattle.std.proofs.Common.{◌≡◌, Option, subst, sym}
use Rattle.evidence_report.specs.declared.report.Report.{Report}
use Rattle.report_render.specs.Drawing.{IsSvg}
use Rattle.desk_reports.specs.Reports.{IsPictureText}
use Rattle.desk_reports.proofs.PageTexts.{mapped}
use Rattle.desk_reports.proofs.telling.picture_told.Goals as goal

pub returns-in_ok-picture_of-in-Some : goal.returns-in_ok-picture_of-in-Some
returns-in_ok-picture_of-in-Some c =
    mapped (λ text. IsSvg c.in_ok-picture_of-in-Some.field-0 text.items)
    (λ text. IsPictureText c.args.explanation.now.report c.args.asked text.items) c.svg_of.result c.svg_of.ensures
    (λ text is. subst (λ (r : Option Report). IsPictureText r c.args.asked text.items) (sym c.in-Some.is)
    (c.in_ok-picture_of-in-Some.field-0, c.in_ok-picture_of-in-Some.ensures, is))
