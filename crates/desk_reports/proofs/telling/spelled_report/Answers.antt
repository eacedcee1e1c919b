use Rattle.report_render.specs.Spelling.{IsSpelling}
use Rattle.desk_reports.specs.Reports.{IsSpelledReport}
use Rattle.desk_reports.proofs.PageTexts.{mapped}
use Rattle.desk_reports.proofs.telling.spelled_report.Goals as goal

pub returns : goal.returns
returns c =
    mapped (IsSpelling c.args.zone c.in_ok-document.document) (IsSpelledReport c.args.explanation.now c.args.zone)
    c.spelled.result c.spelled.ensures (λ spelling is. record {
      document = c.in_ok-document.document;
      ruling = c.in_ok-document.ensures.ruling;
      told = c.in_ok-document.ensures.told;
      spelled = is;
    })
