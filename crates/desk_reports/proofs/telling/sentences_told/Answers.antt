use Rattle.std.proofs.Common.{◌≡◌}
use Rattle.report_render.specs.Text.{report_text}
use Rattle.desk_reports.specs.Reports.{IsPlainReport}
use Rattle.desk_reports.proofs.PageTexts.{mapped}
use Rattle.desk_reports.proofs.telling.sentences_told.Goals as goal

pub returns : goal.returns
returns c =
    mapped (λ text. text.items ≡ report_text c.in_ok-spelling.spelling)
    (λ text. IsPlainReport c.args.explanation.now c.args.zone text.items) c.text_of.result c.text_of.ensures
    (λ text is. (c.in_ok-spelling.spelling, c.in_ok-spelling.ensures, is))
