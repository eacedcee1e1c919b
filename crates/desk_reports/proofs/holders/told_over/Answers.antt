use Rattle.desk_reports.specs.Told.{IsReplyOver, IsHolderOver}
use Rattle.desk_reports.proofs.PageTexts.{mapped}
use Rattle.desk_reports.proofs.holders.told_over.Goals as goal

pub returns : goal.returns
returns g c =
    mapped (IsReplyOver c.args.primary.now c.args.secondary.now c.args.source.now c.args.query.now
    c.in_ok-answer.answer c.args.style.now)
    (IsHolderOver c.args.primary.now c.args.secondary.now c.args.source.now c.args.query.now c.args.settings
    c.args.style.now) c.case_told.result c.case_told.ensures
    (λ told is. (c.in_ok-answer.answer, c.in_ok-answer.ensures.answer, is))
