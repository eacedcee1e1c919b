use Rattle.std.proofs.Common.{◌≡◌, IfOk, subst, sym}
use Rattle.holder_answers.specs.declared.answer.HolderAnswer.{HolderAnswer}
use Rattle.desk_reports.specs.Told.{IsReplyOver}
use Rattle.desk_reports.proofs.holders.case_told.Goals as goal

pub returns : goal.returns
returns c =
    subst (λ (answer : HolderAnswer). IfOk c.held_told.result (IsReplyOver c.args.primary.now c.args.secondary.now
    c.args.source.now c.args.query.now answer c.args.style.now)) (sym c.in-Held.is)
    (c.held_told.ensures c.args.primary.now c.args.secondary.now c.in_ok-explanation.ensures.explained)
