use Rattle.std.proofs.Common.{refl, sym, subst}
use Rattle.joined_answers.specs.declared.widening.SpanReply.{SpanReply}
use Rattle.joined_answers.specs.Widening.{IsReply}
use Rattle.archive_desk.specs.declared.holding.HolderReply.{HolderReply}
use Rattle.archive_desk.specs.Who.{IsHolderAt}
use Rattle.archive_desk.proofs.holding.holder_at.Goals as goal

pub returns-in-Answered : goal.returns-in-Answered
returns-in-Answered g c =
    let had = g.F.JournalFiles.had c.args.files.now in
    let archive = c.args.archive.now in
    let q = c.args.query.now in
    subst (λ (r : HolderReply). IsHolderAt had archive q c.args.settings r) (sym c.reply_of.ensures) (
      c.in-Answered.answer,
      subst (λ (r : SpanReply). IsReply had archive q c.args.settings r) c.in-Answered.is c.in_ok-answer.ensures.reply,
      refl,
    )
