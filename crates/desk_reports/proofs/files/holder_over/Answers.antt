use Rattle.std.proofs.Common.{subst}
use Rattle.joined_answers.specs.declared.widening.SpanReply.{SpanReply}
use Rattle.joined_answers.specs.declared.widening.SpanReply.TheVariants.{Answered, Lacking, Refused}
use Rattle.joined_answers.specs.Widening.{IsReply}
use Rattle.desk_reports.specs.OverFiles.{IsSpannedReport, IsLackReport, IsHolderReport}
use Rattle.desk_reports.specs.Unanswered.{IsHolderLackTold}
use Rattle.desk_reports.proofs.PageTexts.{mapped}
use Rattle.desk_reports.proofs.files.holder_over.Goals as goal

pub returns-in-Answered : goal.returns-in-Answered
returns-in-Answered g c =
    let had = g.F.JournalFiles.had c.args.files.now in
    let says = g.F.AccessTexts.says c.args.files.now in
    mapped (IsSpannedReport c.args.names.now says c.in-Answered.answered c.args.query.now c.args.settings
    c.args.style.now)
    (IsHolderReport c.args.names.now had says c.args.archive.now c.args.query.now c.args.settings c.args.style.now)
    c.spanned_told.result c.spanned_told.ensures
    (λ told is. (
      Answered c.in-Answered.answered,
      subst (λ (x : SpanReply). IsReply had c.args.archive.now c.args.query.now c.args.settings x) c.in-Answered.is
          c.in_ok-answered.ensures.reply,
      (c.in_ok-answered.ensures.over c.in-Answered.answered c.in-Answered.is, is),
    ))

pub returns-in-Lacking : goal.returns-in-Lacking
returns-in-Lacking g c =
    let had = g.F.JournalFiles.had c.args.files.now in
    let says = g.F.AccessTexts.says c.args.files.now in
    mapped (IsHolderLackTold c.args.style.now.form c.args.query.now c.in-Lacking.side c.in-Lacking.lack)
    (IsHolderReport c.args.names.now had says c.args.archive.now c.args.query.now c.args.settings c.args.style.now)
    c.lacking_of.result c.lacking_of.ensures
    (λ told is. (
      Lacking c.in-Lacking.side c.in-Lacking.lack,
      subst (λ (x : SpanReply). IsReply had c.args.archive.now c.args.query.now c.args.settings x) c.in-Lacking.is
          c.in_ok-answered.ensures.reply,
      is,
    ))

pub returns-in-Refused : goal.returns-in-Refused
returns-in-Refused g c =
    let had = g.F.JournalFiles.had c.args.files.now in
    let says = g.F.AccessTexts.says c.args.files.now in
    mapped (IsLackReport c.args.archive.now c.args.query.now c.args.style.now)
    (IsHolderReport c.args.names.now had says c.args.archive.now c.args.query.now c.args.settings c.args.style.now)
    c.roll_told.result c.roll_told.ensures
    (λ told is. (
      Refused c.in-Refused.field-0,
      subst (λ (x : SpanReply). IsReply had c.args.archive.now c.args.query.now c.args.settings x) c.in-Refused.is
          c.in_ok-answered.ensures.reply,
      is,
    ))
