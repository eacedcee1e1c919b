use Rattle.std.proofs.Common.{subst}
use Rattle.volume_spans.specs.declared.showing.SpannedJournals.{SpannedJournals}
use Rattle.volume_spans.specs.declared.showing.SpannedJournals.TheVariants as spanned
use Rattle.joined_rulings.specs.Trials.{AreShownBySpans}
use Rattle.desk_reports.specs.OverVolumes.{IsReportOfSpanned, IsReportOfSpans}
use Rattle.desk_reports.proofs.OverFileLaws.{handed}
use Rattle.desk_reports.proofs.PageTexts.{mapped}
use Rattle.desk_reports.proofs.claims.explain_read.Goals as goal

pub returns-in-Journals : goal.returns-in-Journals
returns-in-Journals g c =
    let says = g.F.AccessTexts.says c.args.files.now in
    let asked = c.args.asked.now in
    let r = c.args.read.now in
    mapped (IsReportOfSpanned c.args.names.now says r asked.certificate.now asked.bounds c.args.style.now
    (spanned.Journals c.in-Journals.shown))
    (IsReportOfSpans c.args.names.now says r asked.certificate.now asked.bounds c.args.style.now)
    c.explain_joined.result c.explain_joined.ensures
    (λ told is. (
      spanned.Journals c.in-Journals.shown,
      subst (λ (x : SpannedJournals). AreShownBySpans r x) c.in-Journals.is c.in_ok-shown.ensures,
      is,
    ))

pub returns-in-Refused : goal.returns-in-Refused
returns-in-Refused g c =
    let says = g.F.AccessTexts.says c.args.files.now in
    let asked = c.args.asked.now in
    let r = c.args.read.now in
    let Is = IsReportOfSpanned c.args.names.now says r asked.certificate.now asked.bounds c.args.style.now
    (spanned.Refused c.in-Refused.refusal) in
    mapped Is (IsReportOfSpans c.args.names.now says r asked.certificate.now asked.bounds c.args.style.now)
    c.told_or_memory.result
    (handed Is c.refused_over-told.result c.told_or_memory.result c.refused_over-told.ensures
    c.told_or_memory.ensures.told)
    (λ told is. (
      spanned.Refused c.in-Refused.refusal,
      subst (λ (x : SpannedJournals). AreShownBySpans r x) c.in-Refused.is c.in_ok-shown.ensures,
      is,
    ))
