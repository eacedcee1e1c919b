use Rattle.std.specs.Prelude.{None}
use Rattle.std.proofs.Common.{subst}
use Rattle.archive_files.specs.declared.showing.ShownJournals.{ShownJournals}
use Rattle.archive_files.specs.declared.showing.ShownJournals.TheVariants as showing
use Rattle.archive_files.specs.Showing.{IsShownAt}
use Rattle.volume_spans.specs.declared.span.SpanPair.{SpanPair}
use Rattle.desk_reports.specs.OverVolumes.{IsReportOver, IsReportOfShown, IsReportAt}
use Rattle.desk_reports.proofs.OverFileLaws.{handed}
use Rattle.desk_reports.proofs.PageTexts.{mapped}
use Rattle.desk_reports.proofs.claims.explain_at.Goals as goal

pub returns-in-Journals : goal.returns-in-Journals
returns-in-Journals g c =
    let had = g.F.JournalFiles.had c.args.files.now in
    let says = g.F.AccessTexts.says c.args.files.now in
    let asked = c.args.asked.now in
    let pair = c.in-Journals.pair in
    let journals = c.in-Journals.shown in
    mapped (IsReportOver c.args.names.now says pair c.spans_of-spans.result None journals asked.certificate.now asked.bounds
    c.args.style.now)
    (IsReportAt c.args.names.now had says c.args.archive.now c.args.moment asked.certificate.now asked.bounds
    c.args.style.now) c.explain_shown.result c.explain_shown.ensures
    (λ told is. (
      showing.Journals pair journals,
      subst (λ (x : ShownJournals). IsShownAt had c.args.archive.now asked.bounds.skew asked.bounds.transit c.args.moment
          x) c.in-Journals.is c.in_ok-pair.ensures.shown,
      subst (λ (spans : SpanPair). IsReportOver c.args.names.now says pair spans None journals asked.certificate.now
          asked.bounds c.args.style.now told) c.spans_of-spans.ensures is,
    ))

pub returns-in-Lacking : goal.returns-in-Lacking
returns-in-Lacking g c =
    let had = g.F.JournalFiles.had c.args.files.now in
    let says = g.F.AccessTexts.says c.args.files.now in
    let asked = c.args.asked.now in
    let lacking = showing.Lacking c.in-Lacking.side c.in-Lacking.lack in
    let Is = IsReportOfShown c.args.names.now says asked.certificate.now asked.bounds c.args.style.now lacking in
    mapped Is (IsReportAt c.args.names.now had says c.args.archive.now c.args.moment asked.certificate.now asked.bounds
    c.args.style.now) c.told_or_memory.result
    (handed Is c.lacking_over-told.result c.told_or_memory.result c.lacking_over-told.ensures
    c.told_or_memory.ensures.told)
    (λ told is. (
      lacking,
      subst (λ (x : ShownJournals). IsShownAt had c.args.archive.now asked.bounds.skew asked.bounds.transit c.args.moment
          x) c.in-Lacking.is c.in_ok-pair.ensures.shown,
      is,
    ))
