use Rattle.std.proofs.Common.{subst}
use Rattle.volume_spans.specs.declared.spans.GivenSpans.{GivenSpans}
use Rattle.volume_spans.specs.declared.spans.GivenSpans.TheVariants as given
use Rattle.volume_spans.specs.Spans.{AreGiven}
use Rattle.desk_reports.specs.OverVolumes.{IsReportOfGiven, IsReportOverGiven}
use Rattle.desk_reports.proofs.OverFileLaws.{handed}
use Rattle.desk_reports.proofs.PageTexts.{mapped}
use Rattle.desk_reports.proofs.claims.explain_given.Goals as goal

pub returns-in-Read : goal.returns-in-Read
returns-in-Read g c =
    let had = g.F.JournalFiles.had c.args.files.now in
    let says = g.F.AccessTexts.says c.args.files.now in
    let asked = c.args.asked.now in
    mapped (IsReportOfGiven c.args.names.now says asked.certificate.now asked.bounds c.args.style.now
    (given.Read c.in-Read.read))
    (IsReportOverGiven c.args.names.now had says c.args.archive.now c.args.spans.now asked.certificate.now asked.bounds
    c.args.style.now) c.explain_read.result c.explain_read.ensures
    (λ told is. (
      given.Read c.in-Read.read,
      subst (λ (x : GivenSpans). AreGiven had c.args.archive.now c.args.spans.now x) c.in-Read.is
          c.in_ok-read.ensures.given,
      is,
    ))

pub returns-in-Missing : goal.returns-in-Missing
returns-in-Missing g c =
    let had = g.F.JournalFiles.had c.args.files.now in
    let says = g.F.AccessTexts.says c.args.files.now in
    let asked = c.args.asked.now in
    let missing = given.Missing c.in-Missing.side c.in-Missing.number in
    let Is = IsReportOfGiven c.args.names.now says asked.certificate.now asked.bounds c.args.style.now missing in
    mapped Is (IsReportOverGiven c.args.names.now had says c.args.archive.now c.args.spans.now asked.certificate.now
    asked.bounds c.args.style.now) c.told_or_memory.result
    (handed Is c.missing_over-told.result c.told_or_memory.result c.missing_over-told.ensures
    c.told_or_memory.ensures.told)
    (λ told is. (
      missing,
      subst (λ (x : GivenSpans). AreGiven had c.args.archive.now c.args.spans.now x) c.in-Missing.is
          c.in_ok-read.ensures.given,
      is,
    ))
