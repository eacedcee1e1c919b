use Rattle.std.specs.Prelude.{Some}
use Rattle.std.proofs.Common.{subst}
use Rattle.volume_spans.specs.declared.span.SpanPair.{SpanPair}
use Rattle.volume_spans.specs.declared.showing.SpannedJournals.TheVariants as spanned
use Rattle.desk_reports.specs.OverVolumes.{IsReportOver, IsReportOfSpanned}
use Rattle.desk_reports.proofs.PageTexts.{mapped}
use Rattle.desk_reports.proofs.claims.explain_joined.Goals as goal

pub returns : goal.returns
returns g c =
    let says = g.F.AccessTexts.says c.args.files.now in
    let asked = c.args.asked.now in
    let pair = c.last_pair-pair.result in
    let shows = Some c.in_ok-origins.origins in
    mapped (IsReportOver c.args.names.now says pair c.spans-spans.result shows c.args.shown asked.certificate.now asked.bounds
    c.args.style.now)
    (IsReportOfSpanned c.args.names.now says c.args.read.now asked.certificate.now asked.bounds c.args.style.now
    (spanned.Journals c.args.shown)) c.explain_shown.result c.explain_shown.ensures
    (λ told is. (
      pair,
      c.in_ok-origins.origins,
      c.last_pair-pair.ensures,
      c.in_ok-origins.ensures,
      subst (λ (spans : SpanPair). IsReportOver c.args.names.now says pair spans shows c.args.shown asked.certificate.now
          asked.bounds c.args.style.now told) c.spans-spans.ensures is,
    ))
