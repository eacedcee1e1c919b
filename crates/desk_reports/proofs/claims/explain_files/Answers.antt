use Rattle.std.proofs.Common.{◌∙◌, ap, subst, Option}
use Rattle.volume_spans.specs.declared.span.SpanPair.{SpanPair}
use Rattle.desk_reports.specs.OverVolumes.{accepted_spans, IsReportOfFiles, IsReportOfAudit}
use Rattle.desk_reports.proofs.PageTexts.{mapped}
use Rattle.desk_reports.proofs.claims.explain_files.Goals as goal

pub returns : goal.returns
returns g c =
    let had = g.F.JournalFiles.had c.args.files.now in
    let says = g.F.AccessTexts.says c.args.files.now in
    let count = g.F.JournalFiles.files c.args.files.now in
    mapped (IsReportOfFiles c.args.names.now had count says c.args.certificate.now c.args.bounds.now c.args.style.now
    c.accepted_spans-spans.result)
    (IsReportOfAudit c.args.names.now had count says c.args.certificate.now c.args.bounds.now c.args.style.now)
    c.explain_over.result c.explain_over.ensures
    (λ told is. record {
      audit = c.in_ok-audit.audit;
      audited = c.in_ok-audit.ensures;
      reported = subst (λ (spans : Option SpanPair). IsReportOfFiles c.args.names.now had count says
          c.args.certificate.now c.args.bounds.now c.args.style.now spans told)
          (c.accepted_spans-spans.ensures.value ∙ ap accepted_spans c.deref.ensures.value) is;
    })
