use Rattle.std.proofs.Common.{refl, sym, subst, List, ℕ}
use Rattle.std.specs.Prelude.{IsOkAnd, option_map}
use Rattle.std.specs.Borrow.{Bor}
use Rattle.certificate.specs.Faults.{certificate_of}
use Rattle.line_origins.specs.declared.spans.SpanOrigins.{SpanOrigins}
use Rattle.desk_reports.specs.Behind.{IsBehindNotes, files_note}
use Rattle.desk_reports.specs.OverVolumes.{IsClaimAccess, IsReportOver}
use Rattle.desk_reports.proofs.OverFileLaws.{report_over}
use Rattle.desk_reports.proofs.PageTexts.{mapped}
use Rattle.desk_reports.proofs.claims.explain_shown.Goals as goal

pub returns : goal.returns
returns g c =
    let says = g.F.AccessTexts.says c.args.files.now in
    let asked = c.args.asked.now in
    let pair = c.args.pair.now in
    let spans = c.args.spans.now in
    let origins = option_map (λ (o : Bor SpanOrigins). o.now) c.args.origins in
    mapped (λ noted. IsOkAnd c.explain_told-told.result
    (λ core. IsBehindNotes (files_note c.args.names.now pair spans) core noted))
    (IsReportOver c.args.names.now says pair spans origins c.args.shown asked.certificate.now asked.bounds c.args.style.now)
    c.noted_over.result c.noted_over.ensures.told
    (λ noted behind. report_over c.args.names.now says pair spans origins c.args.shown asked.certificate.now asked.bounds
    c.args.style.now _ c.explain_told-told.result noted c.explain_told-told.ensures (record {
      primary = c.in_ok-read.ensures.first;
      secondary = c.in_ok-read.ensures.second;
      volumes = refl;
      origins_are = refl;
      access = subst (λ (text : List ℕ). IsClaimAccess says pair spans (certificate_of asked.certificate.now) text)
          (sym c.deref.ensures.value) c.in_ok-access.ensures;
      settings = refl;
    }) behind)
