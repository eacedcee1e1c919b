use Rattle.std.proofs.Common.{ℕ, Result, Err, subst, sym}
use Rattle.std.specs.Prelude.{IfOk}
use Rattle.causal_order.specs.declared.certificate.Certificate.{Certificate as Claim}
use Rattle.causal_order.specs.declared.fault.CertificateFault.{CertificateFault}
use Rattle.text_fields.specs.Parsing.{IsFault}
use Rattle.certificate.specs.Faults.{fault_of, certificate_of}
use Rattle.certificate.specs.declared.error.CertificateError.{CertificateError}
use Rattle.desk_reports.specs.OverVolumes.{IsReportAt, IsReportOfClaim}
use Rattle.desk_reports.proofs.OverFileLaws.{handed}
use Rattle.desk_reports.proofs.claims.explain_own.Goals as goal

pub returns-in-Ok : goal.returns-in-Ok
returns-in-Ok g c =
    let had = g.F.JournalFiles.had c.args.files.now in
    let says = g.F.AccessTexts.says c.args.files.now in
    let asked = c.args.asked.now in
    let at = subst (λ (moment : ℕ). IfOk c.explain_at.result (IsReportAt c.args.names.now had says c.args.archive.now
    moment asked.certificate.now asked.bounds c.args.style.now)) c.milliseconds-moment.ensures.value
    c.explain_at.ensures in
    subst (λ (read : Result Claim CertificateFault). IfOk c.explain_at.result (IsReportOfClaim c.args.names.now had says
    c.args.archive.now asked.certificate.now asked.bounds c.args.style.now read)) (sym c.in-Ok.ensures.exact) at

pub returns-in-Err-Fault : goal.returns-in-Err-Fault
returns-in-Err-Fault g c =
    let had = g.F.JournalFiles.had c.args.files.now in
    let says = g.F.AccessTexts.says c.args.files.now in
    let asked = c.args.asked.now in
    let exact = subst (λ (e : CertificateError). IsFault (fault_of e) (certificate_of asked.certificate.now))
    c.in-Err-Fault.field-0-is c.in-Err-Fault.ensures.exact in
    let told = handed (IsReportOfClaim c.args.names.now had says c.args.archive.now asked.certificate.now asked.bounds
    c.args.style.now (Err c.in-Err-Fault.fault)) c.fault_over-told.result c.told_or_memory.result
    c.fault_over-told.ensures c.told_or_memory.ensures.told in
    subst (λ (read : Result Claim CertificateFault). IfOk c.told_or_memory.result (IsReportOfClaim c.args.names.now had
    says c.args.archive.now asked.certificate.now asked.bounds c.args.style.now read)) (sym exact) told
