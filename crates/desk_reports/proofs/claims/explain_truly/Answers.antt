use Rattle.desk_reports.specs.OverVolumes.{IsReportBy, AcceptedIsTrue}
use Rattle.desk_reports.proofs.PageTexts.{mapped}
use Rattle.desk_reports.proofs.VolumeTruth.{by_true}
use Rattle.desk_reports.proofs.claims.explain_truly.Goals as goal

pub returns-clause-accepted : goal.returns-clause-accepted
returns-clause-accepted g c =
    let had = g.F.JournalFiles.had c.args.files.now in
    let says = g.F.AccessTexts.says c.args.files.now in
    mapped (IsReportBy c.args.names.now had says c.args.archive.now c.args.asked.now.certificate.now
    c.args.asked.now.bounds c.args.style.now c.args.spans)
    (AcceptedIsTrue c.args.names.now had c.args.archive.now c.args.asked.now.certificate.now c.args.asked.now.bounds)
    c.explain_by.result c.explain_by.ensures
    (λ told is. by_true c.volume_reports_are_true.ensures c.text_gives_the_volume_it_spells.ensures c.args.names.now had
    says c.args.archive.now c.args.asked.now.certificate.now c.args.asked.now.bounds c.args.style.now c.args.spans told
    is)
