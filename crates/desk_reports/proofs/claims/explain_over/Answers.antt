use Rattle.std.proofs.Common.{List, ℕ, subst}
use Rattle.archive_files.specs.declared.cataloguing.SkippedFile.{SkippedFile}
use Rattle.archive_desk.specs.Unread.{AllRead}
use Rattle.desk_reports.specs.Behind.{IsBehindNotes}
use Rattle.desk_reports.specs.OverVolumes.{IsReportOfFiles}
use Rattle.desk_reports.proofs.PageTexts.{mapped}
use Rattle.desk_reports.proofs.claims.explain_over.Goals as goal

pub returns : goal.returns
returns g c =
    let had = g.F.JournalFiles.had c.args.files.now in
    let says = g.F.AccessTexts.says c.args.files.now in
    let asked = c.args.asked.now in
    mapped (λ noted. (lines : List ℕ) × IsBehindNotes lines c.in_ok-told.told noted)
    (IsReportOfFiles c.args.names.now had (g.F.JournalFiles.files c.args.files.now) says asked.certificate.now
    asked.bounds c.args.style.now c.args.spans) c.behind_passed.result c.behind_passed.ensures.told
    (λ noted behind. record {
      catalogue = c.in_ok-catalogue.catalogue;
      is_catalogue = c.in_ok-catalogue.ensures.catalogue;
      tied = c.in_ok-catalogue.ensures.tied;
      read = subst (λ (ps : List SkippedFile). AllRead c.args.names.now ps) c.deref.ensures.value
          c.in_ok-expect_read.ensures.read;
      core = c.in_ok-told.told;
      reported = c.in_ok-told.ensures.report;
      accepted = c.in_ok-told.ensures.accepted;
      passed = behind.0;
      told_so = behind.1;
    })
