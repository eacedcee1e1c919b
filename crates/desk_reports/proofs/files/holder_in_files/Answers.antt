use Rattle.std.proofs.Common.{◌≡◌, List, ℕ, subst}
use Rattle.archive_files.specs.declared.cataloguing.SkippedFile.{SkippedFile}
use Rattle.archive_files.specs.declared.settings_check.SettingsScope.{SettingsScope}
use Rattle.archive_files.specs.Ties.{AreTied}
use Rattle.archive_desk.specs.Unread.{AllRead}
use Rattle.desk_reports.specs.Behind.{IsBehindNotes}
use Rattle.desk_reports.specs.OverFiles.{IsHolderReportOfFiles}
use Rattle.desk_reports.proofs.PageTexts.{mapped}
use Rattle.desk_reports.proofs.files.holder_in_files.Goals as goal

pub returns : goal.returns
returns g c =
    let had = g.F.JournalFiles.had c.args.files.now in
    let says = g.F.AccessTexts.says c.args.files.now in
    let all = c.in_ok-catalogue.catalogue in
    mapped (λ noted. (lines : List ℕ) × IsBehindNotes lines c.in_ok-told.told noted)
    (IsHolderReportOfFiles c.args.names.now had (g.F.JournalFiles.files c.args.files.now) says c.args.query.now
    c.args.settings c.args.style.now) c.behind_passed.result c.behind_passed.ensures.told
    (λ noted behind. record {
      catalogue = all;
      is_catalogue = c.in_ok-catalogue.ensures.catalogue;
      tied = subst (λ (scope : SettingsScope). AreTied had scope all.archive.primary all.archive.secondary)
          c.scope_of.ensures c.in_ok-catalogue.ensures.tied;
      read = subst (λ (ps : List SkippedFile). AllRead c.args.names.now ps) c.deref.ensures.value
          c.in_ok-expect_read.ensures.read;
      core = c.in_ok-told.told;
      reported = c.in_ok-told.ensures;
      passed = behind.0;
      told_so = behind.1;
    })
