use Rattle.std.proofs.Common.{subst, refl, List}
use Rattle.archive_files.specs.declared.settings_check.SettingsScope.{SettingsScope}
use Rattle.archive_files.specs.Ties.{AreTied}
use Rattle.archive_files.specs.declared.cataloguing.SkippedFile.{SkippedFile}
use Rattle.archive_desk.specs.Unread.{AllRead}
use Rattle.archive_desk.proofs.answering.answer.Goals as goal

pub returns : goal.returns
returns g c = record {
  catalogue = c.in_ok-catalogue.catalogue;
  is_catalogue = c.in_ok-catalogue.ensures.catalogue;
  tied = subst (λ (a : SettingsScope). AreTied (g.F.JournalFiles.had c.args.files.now) a
      c.in_ok-catalogue.catalogue.archive.primary c.in_ok-catalogue.catalogue.archive.secondary)
      c.agreement_of.ensures c.in_ok-catalogue.ensures.tied;
  read = subst (λ (ps : List SkippedFile). AllRead c.args.names.now ps) c.deref.ensures.value
      c.in_ok-expect_read.ensures.read;
  passed = refl;
  is_answer = c.in_ok-answer.ensures;
}
