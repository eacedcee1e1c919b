use Rattle.std.proofs.Common.{subst, List}
use Rattle.journal_archive.specs.declared.outline.FiledVolume.{FiledVolume}
use Rattle.archive_files.specs.declared.cataloguing.SkippedFile.{SkippedFile}
use Rattle.archive_desk.specs.Unread.{AllRead}
use Rattle.join_desk.specs.Choosing.{IsChoice}
use Rattle.join_desk.proofs.joining.join_files.Goals as goal

pub returns : goal.returns
returns g c = record {
  catalogue = c.in_ok-catalogue.catalogue;
  is_catalogue = c.in_ok-catalogue.ensures.catalogue;
  tied = c.in_ok-catalogue.ensures.tied;
  read = subst (λ (ps : List SkippedFile). AllRead c.args.names.now ps) c.deref.ensures.value
      c.in_ok-expect_read.ensures.read;
  choice = c.in_ok-choice.choice;
  is_choice = subst (λ (vs : List FiledVolume). IsChoice vs c.args.query.now.from c.args.query.now.to c.in_ok-choice.choice)
      c.shelf_of-volumes.ensures c.in_ok-choice.ensures;
  passed = c.in_ok-passed.passed.items;
  is_told = c.in_ok-told.ensures;
}
