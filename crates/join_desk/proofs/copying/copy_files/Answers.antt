use Rattle.std.proofs.Common.{subst, List}
use Rattle.journal_archive.specs.declared.outline.FiledVolume.{FiledVolume}
use Rattle.archive_files.specs.declared.cataloguing.SkippedFile.{SkippedFile}
use Rattle.archive_desk.specs.Unread.{AllRead}
use Rattle.join_desk.specs.Copying.{IsShelfTold}
use Rattle.join_desk.proofs.copying.copy_files.Goals as goal

pub returns : goal.returns
returns g c =
    let catalogue = c.in_ok-catalogue.catalogue in record {
      catalogue = catalogue;
      is_catalogue = c.in_ok-catalogue.ensures.catalogue;
      tied = c.in_ok-catalogue.ensures.tied;
      read = subst (λ (ps : List SkippedFile). AllRead c.args.names.now ps) c.deref.ensures.value
          c.in_ok-expect_read.ensures.read;
      passed = c.in_ok-passed.passed.items;
      is_told = subst
          (λ (vs : List FiledVolume). IsShelfTold (g.F.JournalFiles.had c.args.files.now) catalogue.archive c.args.names.now
          c.in_ok-passed.passed.items c.args.query.now c.args.lines vs c.in_ok-told.told)
          c.shelf_of-volumes.ensures c.in_ok-told.ensures;
    }
