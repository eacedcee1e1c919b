use Rattle.std.proofs.Common.{subst, refl, List}
use Rattle.archive_files.specs.declared.cataloguing.SkippedFile.{SkippedFile}
use Rattle.archive_desk.specs.Unread.{AllRead}
use Rattle.joined_rulings.proofs.widest.audited.Goals as goal

pub returns : goal.returns
returns g c = record {
  catalogue = c.in_ok-catalogue.catalogue;
  is_catalogue = c.in_ok-catalogue.ensures.catalogue;
  tied = c.in_ok-catalogue.ensures.tied;
  read = subst (λ (ps : List SkippedFile). AllRead c.args.names.now ps) c.deref.ensures.value
      c.in_ok-expect_read.ensures.read;
  passed = refl;
  bounded = refl;
  ruled = c.in_ok-ruled.ensures;
}
