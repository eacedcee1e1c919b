use Rattle.std.proofs.Common.{subst, refl, List}
use Rattle.archive_files.specs.declared.cataloguing.SkippedFile.{SkippedFile}
use Rattle.archive_desk.specs.Unread.{AllRead}
use Rattle.joined_evidence.proofs.Truth.{all_so}
use Rattle.joined_evidence.proofs.stretches.find_widest.Goals as goal

pub returns : goal.returns
returns g c = record {
  catalogue = c.in_ok-catalogue.catalogue;
  is_catalogue = c.in_ok-catalogue.ensures.catalogue;
  tied = c.in_ok-catalogue.ensures.tied;
  read = subst (λ (ps : List SkippedFile). AllRead c.args.names.now ps) c.deref.ensures.value
      c.in_ok-expect_read.ensures.read;
  passed = refl;
  asked = refl;
  evidence = c.in_ok-stretches.ensures;
  accepted = all_so c.found_is_true.ensures (g.F.JournalFiles.had c.args.files.now) c.in_ok-catalogue.catalogue.archive
      c.args.query.now c.in_ok-stretches.stretches.items c.in_ok-stretches.ensures;
}
