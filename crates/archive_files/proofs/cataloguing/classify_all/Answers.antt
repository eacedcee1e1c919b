use Rattle.std.specs.Prelude.{List, ◌+◌}
use Rattle.std.proofs.Common.{sym, ap, subst, ◌∙◌, refl}
use Rattle.journal_archive.specs.declared.outline.FiledVolume.{FiledVolume}
use Rattle.archive_files.specs.declared.cataloguing.SkippedFile.{SkippedFile}
use Rattle.archive_files.specs.Found.{IsFound}
use Rattle.archive_files.specs.Telling.{AreTold}
use Rattle.archive_files.proofs.Listed.{more_volume, more_passed}
use Rattle.archive_files.proofs.cataloguing.classify_all.Goals.{in-Volume+in_ok-extend_from_slice-in-Volume}
use Rattle.archive_files.proofs.cataloguing.classify_all.Goals.{in_default+in_ok-extend_from_slice-in_default}
use Rattle.archive_files.proofs.cataloguing.classify_all.Goals as goal

pub loop-file-preserved : goal.loop-file-preserved
loop-file-preserved g c =
    let had = g.F.JournalFiles.had c.args.files.now in
    elim c.match-branch-2.branch [
      | in-Volume+in_ok-extend_from_slice-in-Volume w ↦ subst (λ (ps : List SkippedFile).
          AreTold had (c.loop-file.file + 1) c.match-branch-2.volumes.items ps)
          (sym (ap (λ v. v.items) w.passed_over-is))
          (more_volume had c.loop-file.file c.loop-file.volumes.items c.loop-file.passed_over.items
          c.loop-file.invariant c.match-branch-2.volumes.items w.in-Volume.volume
          (ap (λ v. v.items) w.volumes-is ∙ w.in_ok-extend_from_slice-in-Volume.ensures.items)
          (subst (IsFound (had c.loop-file.file) c.loop-file.file) w.in-Volume.is c.in_ok-other.ensures))
      | in_default+in_ok-extend_from_slice-in_default w ↦ subst (λ (vs : List FiledVolume).
          AreTold had (c.loop-file.file + 1) vs c.match-branch-2.passed_over.items)
          (sym (ap (λ v. v.items) w.volumes-is))
          (more_passed had c.loop-file.file c.loop-file.volumes.items c.loop-file.passed_over.items
          c.loop-file.invariant c.match-branch-2.passed_over.items
          (record { file = c.loop-file.file; found = c.in_ok-other.other })
          (ap (λ v. v.items) w.passed_over-is ∙ w.in_ok-extend_from_slice-in_default.ensures.items) refl
          c.in_ok-other.ensures)
    ]
