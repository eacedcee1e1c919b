use Rattle.std.specs.Prelude.{◌≡◌, ◌<◌, ℕ, Some, slice_get}
use Rattle.journal_archive.specs.declared.outline.FiledVolume.{FiledVolume}
use Rattle.archive_files.specs.Alike.{IsCopyOf}
use Rattle.archive_files.proofs.copies.expect_copies.Given as goal

abbrev pub invariant-loop-volume : goal.invariant-loop-volume
invariant-loop-volume g l = (k : ℕ) (w : FiledVolume) → k < l.volume-index → slice_get l.volumes k ≡ Some w
    → IsCopyOf (g.F.JournalFiles.had l.files) l.shelf w
