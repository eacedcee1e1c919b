use Rattle.std.specs.Prelude.{◌≡◌, ◌<◌, ℕ, Some, slice_get}
use Rattle.journal_archive.specs.declared.outline.FiledVolume.{FiledVolume}
use Rattle.archive_files.specs.Alike.{AreCopies}
use Rattle.archive_files.proofs.copies.expect_copy_of.Given as goal

abbrev pub invariant-loop-kept : goal.invariant-loop-kept
invariant-loop-kept g l = (k : ℕ) (v : FiledVolume) → k < l.kept-index → slice_get l.shelf k ≡ Some v
    → v.outline ≡ l.volume.outline → AreCopies (g.F.JournalFiles.had l.files) v l.volume
