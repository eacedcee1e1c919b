use Rattle.std.specs.Prelude.{◌≡◌, ◌<◌, ℕ, Some, slice_get}
use Rattle.journal_archive.specs.declared.outline.FiledVolume.{FiledVolume}
use Rattle.archive_files.specs.Showing.{AgreesWith}
use Rattle.archive_files.proofs.neighbours.expect_neighbours.Given as goal

abbrev pub invariant-loop-other : goal.invariant-loop-other
invariant-loop-other g l = (k : ℕ) (v : FiledVolume) → k < l.other-index → slice_get l.shelf k ≡ Some v
    → AgreesWith (g.F.JournalFiles.had l.files) l.own l.volume.journal v
