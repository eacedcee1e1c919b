use Rattle.std.specs.Prelude.{◌≡◌, ◌<◌, ℕ, Some, None, slice_get}
use Rattle.journal_archive.specs.declared.outline.FiledVolume.{FiledVolume}
use Rattle.archive_files.specs.Ties.{IsOfSide, IsSetUp}
use Rattle.archive_files.proofs.settings_check.say_the_same.Given as goal

abbrev pub invariant-loop-volume : goal.invariant-loop-volume
invariant-loop-volume g l = (k : ℕ) (v : FiledVolume) → k < l.volume-index → slice_get l.volumes k ≡ Some v
    → IsOfSide l.side v → IsSetUp (g.F.JournalFiles.had l.files v.file) None
