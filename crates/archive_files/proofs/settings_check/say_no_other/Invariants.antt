use Rattle.std.specs.Prelude.{◌≡◌, ◌<◌, ℕ, Some, slice_get}
use Rattle.journal_archive.specs.declared.outline.FiledVolume.{FiledVolume}
use Rattle.archive_files.specs.Ties.{IsOfSide, SaysNoOther}
use Rattle.archive_files.proofs.settings_check.say_no_other.Given as goal

abbrev pub invariant-loop-volume : goal.invariant-loop-volume
invariant-loop-volume g l = (k : ℕ) (v : FiledVolume) → k < l.volume-index → slice_get l.volumes k ≡ Some v
    → IsOfSide l.side v → SaysNoOther (g.F.JournalFiles.had l.files v.file) l.known.settings.items
