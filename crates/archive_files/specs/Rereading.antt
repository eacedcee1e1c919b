-- Why volumes that are read anew answer nothing.
use Rattle.std.specs.Prelude.{◌≡◌, ℕ, ⊤, List}
use Rattle.open_volume.specs.declared.volume.VolumeSoFar.{VolumeSoFar}
use Rattle.journal_archive.specs.declared.outline.FiledVolume.{FiledVolume}
use Rattle.volume_join.specs.Heads.{BeginsOtherwise}
use Rattle.archive_files.specs.declared.error.FilesError.{FilesError}
use Rattle.archive_files.specs.declared.error.FilesError.TheVariants.{OtherHead, Torn, Changed, Faulty, Memory}
use Rattle.archive_files.specs.declared.file_content.FileContent.TheVariants.{Faulty as FaultyContent}
use Rattle.archive_files.specs.Found.{IsFound}
use Rattle.archive_files.specs.Showing.{IsCopyOf}
use Rattle.archive_files.specs.Torn.{IsTornAt}

-- V7: a volume of this file begins otherwise than the one before it names, in this line first
abbrev pub HasOtherHead : (ℕ → List ℕ → Type 0) → (file line : ℕ) → Type 0
HasOtherHead had file line =
    (before : FiledVolume) × (next : FiledVolume) × (v : VolumeSoFar) × (w : VolumeSoFar) × (next.file ≡ file)
    × IsCopyOf (had before.file) before v × IsCopyOf (had next.file) next w × BeginsOtherwise v.journal w.journal line

-- why volumes that are read anew answer nothing
abbrev pub IsReadingRefusal : (ℕ → List ℕ → Type 0) → FilesError → Type 0
IsReadingRefusal had (OtherHead file line) = HasOtherHead had file line
IsReadingRefusal had (Torn file line) = IsTornAt (had file) line
IsReadingRefusal had (Faulty file fault) = IsFound (had file) file (FaultyContent fault)
IsReadingRefusal had (Changed file) = ⊤
IsReadingRefusal had Memory = ⊤
IsReadingRefusal had _ = ⊥

-- a fault that is said is this file's
abbrev pub IsOfFile : (file : ℕ) → FilesError → Type 0
IsOfFile file (Faulty at fault) = at ≡ file
IsOfFile file _ = ⊤
