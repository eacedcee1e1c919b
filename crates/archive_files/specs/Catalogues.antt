-- What files are.
use Rattle.std.specs.Prelude.{◌≡◌, ℕ, ◌<◌, ◌⊎◌, List, Some, slice_get}
use Rattle.journal_archive.specs.declared.outline.FiledVolume.{FiledVolume}
use Rattle.archive_files.specs.declared.file_content.FileContent.TheVariants.{Volume}
use Rattle.archive_files.specs.declared.cataloguing.SkippedFile.{SkippedFile}
use Rattle.archive_files.specs.declared.cataloguing.Catalogue.{Catalogue}
use Rattle.archive_files.specs.Found.{IsFound}
use Rattle.archive_files.specs.Alike.{AreCopies}

abbrev pub IsIn : {X : Type 0} → List X → X → Type 0
IsIn xs x = (k : ℕ) × (slice_get xs k ≡ Some x)

-- each volume was found in its file
abbrev pub AreFound : (ℕ → List ℕ → Type 0) → List FiledVolume → Type 0
AreFound had vs = (v : FiledVolume) → IsIn vs v → IsFound (had v.file) v.file (Volume v)

-- each file that is passed over is what is said of it
abbrev pub ArePassedOver : (ℕ → List ℕ → Type 0) → List SkippedFile → Type 0
ArePassedOver had ps = (p : SkippedFile) → IsIn ps p → IsFound (had p.file) p.file p.found

-- it was passed over
abbrev pub IsPassedOver : List SkippedFile → ℕ → Type 0
IsPassedOver ps file = (p : SkippedFile) × IsIn ps p × (p.file ≡ file)

-- its volume stands on one of the shelves, by this file or by another that says the same and had the same octets
abbrev pub IsKept : (ℕ → List ℕ → Type 0) → (primary secondary : List FiledVolume) → ℕ → Type 0
IsKept had primary secondary file =
    (v : FiledVolume) × (w : FiledVolume) × IsFound (had file) file (Volume v)
    × (IsIn primary w ⊎ IsIn secondary w) × (w.outline ≡ v.outline) × AreCopies had w v

-- what so many files are: each stands in the archive or is passed over, and nothing else is said
pub record IsCatalogue (had : ℕ → List ℕ → Type 0) (count : ℕ) (c : Catalogue) : Type 0 where
  pub primary : AreFound had c.archive.primary
  pub secondary : AreFound had c.archive.secondary
  pub passed_over : ArePassedOver had c.passed_over.items
  pub all : (file : ℕ) → file < count
      → IsPassedOver c.passed_over.items file ⊎ IsKept had c.archive.primary c.archive.secondary file
