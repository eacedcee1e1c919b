-- For bodies only: what so many of the files are, one after the other.
use Rattle.std.specs.Prelude.{ℕ, ◌<◌, ◌⊎◌, List}
use Rattle.journal_archive.specs.declared.outline.FiledVolume.{FiledVolume}
use Rattle.archive_files.specs.declared.file_content.FileContent.TheVariants.{Volume}
use Rattle.archive_files.specs.declared.cataloguing.SkippedFile.{SkippedFile}
use Rattle.archive_files.specs.Found.{IsFound}
use Rattle.archive_files.specs.Catalogues.{IsIn, AreFound, ArePassedOver, IsPassedOver}

pub record AreTold (had : ℕ → List ℕ → Type 0) (count : ℕ) (volumes : List FiledVolume) (passed : List SkippedFile) :
    Type 0 where
  pub found : AreFound had volumes
  pub passed_over : ArePassedOver had passed
  pub all : (file : ℕ) → file < count
      → IsPassedOver passed file ⊎ ((v : FiledVolume) × IsIn volumes v × IsFound (had file) file (Volume v))
