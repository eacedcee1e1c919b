-- Files that can't be read, though they have the name of a volume's.
use Rattle.std.specs.Prelude.{◌≡◌, ℕ, List, Some, codes}
use Rattle.std.specs.Path.{path_extension}
use Rattle.std.specs.declared.path.buf.PathBuf.{PathBuf}
use Rattle.archive_files.specs.Catalogues.{IsIn}
use Rattle.archive_files.specs.declared.cataloguing.SkippedFile.{SkippedFile}
use Rattle.archive_files.specs.declared.file_content.FileContent.TheVariants.{Unreadable}
use Rattle.archive_desk.specs.Names.{name_at}

-- it is named as a server names the files of its volumes, which end with `.journal`
abbrev pub IsNamedAsVolume : {A : Type 0} → List (PathBuf A) → ℕ → Type 0
IsNamedAsVolume names file = path_extension (name_at names file) ≡ Some (codes "journal")

-- a file by the name of a volume's that can't be read: what stands in it isn't known
pub record IsUnread {A : Type 0} (names : List (PathBuf A)) (p : SkippedFile) : Type 0 where
  pub found : p.found ≡ Unreadable
  pub named : IsNamedAsVolume names p.file

-- none of the files that are passed over is one
abbrev pub AllRead : {A : Type 0} → List (PathBuf A) → List SkippedFile → Type 0
AllRead names passed = (p : SkippedFile) → IsIn passed p → IsUnread names p → ⊥
