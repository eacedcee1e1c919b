-- Files of one volume, and what of their octets was compared.
use Rattle.std.specs.Prelude.{◌≡◌, ◌≢◌, ℕ, ◌⊎◌, List, length, take, min, slice_get, Some}
use Rattle.journal_archive.specs.declared.outline.FiledVolume.{FiledVolume}
use Rattle.journal_archive.specs.declared.error.ArchiveError.{ArchiveError}
use Rattle.journal_archive.specs.declared.error.ArchiveError.TheVariants.{Differ}
use Rattle.archive_files.specs.declared.error.FilesError.{FilesError}
use Rattle.archive_files.specs.declared.error.FilesError.TheVariants.{Archive, OtherPair}
use Rattle.archive_files.specs.declared.file_content.FileContent.TheVariants.{Volume}
use Rattle.archive_files.specs.Found.{IsFound}

-- how many octets are compared: no more than these, and no more than both have
abbrev pub compared : ℕ → List ℕ → List ℕ → ℕ
compared octets a b = min octets (min (length a) (length b))

-- as far as both go, and no farther than so many octets, the two are the same
abbrev pub AreSameUpTo : ℕ → List ℕ → List ℕ → Type 0
AreSameUpTo octets a b = take (compared octets a b) a ≡ take (compared octets a b) b

-- read anew, both files had the same octets, as far as both went: no farther than the volume was outlined
abbrev pub HadTheSame : (ℕ → List ℕ → Type 0) → FiledVolume → FiledVolume → Type 0
HadTheSame had v w =
    (a : List ℕ) × (b : List ℕ) × had v.file a × had w.file b × AreSameUpTo v.outline.octets a b

-- read anew, they had other octets there
abbrev pub HadOthers : (ℕ → List ℕ → Type 0) → FiledVolume → FiledVolume → Type 0
HadOthers had v w =
    (a : List ℕ) × (b : List ℕ) × had v.file a × had w.file b × (AreSameUpTo v.outline.octets a b → ⊥)

-- one file, or two that had the same
abbrev pub AreCopies : (ℕ → List ℕ → Type 0) → FiledVolume → FiledVolume → Type 0
AreCopies had v w = (v.file ≡ w.file) ⊎ HadTheSame had v w

-- The two files are of one volume of a side: their outlines differ, or what they had where these are the same.
pub record AreUnlike (had : ℕ → List ℕ → Type 0) (first second : ℕ) : Type 0 where
  pub one : FiledVolume
  pub other : FiledVolume
  pub is_one : (one.file ≡ first) × IsFound (had first) first (Volume one)
  pub is_other : (other.file ≡ second) × IsFound (had second) second (Volume other)
  pub of_side : one.outline.side ≡ other.outline.side
  pub numbered : one.outline.number ≡ other.outline.number
  pub differ : (one.outline ≢ other.outline) ⊎ HadOthers had one other

-- of two files that differ those are named
abbrev pub DifferTruly : (ℕ → List ℕ → Type 0) → FilesError → Type 0
DifferTruly had e = (first second : ℕ) → e ≡ Archive (Differ first second) → AreUnlike had first second

abbrev pub IsNoArchives : FilesError → Type 0
IsNoArchives e = (why : ArchiveError) → e ≡ Archive why → ⊥

abbrev pub IsNoTies : FilesError → Type 0
IsNoTies e = (first second : ℕ) → e ≡ OtherPair first second → ⊥

-- it's a copy of each file of the shelf that says the same of its volume
abbrev pub IsCopyOf : (ℕ → List ℕ → Type 0) → (shelf : List FiledVolume) → FiledVolume → Type 0
IsCopyOf had shelf w = (k : ℕ) (v : FiledVolume) → slice_get shelf k ≡ Some v → v.outline ≡ w.outline → AreCopies had v w

abbrev pub AreCopiesOf : (ℕ → List ℕ → Type 0) → (shelf files : List FiledVolume) → Type 0
AreCopiesOf had shelf files = (k : ℕ) (w : FiledVolume) → slice_get files k ≡ Some w → IsCopyOf had shelf w
