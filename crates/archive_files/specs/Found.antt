-- What a file is.
use Rattle.std.specs.Prelude.{◌≡◌, ℕ, ◌⊎◌, ⊤, List, Option, Some, None, Ok, Err, length}
use Rattle.open_volume.specs.declared.volume.VolumeSoFar.{VolumeSoFar}
use Rattle.open_volume.specs.Faults.{volume_of}
use Rattle.journal_archive.specs.declared.outline.VolumeOutline.{VolumeOutline}
use Rattle.journal_archive.specs.Copies.{before_zero, whole_lines}
use Rattle.journal_archive.specs.declared.end.FileEnd.{FileEnd}
use Rattle.journal_archive.specs.Beginning.{IsHeaded}
use Rattle.journal_archive.specs.Outlining.{outline_of, outline_by}
use Rattle.archive_files.specs.Parts.{IsBeginning, IsEnd}
use Rattle.archive_files.specs.declared.file_content.EdgeContent.{EdgeContent}
use Rattle.archive_files.specs.declared.file_content.EdgeContent.TheVariants.{Volume as IsVolume, NoJournal as IsNoJournal}
use Rattle.archive_files.specs.declared.file_content.EdgeContent.TheVariants.{Unclear}
use Rattle.archive_files.specs.declared.file_content.FileContent.{FileContent}
use Rattle.archive_files.specs.declared.file_content.FileContent.TheVariants.{Volume, Unwritten, NoJournal, Faulty, Unreadable}

-- the volume that a copy with these octets has
abbrev pub HasContent : List ℕ → VolumeSoFar → Type 0
HasContent octets v = volume_of (whole_lines (before_zero octets)) ≡ Ok v

-- its edges, of two moments perhaps, tell this outline
abbrev pub IsToldByEdges : (List ℕ → Type 0) → VolumeOutline → Type 0
IsToldByEdges had outline =
    (beginning : List ℕ) × (end : FileEnd) × IsBeginning had beginning × IsEnd had end
    × (outline_by beginning end ≡ Some outline)

-- all of its octets tell it
abbrev pub IsToldByAll : (List ℕ → Type 0) → Option VolumeOutline → Type 0
IsToldByAll had outline =
    (octets : List ℕ) × (v : VolumeSoFar) × had octets × HasContent octets v × (outline_of v (length octets) ≡ outline)

-- the file begins with a line that is no journal's, or with none
abbrev pub BeginsAsNone : (List ℕ → Type 0) → Type 0
BeginsAsNone had = (beginning : List ℕ) × IsBeginning had beginning × (IsHeaded beginning → ⊥)

-- what the edges of a file tell
abbrev pub IsGlimpsed : (List ℕ → Type 0) → EdgeContent → Type 0
IsGlimpsed had (IsVolume outline) = IsToldByEdges had outline
IsGlimpsed had IsNoJournal = BeginsAsNone had
IsGlimpsed had Unclear = ⊤

abbrev pub found_by : ℕ → Option VolumeOutline → FileContent
found_by file (Some outline) = Volume (record { file = file; outline = outline })
found_by file None = Unwritten

abbrev pub found_in : (file octets : ℕ) → VolumeSoFar → FileContent
found_in file octets v = found_by file (outline_of v octets)

-- the file, which had some octets when it was read, is this
abbrev pub IsFound : (List ℕ → Type 0) → (file : ℕ) → FileContent → Type 0
IsFound had file (Volume f) =
    (f.file ≡ file) × (IsToldByEdges had f.outline ⊎ IsToldByAll had (Some f.outline))
IsFound had file Unwritten = IsToldByAll had None
IsFound had file NoJournal = BeginsAsNone had
IsFound had file (Faulty fault) =
    (octets : List ℕ) × had octets × (volume_of (whole_lines (before_zero octets)) ≡ Err fault)
IsFound had file Unreadable = ⊤
