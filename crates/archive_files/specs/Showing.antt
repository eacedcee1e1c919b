-- What files show of a moment, where neighbouring volumes of a side agree: each begins as the one before it names.
use Rattle.std.specs.Prelude.{◌≡◌, ◌≢◌, ℕ, ◌+◌, ◌⊎◌, List, [], Option, Some, MatchOption, slice_get}
use Rattle.journal_lines.specs.declared.fault.JournalFault.{JournalFault}
use Rattle.journal_lines.specs.declared.line.Journal.{Journal}
use Rattle.journal_text.specs.Closed.{IsClosed}
use Rattle.open_volume.specs.declared.volume.VolumeSoFar.{VolumeSoFar}
use Rattle.journal_archive.specs.declared.outline.VolumeOutline.{VolumeOutline}
use Rattle.journal_archive.specs.declared.outline.FiledVolume.{FiledVolume}
use Rattle.journal_archive.specs.declared.pair_lookup.VolumePair.{VolumePair}
use Rattle.journal_archive.specs.declared.pair_lookup.PairLookup.TheVariants.{Shown as IsPair, Lacking as IsLacking}
use Rattle.journal_archive.specs.PairLookups.{IsPairLookup}
use Rattle.journal_archive.specs.declared.archive.Archive.{Archive}
use Rattle.journal_archive.specs.declared.pair.PairJournals.{PairJournals}
use Rattle.journal_archive.specs.Shown.{shown_pair}
use Rattle.journal_archive.specs.Outlining.{outline_of}
use Rattle.volume_join.specs.Heads.{BeginsAsNamed}
use Rattle.archive_files.specs.declared.showing.ShownJournals.{ShownJournals}
use Rattle.archive_files.specs.declared.showing.ShownJournals.TheVariants.{Journals, Lacking}
use Rattle.archive_files.specs.declared.file_content.FileContent.TheVariants.{Faulty}
use Rattle.archive_files.specs.Found.{HasContent, IsFound}

-- both are of one volume, of whichever of its lines
pub record AreOfOne (filed read : VolumeOutline) : Type 0 where
  pub side : filed.side ≡ read.side
  pub number : filed.number ≡ read.number
  pub opened : filed.opened ≡ read.opened

-- it's the volume that was filed
abbrev pub IsOf : VolumeSoFar → FiledVolume → Type 0
IsOf v filed = (read : VolumeOutline) × (outline_of v filed.outline.octets ≡ Some read) × AreOfOne filed.outline read

-- a copy of that volume, of octets that its file had
abbrev pub IsCopyOf : (List ℕ → Type 0) → FiledVolume → VolumeSoFar → Type 0
IsCopyOf had filed v = (octets : List ℕ) × had octets × HasContent octets v × IsOf v filed

-- the two journals that copies of both volumes show
abbrev pub AreShownBy : (ℕ → List ℕ → Type 0) → VolumePair → PairJournals → Type 0
AreShownBy had pair shown =
    (v : VolumeSoFar) × (w : VolumeSoFar) × IsCopyOf (had pair.primary.file) pair.primary v
    × IsCopyOf (had pair.secondary.file) pair.secondary w × (shown ≡ shown_pair v.journal w.journal)

-- each that has lines is closed
abbrev pub AreClosed : PairJournals → Type 0
AreClosed shown =
    (shown.primary.lines ≢ [] → IsClosed shown.primary.lines)
    × (shown.secondary.lines ≢ [] → IsClosed shown.secondary.lines)

-- ---- neighbouring volumes

-- the second volume is the next one of that side
abbrev pub Follows : (before next : FiledVolume) → Type 0
Follows before next = next.outline.number ≡ before.outline.number + 1

-- what the file had, read anew, is no journal
abbrev pub IsAtFault : (List ℕ → Type 0) → (file : ℕ) → Type 0
IsAtFault had file = (fault : JournalFault) × IsFound had file (Faulty fault)

-- the volume that the file had, read anew, or none where it's no journal
abbrev pub IsReadAnew : (ℕ → List ℕ → Type 0) → FiledVolume → Option VolumeSoFar → Type 0
IsReadAnew had filed read = MatchOption read (IsAtFault (had filed.file) filed.file) (IsCopyOf (had filed.file) filed)

-- of that volume it holds; or the file had none
abbrev pub HoldsAnew : (ℕ → List ℕ → Type 0) → FiledVolume → (Journal → Type 0) → Type 0
HoldsAnew had filed P =
    IsAtFault (had filed.file) filed.file
    ⊎ ((v : VolumeSoFar) × IsCopyOf (had filed.file) filed v × P v.journal)

-- a volume, and another of its side: where they are neighbours the later one begins as the earlier one names
abbrev pub AgreesWith : (ℕ → List ℕ → Type 0) → (own : FiledVolume) → Journal → (other : FiledVolume) → Type 0
AgreesWith had own volume other =
    (Follows other own → HoldsAnew had other (λ before. BeginsAsNamed before volume))
    × (Follows own other → HoldsAnew had other (λ next. BeginsAsNamed volume next))

-- so it is with each other volume of its side
abbrev pub AgreesBeside : (ℕ → List ℕ → Type 0) → (shelf : List FiledVolume) → (own : FiledVolume) → Journal → Type 0
AgreesBeside had shelf own volume =
    (k : ℕ) (other : FiledVolume) → slice_get shelf k ≡ Some other → AgreesWith had own volume other

-- copies of the two volumes agree with what lies beside
abbrev pub AreBorneOut : (ℕ → List ℕ → Type 0) → Archive → VolumePair → Type 0
AreBorneOut had archive pair =
    ((v : VolumeSoFar) × IsCopyOf (had pair.primary.file) pair.primary v
    × AgreesBeside had archive.primary pair.primary v.journal)
    × ((w : VolumeSoFar) × IsCopyOf (had pair.secondary.file) pair.secondary w
    × AgreesBeside had archive.secondary pair.secondary w.journal)

-- ---- of a moment

-- of the pair of volumes that shows the moment the two journals, which agree with what lies beside; or what is lacking
abbrev pub IsShownAt : (ℕ → List ℕ → Type 0) → Archive → (skew transit moment : ℕ) → ShownJournals → Type 0
IsShownAt had archive skew transit moment (Journals pair shown) =
    IsPairLookup archive.primary archive.secondary skew transit moment (IsPair pair)
    × AreShownBy had pair shown × AreClosed shown × AreBorneOut had archive pair
IsShownAt had archive skew transit moment (Lacking side lack) =
    IsPairLookup archive.primary archive.secondary skew transit moment (IsLacking side lack)
