-- Which volumes files have.
use Rattle.std.specs.Prelude.{◌≡◌, ℕ, List, length, Some, Ok}
use Rattle.sha2.specs.Sha256.{sha256}
use Rattle.open_volume.specs.declared.volume.VolumeSoFar.{VolumeSoFar}
use Rattle.open_volume.specs.Faults.{volume_of}
use Rattle.journal_archive.specs.Outlining.{outline_of}
use Rattle.journal_archive.specs.Copies.{whole_lines, before_zero}
use Rattle.volume_listing.specs.declared.listed.ListedVolume.{ListedVolume}

-- the volume that the whole lines of the octets spell, before the first zero octet, and the digest of all octets
pub record IsListed (octets : List ℕ) (v : ListedVolume) : Type 0 where
  pub volume : VolumeSoFar
  pub volume_is : volume_of (whole_lines (before_zero octets)) ≡ Ok volume
  pub outline_is : outline_of volume (length octets) ≡ Some v.outline
  pub lines_are : v.lines ≡ length volume.journal.lines
  pub digest_is : v.digest ≡ sha256 octets

-- the file, which had some octets when it was read, had this volume
pub record IsListedOf (had : ℕ → List ℕ → Type 0) (file : ℕ) (v : ListedVolume) : Type 0 where
  pub octets : List ℕ
  pub were : had file octets
  pub listed : IsListed octets v
