-- Volumes that are torn: zero octets stand where further lines should.
use Rattle.std.specs.Prelude.{◌≡◌, ℕ, ◌+◌, Bool, true, ◌==◌, List, length}
use Rattle.std.specs.List.{list_any}
use Rattle.open_volume.specs.declared.volume.VolumeSoFar.{VolumeSoFar}
use Rattle.open_volume.specs.declared.volume.Phase.TheVariants.{GoingOn}
use Rattle.journal_archive.specs.declared.outline.FiledVolume.{FiledVolume}
use Rattle.archive_files.specs.Found.{HasContent}
use Rattle.archive_files.specs.Showing.{IsOf}

-- one of them is zero
abbrev pub has_zero : List ℕ → Bool
has_zero octets = list_any (λ b. b == 0) octets

-- the volume isn't closed before the first zero octet
pub record IsTorn (octets : List ℕ) (v : VolumeSoFar) : Type 0 where
  pub goes_on : v.phase ≡ GoingOn
  pub zeros : has_zero octets ≡ true

-- a copy of the volume, of octets that its file had, and it isn't torn
abbrev pub IsUntornCopyOf : (List ℕ → Type 0) → FiledVolume → VolumeSoFar → Type 0
IsUntornCopyOf had filed v =
    (octets : List ℕ) × had octets × HasContent octets v × IsOf v filed × (IsTorn octets v → ⊥)

-- the volume that the file had is torn where this line should stand
abbrev pub IsTornAt : (List ℕ → Type 0) → (line : ℕ) → Type 0
IsTornAt had line =
    (octets : List ℕ) × (v : VolumeSoFar) × had octets × HasContent octets v × IsTorn octets v
    × (line ≡ length v.journal.lines + 1)
