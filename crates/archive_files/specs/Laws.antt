-- What an archive's answers have to do with certificates.
use Rattle.std.specs.Prelude.{◌≡◌, ◌↔◌, ℕ, ◌-◌, ◌<◌, ◌≤◌, List, Some, slice_get, length}
use Rattle.binding_rules.specs.declared.role.Role.{Role}
use Rattle.journal_lines.specs.declared.line.Line.{Line}
use Rattle.journal_text.specs.Closed.{IsClosed}
use Rattle.causal_order.specs.Journals.{Journals, journal_of, volume_of}
use Rattle.causal_order.specs.declared.certificate.Certificate.{Certificate}
use Rattle.attribution.specs.Acceptance.{HasEarlier, IsAfterOpen, Reaches}
use Rattle.journal_archive.specs.declared.outline.VolumeOutline.{VolumeOutline}
use Rattle.journal_archive.specs.Showing.{shown_from, shown_until}

-- the outline of a volume with these lines
pub record IsOutlineOf (number : ℕ) (lines : List Line) (v : VolumeOutline) : Type 0 where
  pub numbered : v.number ≡ number
  pub first : Line
  pub is_first : slice_get lines 0 ≡ Some first
  pub opened : v.opened ≡ first.reading
  pub closing : Line
  pub is_last : slice_get lines (length lines - 1) ≡ Some closing
  pub last : v.last ≡ closing.reading

-- what acceptance asks of one side's open line and close line
abbrev pub IsAskedOf : Journals → (skew transit : ℕ) → Certificate → Role → Type 0
IsAskedOf js skew transit c side =
    Reaches js skew c side × (HasEarlier js side → IsAfterOpen js skew transit c.from side)

-- the volume shows all of the certificate's interval
abbrev pub ShowsAll : (skew transit : ℕ) → Certificate → VolumeOutline → Type 0
ShowsAll skew transit c v = (shown_from skew transit v ≤ c.from) × (c.to ≤ shown_until skew v)

abbrev pub ShowsWhatIsAsked : Type 0
ShowsWhatIsAsked = (js : Journals) (side : Role) (v : VolumeOutline) (skew transit : ℕ) (c : Certificate) → c.from < c.to
    → IsClosed (journal_of js side) → IsOutlineOf (volume_of js side) (journal_of js side) v
    → (ShowsAll skew transit c v ↔ IsAskedOf js skew transit c side)
