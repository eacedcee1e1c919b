-- The volumes from those that show one moment to those that show a later one, and a certificate that is tried over them.
use Rattle.std.specs.Prelude.{◌≡◌, ◌⊎◌, ◌≤◌, ◌<◌, ◌+◌, ℕ, List, Option, Some, None, Contains as Has}
use Rattle.binding_rules.specs.declared.role.Role.{Role}
use Rattle.causal_order.specs.declared.certificate.Certificate.{Certificate as Claim}
use Rattle.plain_search.specs.declared.query.HolderQuery.{HolderQuery}
use Rattle.journal_archive.specs.declared.archive.Archive.{Archive}
use Rattle.journal_archive.specs.declared.covering.Coverage.{Coverage}
use Rattle.journal_archive.specs.declared.covering.Coverage.TheVariants.{Shown, Lacking}
use Rattle.journal_archive.specs.declared.covering.CoverageGap.TheVariants.{Roll}
use Rattle.journal_archive.specs.declared.outline.FiledVolume.{FiledVolume}
use Rattle.journal_archive.specs.Coverages.{Stands}
use Rattle.archive_desk.specs.declared.coverage_gaps.TimingBounds.{TimingBounds}
use Rattle.volume_spans.specs.declared.span.VolumeSpan.{VolumeSpan}
use Rattle.volume_spans.specs.declared.span.SpanPair.{SpanPair}
use Rattle.volume_spans.specs.declared.spans.ReadSpans.{ReadSpans}
use Rattle.volume_spans.specs.declared.spans.GivenSpans.TheVariants.{Read, Missing}
use Rattle.volume_spans.specs.Spans.{AreGiven}
use Rattle.joined_rulings.specs.declared.trial.SpanAcceptance.{SpanAcceptance}
use Rattle.joined_rulings.specs.declared.trial.SpanTrial.{SpanTrial}
use Rattle.joined_rulings.specs.Trials.{IsTrial}
use Rattle.joined_rulings.specs.Walking.{HasBarrier, accepted_of}

-- the numbers of a side's volumes that show a moment to which they stand so: of one, or of the two of a roll
abbrev pub span_at : Coverage → Option VolumeSpan
span_at (Shown v) = Some (record { first = v.outline.number; last = v.outline.number })
span_at (Lacking (Roll before next)) = Some (record { first = before.outline.number; last = next.outline.number })
span_at (Lacking gap) = None

abbrev pub both_spans : Option VolumeSpan → Option VolumeSpan → Option SpanPair
both_spans (Some a) (Some b) = Some (record { primary = a; secondary = b })
both_spans a b = None

-- those of both sides
pub record AreSpansAt (archive : Archive) (bounds : TimingBounds) (at : ℕ) (spans : Option SpanPair) : Type 0 where
  pub primary : Coverage
  pub secondary : Coverage
  pub primary_stands : Stands archive.primary bounds.skew bounds.transit at primary
  pub secondary_stands : Stands archive.secondary bounds.skew bounds.transit at secondary
  pub are : spans ≡ both_spans (span_at primary) (span_at secondary)

abbrev pub from_to : VolumeSpan → VolumeSpan → VolumeSpan
from_to a b = record { first = a.first; last = b.last }

-- from the first of the one to the last of the other
abbrev pub spans_from_to : SpanPair → SpanPair → SpanPair
spans_from_to a b = record { primary = from_to a.primary b.primary; secondary = from_to a.secondary b.secondary }

-- several of a side, in order
abbrev pub AreSeveral : SpanPair → Type 0
AreSeveral s =
    (s.primary.first ≤ s.primary.last) × (s.secondary.first ≤ s.secondary.last)
    × ((s.primary.first < s.primary.last) ⊎ (s.secondary.first < s.secondary.last))

-- those from one moment's to the other's, where they are several
abbrev pub AreBetween : Option SpanPair → Option SpanPair → Option SpanPair → Type 0
AreBetween (Some a) (Some b) (Some s) = (s ≡ spans_from_to a b) × AreSeveral s
AreBetween (Some a) (Some b) None = AreSeveral (spans_from_to a b) → ⊥
AreBetween a b spans = spans ≡ None

pub record AreSpansBetween (archive : Archive) (bounds : TimingBounds) (from until : ℕ) (spans : Option SpanPair)
    : Type 0 where
  pub first : Option SpanPair
  pub last : Option SpanPair
  pub is_first : AreSpansAt archive bounds from first
  pub is_last : AreSpansAt archive bounds until last
  pub are : AreBetween first last spans

-- ---- as far as a lease reaches

-- the volume behind the one of this number was opened so late that a lease may have begun before it which lasts at the
-- moment
abbrev pub OpensBehind : FiledVolume → (first at reach : ℕ) → Type 0
OpensBehind v first at reach = (v.outline.number ≡ first + 1) × (at < v.outline.opened + reach)

-- one volume, or no further back than a lease that lasts at the moment may have begun
abbrev pub IsWithinReach : (shelf : List FiledVolume) → VolumeSpan → (at reach : ℕ) → Type 0
IsWithinReach shelf span at reach =
    (span.first ≡ span.last) ⊎ ((v : FiledVolume) × Has shelf v × OpensBehind v span.first at reach)

abbrev pub AreWithinReach : Archive → SpanPair → (at reach : ℕ) → Type 0
AreWithinReach archive spans at reach =
    IsWithinReach archive.primary spans.primary at reach × IsWithinReach archive.secondary spans.secondary at reach

-- ---- a certificate over them

-- what comes of the certificate over spans that were read: they accept it, or not
abbrev pub IsAnswerBy : ReadSpans → HolderQuery → Claim → Option SpanAcceptance → Type 0
IsAnswerBy r q c end = (trial : SpanTrial) × IsTrial r q c trial × (end ≡ accepted_of trial)

-- given spans can't be read: a volume is missing, or a file stands against it
abbrev pub AreUnread : (had : ℕ → List ℕ → Type 0) → Archive → SpanPair → Type 0
AreUnread had archive spans =
    ((side : Role) × (number : ℕ) × AreGiven had archive spans (Missing side number)) ⊎ HasBarrier had

-- given spans accept it; or they don't, or can't be read
abbrev pub IsTriedOver : (had : ℕ → List ℕ → Type 0) → Archive → SpanPair → HolderQuery → Claim → Option SpanAcceptance
    → Type 0
IsTriedOver had archive spans q c end =
    ((r : ReadSpans) × AreGiven had archive spans (Read r) × IsAnswerBy r q c end)
    ⊎ (AreUnread had archive spans × (end ≡ None))
