-- The spans that show a moment: a volume of each side, or where it lies in the roll from one to the next these two.
use Rattle.std.specs.Prelude.{◌≡◌, ℕ, ◌⊎◌, List, [], ◌∷◌, Option, Some, None, map}
use Rattle.binding_rules.specs.declared.role.Role.{Role}
use Rattle.binding_rules.specs.declared.role.Role.TheVariants.{Primary, Secondary}
use Rattle.journal_archive.specs.declared.archive.Archive.{Archive}
use Rattle.journal_archive.specs.declared.covering.Coverage.{Coverage}
use Rattle.journal_archive.specs.declared.covering.Coverage.TheVariants.{Shown, Lacking as IsLacking}
use Rattle.journal_archive.specs.declared.covering.CoverageGap.{CoverageGap}
use Rattle.journal_archive.specs.declared.covering.CoverageGap.TheVariants.{Roll}
use Rattle.journal_archive.specs.declared.outline.FiledVolume.{FiledVolume}
use Rattle.journal_archive.specs.Coverages.{Stands}
use Rattle.archive_files.specs.Showing.{Follows}
use Rattle.volume_spans.specs.declared.reader.SpanReader.{SpanReader}
use Rattle.volume_spans.specs.declared.spans.ReadSpans.{ReadSpans}
use Rattle.volume_spans.specs.Reading.{IsSpanRead}
use Rattle.volume_spans.specs.Spans.{ArePairRead}
use Rattle.joined_answers.specs.declared.starting.SideStart.{SideStart}
use Rattle.joined_answers.specs.declared.starting.SideStart.TheVariants.{Read as SideRead, Lacking as SideLacking}
use Rattle.joined_answers.specs.declared.starting.MomentSpans.{MomentSpans}
use Rattle.joined_answers.specs.declared.starting.MomentSpans.TheVariants.{Read, Lacking}

abbrev pub files_of : SpanReader → List FiledVolume
files_of s = map (λ r. r.filed) s.volumes.items

-- where a side's volumes stand so to a moment, these of them show it: one, or the two of a roll
abbrev pub AreShowing : Coverage → List FiledVolume → Type 0
AreShowing (Shown v) fs = fs ≡ v ∷ []
AreShowing (IsLacking (Roll before next)) fs =
    (other : FiledVolume) × Follows other next × (fs ≡ other ∷ next ∷ [])
AreShowing (IsLacking gap) fs = ⊥

-- the volumes that show a moment to which a side's stand so, which were read; or why none do
abbrev pub IsStartOf : (had : ℕ → List ℕ → Type 0) → (shelf : List FiledVolume) → Coverage → SideStart → Type 0
IsStartOf had shelf coverage (SideRead s) = IsSpanRead had shelf s × AreShowing coverage (files_of s)
IsStartOf had shelf coverage (SideLacking gap) = coverage ≡ IsLacking gap

-- what no volumes together show either
abbrev pub IsLastingGap : Coverage → Option CoverageGap → Type 0
IsLastingGap (Shown v) gap = gap ≡ None
IsLastingGap (IsLacking (Roll before next)) gap = gap ≡ None
IsLastingGap (IsLacking lack) gap = gap ≡ Some lack

-- those of both sides, to which they stand so
abbrev pub AreSpansOf : (had : ℕ → List ℕ → Type 0) → Archive → (primary secondary : Coverage) → MomentSpans → Type 0
AreSpansOf had archive primary secondary (Read r) =
    ArePairRead had archive r × AreShowing primary (files_of r.primary) × AreShowing secondary (files_of r.secondary)
AreSpansOf had archive primary secondary (Lacking Primary gap) = primary ≡ IsLacking gap
AreSpansOf had archive primary secondary (Lacking Secondary gap) = secondary ≡ IsLacking gap

-- those of both sides; or which side lacks the moment, and why
abbrev pub AreMomentSpans : (had : ℕ → List ℕ → Type 0) → Archive → (skew transit moment : ℕ) → MomentSpans → Type 0
AreMomentSpans had archive skew transit moment (Read r) =
    ArePairRead had archive r
    × ((a : Coverage) × Stands archive.primary skew transit moment a × AreShowing a (files_of r.primary))
    × ((b : Coverage) × Stands archive.secondary skew transit moment b × AreShowing b (files_of r.secondary))
AreMomentSpans had archive skew transit moment (Lacking Primary gap) =
    Stands archive.primary skew transit moment (IsLacking gap)
AreMomentSpans had archive skew transit moment (Lacking Secondary gap) =
    Stands archive.secondary skew transit moment (IsLacking gap)
