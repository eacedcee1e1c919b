-- A certificate, tried over the spans that show its moments and wider ones.
use Rattle.std.specs.Prelude.{◌≡◌, ◌⊎◌, ℕ, ◌-◌, List, Option, Some, None}
use Rattle.binding_rules.specs.declared.role.Role.{Role}
use Rattle.causal_order.specs.declared.certificate.Certificate.{Certificate as Claim}
use Rattle.plain_search.specs.declared.query.HolderQuery.{HolderQuery}
use Rattle.journal_archive.specs.declared.archive.Archive.{Archive}
use Rattle.journal_archive.specs.declared.covering.CoverageGap.{CoverageGap}
use Rattle.archive_desk.specs.declared.coverage_gaps.TimingBounds.{TimingBounds}
use Rattle.volume_spans.specs.declared.span.SpanPair.{SpanPair}
use Rattle.volume_spans.specs.declared.spans.ReadSpans.{ReadSpans}
use Rattle.joined_answers.specs.declared.starting.MomentSpans.TheVariants.{Read, Lacking}
use Rattle.joined_answers.specs.Reach.{reach}
use Rattle.joined_answers.specs.Starting.{AreMomentSpans}
use Rattle.joined_rulings.specs.declared.trial.SpanAcceptance.{SpanAcceptance}
use Rattle.joined_rulings.specs.Walking.{HasBarrier, IsWalk}
use Rattle.joined_rulings.specs.Between.{AreSpansBetween, AreWithinReach, IsTriedOver}

-- who held the certificate's prefix at a moment
abbrev pub asked_at : Claim → TimingBounds → ℕ → HolderQuery
asked_at c bounds at = record { prefix = c.prefix; at = at; skew = bounds.skew; transit = bounds.transit }

-- A moment's own spans can't be read: a side has no volumes that show it, or a file stands against reading them.
abbrev pub IsUnshown : (had : ℕ → List ℕ → Type 0) → Archive → HolderQuery → Type 0
IsUnshown had archive q =
    ((side : Role) × (gap : CoverageGap) × AreMomentSpans had archive q.skew q.transit q.at (Lacking side gap))
    ⊎ HasBarrier had

-- the spans that show the moment, or none
abbrev pub AreShownSpans : (had : ℕ → List ℕ → Type 0) → Archive → HolderQuery → Option ReadSpans → Type 0
AreShownSpans had archive q (Some r) = AreMomentSpans had archive q.skew q.transit q.at (Read r)
AreShownSpans had archive q None = IsUnshown had archive q

-- the first spans that accept it, of those that show the moment and wider ones; or none do
abbrev pub IsTriedAt : (had : ℕ → List ℕ → Type 0) → Archive → HolderQuery → Claim → Option SpanAcceptance → Type 0
IsTriedAt had archive q c end =
    ((r : ReadSpans) × (times : ℕ) × AreMomentSpans had archive q.skew q.transit q.at (Read r)
    × IsWalk had archive q c times r end)
    ⊎ (IsUnshown had archive q × (end ≡ None))

-- over spans that lie no further back than a lease reaches by the settings of these volumes
abbrev pub IsTriedWithin : (had : ℕ → List ℕ → Type 0) → Archive → SpanPair → ReadSpans → HolderQuery → Claim
    → Option SpanAcceptance → Type 0
IsTriedWithin had archive spans r q c end =
    (AreWithinReach archive spans q.at (reach q r) × IsTriedOver had archive spans q c end)
    ⊎ ((AreWithinReach archive spans q.at (reach q r) → ⊥) × (end ≡ None))

-- by the settings of the volumes that show the moment; none where they can't be read
abbrev pub IsTriedBehind : (had : ℕ → List ℕ → Type 0) → Archive → SpanPair → HolderQuery → Claim
    → Option SpanAcceptance → Type 0
IsTriedBehind had archive spans q c end =
    ((r : ReadSpans) × AreShownSpans had archive q (Some r) × IsTriedWithin had archive spans r q c end)
    ⊎ (AreShownSpans had archive q None × (end ≡ None))

-- over the volumes from those that show where its interval begins to those that show its last moment, where these are
-- several
abbrev pub IsTriedBetween : (had : ℕ → List ℕ → Type 0) → Archive → TimingBounds → Claim → Option SpanAcceptance → Type 0
IsTriedBetween had archive bounds c end =
    ((spans : SpanPair) × AreSpansBetween archive bounds c.from (c.to - 1) (Some spans)
    × IsTriedBehind had archive spans (asked_at c bounds (c.to - 1)) c end)
    ⊎ (AreSpansBetween archive bounds c.from (c.to - 1) None × (end ≡ None))

-- at the interval's last moment, and then over the volumes between
abbrev pub IsTriedLater : (had : ℕ → List ℕ → Type 0) → Archive → TimingBounds → Claim → Option SpanAcceptance → Type 0
IsTriedLater had archive bounds c end =
    ((a : SpanAcceptance) × (end ≡ Some a) × IsTriedAt had archive (asked_at c bounds (c.to - 1)) c (Some a))
    ⊎ (IsTriedAt had archive (asked_at c bounds (c.to - 1)) c None × IsTriedBetween had archive bounds c end)

-- at the moment where its interval begins, and then at its last, and then over the volumes between
abbrev pub IsTried : (had : ℕ → List ℕ → Type 0) → Archive → TimingBounds → Claim → Option SpanAcceptance → Type 0
IsTried had archive bounds c end =
    ((a : SpanAcceptance) × (end ≡ Some a) × IsTriedAt had archive (asked_at c bounds c.from) c (Some a))
    ⊎ (IsTriedAt had archive (asked_at c bounds c.from) c None × IsTriedLater had archive bounds c end)
