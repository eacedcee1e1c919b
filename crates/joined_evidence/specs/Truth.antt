-- That the evidence over volumes is true in every run of the pair that leaves these volumes.
use Rattle.std.specs.Prelude.{◌≡◌, ⊤, ℕ, List, [], ◌∷◌}
use Rattle.plain_search.specs.declared.query.Query.{Query}
use Rattle.journal_archive.specs.declared.archive.Archive.{Archive}
use Rattle.volume_spans.specs.declared.spans.ReadSpans.{ReadSpans}
use Rattle.volume_spans.specs.Spans.{ArePairRead, pair_of, IsLastPair}
use Rattle.joined_rulings.specs.Truth.{IsTrueOverSpans}
use Rattle.joined_evidence.specs.declared.span_searching.SpanEvidence.{SpanEvidence}
use Rattle.joined_evidence.specs.declared.stretches.SpannedStretch.{SpannedStretch}
use Rattle.joined_evidence.specs.declared.stretches.SpannedStretch.TheVariants.{Own, Joined}

-- true over volumes of the archive that were read, which it names
abbrev pub IsTrueOverItsSpans : (had : ℕ → List ℕ → Type 0) → Archive → Query → SpanEvidence → Type 0
IsTrueOverItsSpans had archive q e =
    (r : ReadSpans) × ArePairRead had archive r × (e.spans ≡ pair_of r) × IsLastPair r e.pair
    × IsTrueOverSpans r q.skew q.transit e.certificate

-- what is found over spans is
abbrev pub IsTrueStretch : (had : ℕ → List ℕ → Type 0) → Archive → Query → SpannedStretch → Type 0
IsTrueStretch had archive q (Own found) = ⊤
IsTrueStretch had archive q (Joined e end) = IsTrueOverItsSpans had archive q e

abbrev pub AreTrueStretches : (had : ℕ → List ℕ → Type 0) → Archive → Query → List SpannedStretch → Type 0
AreTrueStretches had archive q [] = ⊤
AreTrueStretches had archive q (s ∷ ss) = IsTrueStretch had archive q s × AreTrueStretches had archive q ss
