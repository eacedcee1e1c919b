-- That what is ruled on certificates over volumes is true in every run of the pair that leaves these volumes.
use Rattle.std.specs.Prelude.{◌≡◌, ⊤, ℕ, List, [], ◌∷◌, Result, Ok, Err}
use Rattle.causal_order.specs.declared.certificate.Certificate.{Certificate as Claim}
use Rattle.causal_order.specs.declared.fault.CertificateFault.{CertificateFault}
use Rattle.certificate.specs.Faults.{certificate_of}
use Rattle.book_rules.specs.NextHead.{AreLegal}
use Rattle.journal_archive.specs.declared.archive.Archive.{Archive}
use Rattle.archive_desk.specs.declared.coverage_gaps.TimingBounds.{TimingBounds}
use Rattle.archive_desk.specs.Judging.{AcceptedIsTrue as OwnIsTrue}
use Rattle.joined_runs.specs.Laws.{IsTrueOverVolumesSoFar}
use Rattle.volume_spans.specs.declared.spans.ReadSpans.{ReadSpans}
use Rattle.volume_spans.specs.Laws.{volumes_of}
use Rattle.volume_spans.specs.Spans.{ArePairRead, pair_of, IsLastPair}
use Rattle.joined_rulings.specs.declared.trial.SpanRuling.{SpanRuling}
use Rattle.joined_rulings.specs.declared.widest.CertificateRuling.{CertificateRuling}
use Rattle.joined_rulings.specs.declared.widest.CertificateRuling.TheVariants.{Own, Joined}

-- in every run of the pair that began with the volumes of these spans, whatever volumes came before them and whatever
-- lines follow
abbrev pub IsTrueOverSpans : ReadSpans → (skew transit : ℕ) → Claim → Type 0
IsTrueOverSpans r skew transit c =
    IsTrueOverVolumesSoFar AreLegal (volumes_of r.primary.volumes.items r.secondary.volumes.items) skew transit c

-- true over volumes of the archive that were read, which the ruling names
abbrev pub IsTrueOverItsSpans : (had : ℕ → List ℕ → Type 0) → Archive → TimingBounds → Result Claim CertificateFault
    → SpanRuling → Type 0
IsTrueOverItsSpans had archive bounds (Ok c) ruling =
    (r : ReadSpans) × ArePairRead had archive r × (ruling.spans ≡ pair_of r) × IsLastPair r ruling.pair
    × IsTrueOverSpans r bounds.skew bounds.transit c
IsTrueOverItsSpans had archive bounds (Err fault) ruling = ⊥

-- what its own pair accepts is true of what the two files had
abbrev pub IsOwnTrue : (had : ℕ → List ℕ → Type 0) → TimingBounds → Result Claim CertificateFault → CertificateRuling
    → Type 0
IsOwnTrue had bounds (Ok c) (Own own) = OwnIsTrue had bounds.skew bounds.transit c own
IsOwnTrue had bounds _ _ = ⊤

abbrev pub IsTrueRuling : (had : ℕ → List ℕ → Type 0) → Archive → TimingBounds → Result Claim CertificateFault
    → CertificateRuling → Type 0
IsTrueRuling had archive bounds certificate (Own own) = IsOwnTrue had bounds certificate (Own own)
IsTrueRuling had archive bounds certificate (Joined ruling) = IsTrueOverItsSpans had archive bounds certificate ruling

abbrev pub AreTrueRulings : (had : ℕ → List ℕ → Type 0) → Archive → TimingBounds → (texts : List (List ℕ))
    → List CertificateRuling → Type 0
AreTrueRulings had archive bounds [] [] = ⊤
AreTrueRulings had archive bounds (text ∷ texts) (r ∷ rs) =
    IsTrueRuling had archive bounds (certificate_of text) r × AreTrueRulings had archive bounds texts rs
AreTrueRulings had archive bounds _ _ = ⊥
