-- Whatever certificate is accepted over the journals of spans is true in every run of the pair that leaves the volumes.
use Rattle.std.specs.Prelude.{◌≡◌, ⊤, ℕ, List, [], ◌∷◌, Result, Ok, Err}
use Rattle.causal_order.specs.declared.certificate.Certificate.{Certificate as Claim}
use Rattle.causal_order.specs.declared.fault.CertificateFault.{CertificateFault}
use Rattle.certificate.specs.Faults.{certificate_of}
use Rattle.attribution.specs.declared.verdict.Verdict.TheVariants.{Accepted}
use Rattle.pair_judgement.specs.declared.judging.Judgement.{Judgement}
use Rattle.pair_judgement.specs.declared.judging.Judgement.TheVariants.{Verdict}
use Rattle.plain_search.specs.declared.query.HolderQuery.{HolderQuery}
use Rattle.archive_desk.specs.declared.coverage_gaps.TimingBounds.{TimingBounds}
use Rattle.volume_spans.specs.declared.spans.ReadSpans.{ReadSpans}
use Rattle.joined_rulings.specs.declared.given.GivenRulings.{GivenRulings}
use Rattle.joined_rulings.specs.declared.trial.SpanAcceptance.{SpanAcceptance}
use Rattle.joined_rulings.specs.Given.{AreGivenRulings}
use Rattle.joined_rulings.specs.Trials.{IsAcceptance}
use Rattle.joined_rulings.specs.Truth.{IsTrueOverSpans}

-- what spans accept is true over them
abbrev pub AcceptedIsTrue : Type 0
AcceptedIsTrue = (r : ReadSpans) (q : HolderQuery) (c : Claim) (a : SpanAcceptance) → IsAcceptance r q c a
    → IsTrueOverSpans r q.skew q.transit c

-- ---- rulings over given volumes

-- what is accepted is true over them
abbrev pub IsTrueOfGiven : ReadSpans → TimingBounds → Result Claim CertificateFault → Judgement → Type 0
IsTrueOfGiven r bounds (Ok c) ruling = ruling ≡ Verdict Accepted → IsTrueOverSpans r bounds.skew bounds.transit c
IsTrueOfGiven r bounds (Err fault) ruling = ⊤

abbrev pub AreTrueOfGiven : ReadSpans → TimingBounds → (texts : List (List ℕ)) → List Judgement → Type 0
AreTrueOfGiven r bounds [] [] = ⊤
AreTrueOfGiven r bounds (text ∷ texts) (ruling ∷ rulings) =
    IsTrueOfGiven r bounds (certificate_of text) ruling × AreTrueOfGiven r bounds texts rulings
AreTrueOfGiven r bounds _ _ = ⊥

-- so it is with each of the certificates
abbrev pub GivenRulingsAreTrue : Type 0
GivenRulingsAreTrue = (r : ReadSpans) (bounds : TimingBounds) (texts : List (List ℕ)) (g : GivenRulings)
    → AreGivenRulings r bounds texts g → AreTrueOfGiven r bounds texts g.rulings.items
