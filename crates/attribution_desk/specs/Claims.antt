-- For bodies only: certificates' texts on their way to rulings.
use Rattle.std.specs.Prelude.{◌≡◌, ⊤, ℕ, List, [], ◌∷◌, All, map, Option, Some, None, Result, Ok, Err}
use Rattle.journal_lines.specs.declared.line.Journal.{Journal}
use Rattle.causal_order.specs.declared.certificate.Certificate.{Certificate}
use Rattle.causal_order.specs.declared.fault.CertificateFault.{CertificateFault}
use Rattle.certificate.specs.declared.error.CertificateError.{CertificateError}
use Rattle.certificate.specs.declared.error.CertificateError.TheVariants.{Fault, Memory}
use Rattle.certificate.specs.Faults.{certificate_of}
use Rattle.attribution.specs.declared.verdict.Verdict.TheVariants.{Certificate as FaultOf}
use Rattle.pair_judgement.specs.declared.judging.Judgement.{Judgement}
use Rattle.pair_judgement.specs.declared.judging.Judgement.TheVariants.{Verdict}
use Rattle.attribution_desk.specs.Judgements.{IsJudgementOfJournals}
use Rattle.attribution_desk.specs.declared.certificates.CertificateText.{CertificateText}

abbrev pub texts_of : List CertificateText → List (List ℕ)
texts_of claims = map (λ c. c.text.now) claims

-- what a text was read to, where memory was at hand
abbrev pub IsReadTo : List ℕ → Option (Result Certificate CertificateError) → Type 0
IsReadTo text None = ⊥
IsReadTo text (Some (Ok certificate)) = certificate_of text ≡ Ok certificate
IsReadTo text (Some (Err (Fault fault))) = certificate_of text ≡ Err fault
IsReadTo text (Some (Err Memory)) = ⊤

abbrev pub AreRead : List CertificateText → Type 0
AreRead claims = All (λ c. IsReadTo c.text.now c.parsed) claims

-- each text is a certificate, the next of these, or has this fault
abbrev pub AreGathered : List (List ℕ) → List (Option CertificateFault) → List Certificate → Type 0
AreGathered [] [] [] = ⊤
AreGathered (text ∷ texts) (None ∷ faults) (c ∷ cs) = (certificate_of text ≡ Ok c) × AreGathered texts faults cs
AreGathered (text ∷ texts) (Some fault ∷ faults) cs = (certificate_of text ≡ Err fault) × AreGathered texts faults cs
AreGathered _ _ _ = ⊥

-- on each certificate its ruling, in order
abbrev pub AreRuledOn : Journal → Journal → (skew transit : ℕ) → List Certificate → List Judgement → Type 0
AreRuledOn a b skew transit [] [] = ⊤
AreRuledOn a b skew transit (c ∷ cs) (r ∷ rs) =
    IsJudgementOfJournals a b skew transit c r × AreRuledOn a b skew transit cs rs
AreRuledOn a b skew transit [] (r ∷ rs) = ⊥
AreRuledOn a b skew transit (c ∷ cs) [] = ⊥

-- the ruling on each text: its fault, or else the next of these
abbrev pub woven : List (Option CertificateFault) → List Judgement → List Judgement
woven [] rs = []
woven (Some fault ∷ faults) rs = Verdict (FaultOf fault) ∷ woven faults rs
woven (None ∷ faults) (r ∷ rs) = r ∷ woven faults rs
woven (None ∷ faults) [] = []
