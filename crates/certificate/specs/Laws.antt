-- What holds of all texts and certificates.
use Rattle.std.specs.Prelude.{◌≡◌, ◌↔◌, ℕ, List, Ok}
use Rattle.causal_order.specs.declared.certificate.Certificate.{Certificate}
use Rattle.certificate.specs.Spelling.{certificate_text, IsWritten}
use Rattle.certificate.specs.Faults.{certificate_of}

-- a text is a certificate exactly where it is the certificate's one text
abbrev pub CertificatesAreSpelled : Type 0
CertificatesAreSpelled = (text : List ℕ) (c : Certificate)
    → (certificate_of text ≡ Ok c) ↔ (IsWritten c × (text ≡ certificate_text c))
