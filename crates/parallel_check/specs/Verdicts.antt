-- The verdicts on a list of certificates: on each, in order, the verdict of its audit.
use Rattle.std.specs.Prelude.{◌≡◌, ℕ, List, length, slice_get, Some}
use Rattle.causal_order.specs.Journals.{Journals}
use Rattle.causal_order.specs.declared.certificate.Certificate.{Certificate}
use Rattle.attribution.specs.declared.verdict.Verdict.{Verdict}
use Rattle.attribution.specs.FirstRefusal.{IsVerdict}

-- the verdict on the certificate at this index
pub record IsVerdictAt (js : Journals) (skew transit : ℕ) (certificates : List Certificate) (n : ℕ) (v : Verdict) :
    Type 0 where
  pub certificate : Certificate
  pub here : slice_get certificates n ≡ Some certificate
  pub verdict : IsVerdict js skew transit certificate v

-- the n-th is the verdict on the n-th certificate
pub record AreVerdicts (js : Journals) (skew transit : ℕ) (certificates : List Certificate) (verdicts : List Verdict) :
    Type 0 where
  pub count : length verdicts ≡ length certificates
  pub each : (n : ℕ) (v : Verdict) → slice_get verdicts n ≡ Some v → IsVerdictAt js skew transit certificates n v
