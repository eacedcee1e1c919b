-- Conditions, asked from the front.
use Rattle.std.specs.Prelude.{ℕ, ◌+◌, ◌<◌, ◌≤◌, List, length, drop}
use Rattle.std.proofs.Common.{get_or, add-one, inl, inr, refl, drop-cons}
use Rattle.std.proofs.lemmas.List.{drop_all}
use Rattle.causal_order.specs.Journals.{Journals}
use Rattle.causal_order.specs.declared.certificate.Certificate.{Certificate}
use Rattle.attribution.specs.declared.condition.Condition.{Condition}
use Rattle.attribution.specs.declared.verdict.Verdict.{Verdict}
use Rattle.attribution.specs.declared.verdict.Verdict.TheVariants.{Accepted}
use Rattle.attribution.specs.FirstRefusal.{IsMet, Refuses, IsVerdictBy}

-- the conditions before the i-th are met: the verdict of the others is the verdict of all
pub record AreAsked (js : Journals) (skew transit : ℕ) (c : Certificate) (ks : List Condition) (i : ℕ) : Type 0 where
  pub rest : (v : Verdict) → IsVerdictBy js skew transit c (drop i ks) v → IsVerdictBy js skew transit c ks v

module _ (js : Journals) (skew transit : ℕ) (c : Certificate) (ks : List Condition) where
  pub none_asked : AreAsked js skew transit c ks 0
  none_asked = record { rest = λ v h. h }

  pub one_asked : (i : ℕ) (k : Condition) → i < length ks → IsMet js skew transit c (get_or ks i k)
      → AreAsked js skew transit c ks i → AreAsked js skew transit c ks (i + 1)
  one_asked i k lt met a = record { rest = λ v h. a.rest v (rw (drop-cons ks i k) (inr (met, rw add-one at h))) }

  pub refused_at : (i : ℕ) (k : Condition) (v : Verdict) → i < length ks → Refuses js skew transit c (get_or ks i k) v
      → AreAsked js skew transit c ks i → IsVerdictBy js skew transit c ks v
  refused_at i k v lt refuses a = a.rest v (rw (drop-cons ks i k) (inl refuses))

  pub all_asked : (i : ℕ) → length ks ≤ i → AreAsked js skew transit c ks i → IsVerdictBy js skew transit c ks Accepted
  all_asked i le a = a.rest Accepted (rw (drop_all i ks le) refl)
