-- What a verdict refuses, and the failure that is found for it.
use Rattle.std.specs.Prelude.{◌≡◌, ℕ, ◌+◌, ◌⊎◌, List, [], ◌∷◌, Option, Some, None, MatchOption, slice_get, All}
use Rattle.std.proofs.Common.{sym, ◌∙◌, ap, subst, refl, arith, inl, inr}
use Rattle.std.proofs.lemmas.Bool.{cases_lt}
use Rattle.binding_rules.specs.declared.role.Role.{Role}
use Rattle.causal_order.specs.declared.reference.Ref.{Ref}
use Rattle.causal_order.specs.declared.certificate.Certificate.{Certificate}
use Rattle.causal_order.specs.declared.certificate.Piece.{Piece}
use Rattle.causal_order.specs.declared.certificate.Foreign.{Foreign}
use Rattle.causal_order.specs.Journals.{Journals}
use Rattle.attribution.specs.declared.condition.TheConstants.{CONDITIONS}
use Rattle.attribution.specs.declared.condition.Condition.{Condition}
use Rattle.attribution.specs.declared.condition.Condition.TheVariants.{Moment, Shown, Tiled, Granted, Opened}
use Rattle.attribution.specs.declared.condition.Condition.TheVariants.{Discharged, Covered, Reasoned}
use Rattle.attribution.specs.declared.verdict.Verdict.{Verdict}
use Rattle.attribution.specs.declared.verdict.Verdict.TheVariants.{Accepted, PastEnd}
use Rattle.attribution.specs.declared.verdict.Verdict.TheVariants.{PieceGrant, PieceRelease, Uncovered}
use Rattle.attribution.specs.declared.verdict.Verdict.TheVariants.{Reason}
use Rattle.attribution.specs.declared.delegation.Delegation.{Delegation}
use Rattle.attribution.specs.Acceptance.{Tells, IsGranted, IsForeign, IsNamed, ReasonHolds}
use Rattle.attribution.specs.FirstRefusal.{IsFirstNot, CutsShort, IsUncovered, Refuses, IsVerdictBy, IsVerdict}
use Rattle.attribution.proofs.Refusals.{at_index}
use Rattle.evidence_report.specs.declared.report.Report.{Report}
use Rattle.evidence_report.specs.declared.faults.Failure.{Failure}
use Rattle.evidence_report.specs.declared.faults.Failure.TheVariants.{PastEnd as EndsPast, PieceRelease as CutShort}
use Rattle.evidence_report.specs.declared.faults.Failure.TheVariants.{Uncovered as Unnamed}
use Rattle.evidence_report.specs.Reports.{IsReport}
use Rattle.evidence_report.specs.Failures.{condition_of, IsFailure, IsFailureOf, IsUncarried, IsUnreasoned, side_in}
use Rattle.evidence_report.proofs.Granting.{one_told}
use Rattle.evidence_report.proofs.Refusing.{side_shown}

module _ (js : Journals) (skew transit : ℕ) (c : Certificate) where
  refuses_by : (k : Condition) (v : Verdict) → Refuses js skew transit c k v → condition_of v ≡ Some k
  refuses_by Moment v f = ap condition_of f.0
  refuses_by (Shown side) v f = ap condition_of f.0
  refuses_by Tiled v f = ap condition_of f.1
  refuses_by Granted v f = ap condition_of f.1
  refuses_by Opened v f = ap condition_of f.0
  refuses_by Discharged v f = ap condition_of f.2
  refuses_by Covered v f = ap condition_of f.1
  refuses_by Reasoned v f = ap condition_of f.1

  refused_in : (ks : List Condition) (v : Verdict) → IsVerdictBy js skew transit c ks v
      → (v ≡ Accepted) ⊎ ((k : Condition) × Refuses js skew transit c k v)
  refused_in [] v h = inl h
  refused_in (k ∷ ks) v (inl f) = inr (k, f)
  refused_in (k ∷ ks) v (inr h) = refused_in ks v h.1

  -- a verdict of a condition is a refusal by it
  pub refused : (v : Verdict) (k : Condition) → IsVerdict js skew transit c v → condition_of v ≡ Some k
      → Refuses js skew transit c k v
  refused v k h e = elim (refused_in CONDITIONS v h) [
    | inl accepted ↦ absurd (let x : None ≡ Some k = sym (ap condition_of accepted) ∙ e in cc)
    | inr f ↦ (let x : Some f.0 ≡ Some k = sym (refuses_by f.0 v f.1) ∙ e in let is : f.0 ≡ k = cc in
        subst (λ (y : Condition). Refuses js skew transit c y v) is f.1)
  ]

  -- ---- C5

  pub past_end_fails : (shown : Report) (side : Role) → IsReport js skew transit c shown
      → IsVerdict js skew transit c (PastEnd side)
      → IsFailure js skew transit c (PastEnd side)
      (EndsPast side (shown.certificate.now.to + shown.skew) (side_in shown side).closed)
  past_end_fails shown side h v =
      let f = refused (PastEnd side) (Shown side) v refl in
      let closes = (side_shown js skew transit c shown side h).closed in
      let to : shown.certificate.now.to ≡ c.to = ap (λ (d : Certificate). d.to) h.certificate in
      let within = h.within in
      let last = closes.some in
      let read = closes.each last.0 last.1 last.2 in
      let needed : shown.certificate.now.to + shown.skew ≡ c.to + skew = omega arith in (
        refl,
        needed,
        closes,
        elim (cases_lt (side_in shown side).closed (shown.certificate.now.to + shown.skew)) [
          | inl lt ↦ lt
          | inr le ↦ absurd (f.1 (last.0, last.1, last.2, omega arith))
        ],
      )

  -- ---- C7

  uncarried_by : (n k : ℕ) (p : Piece) (o : Option Failure) → n ≡ k + 1 → slice_get c.pieces k ≡ Some p
      → (IsGranted js skew transit c p → ⊥)
      → MatchOption o (IsGranted js skew transit c p) (IsUncarried js skew transit c p n)
      → IsFailureOf js skew transit c (PieceGrant n) o
  uncarried_by n k p None e at not h = absurd (not h)
  uncarried_by n k p (Some failure) e at not h =
      subst (IsFailure js skew transit c (PieceGrant n)) (sym h.1) (refl, (k, p, e, at, h.2))

  pub uncarried_fails : (n : ℕ) (o : Option Failure) → IsVerdict js skew transit c (PieceGrant n)
      → ((k : ℕ) (p : Piece) → n ≡ k + 1 → slice_get c.pieces k ≡ Some p
      → MatchOption o (IsGranted js skew transit c p) (IsUncarried js skew transit c p n))
      → IsFailureOf js skew transit c (PieceGrant n) o
  uncarried_fails n o v h =
      let f = refused (PieceGrant n) Granted v refl in
      let e = f.1 in
      let same : f.0 ≡ n = cc in
      let place : n ≡ f.2.0 + 1 = sym same ∙ f.2.2 in
      uncarried_by n f.2.0 f.2.1 o place f.2.3.0 f.2.3.1 (h f.2.0 f.2.1 place f.2.3.0)

  -- ---- C8

  pub cut_short_fails : (n : ℕ) (r : Ref) → IsVerdict js skew transit c (PieceRelease n r)
      → IsFailure js skew transit c (PieceRelease n r) (CutShort n r)
  cut_short_fails n r v =
      let f = refused (PieceRelease n r) Discharged v refl in
      let e = f.2 in
      let number : f.0 ≡ n = cc in
      let line : f.1 ≡ r = cc in (
        refl,
        refl,
        (
          f.3.0,
          f.3.1,
          sym number ∙ f.3.2,
          f.3.3,
          subst (λ (s : Ref). CutsShort js skew f.3.1 s) line f.3.5.0,
        ),
      )

  -- ---- C9

  unnamed_by : (r : Ref) (d : Delegation) (o : Option Failure) → IsForeign js c r d → (IsNamed c r → ⊥)
      → MatchOption o ((d : Delegation) → Tells js r d → ⊥)
      (λ f. (d : Delegation) × (f ≡ Unnamed r d) × Tells js r d)
      → IsFailureOf js skew transit c (Uncovered r) o
  unnamed_by r d None foreign unnamed n = absurd (n d foreign.0)
  unnamed_by r d (Some failure) foreign unnamed h =
      let same = one_told js r h.0 d h.2 foreign.0 in
      subst (IsFailure js skew transit c (Uncovered r)) (sym h.1)
      (refl, subst (IsForeign js c r) same foreign, unnamed)

  pub uncovered_fails : (r : Ref) (o : Option Failure) → IsVerdict js skew transit c (Uncovered r)
      → MatchOption o ((d : Delegation) → Tells js r d → ⊥)
      (λ f. (d : Delegation) × (f ≡ Unnamed r d) × Tells js r d)
      → IsFailureOf js skew transit c (Uncovered r) o
  uncovered_fails r o v h =
      let f = refused (Uncovered r) Covered v refl in
      let e = f.1 in
      let line : f.0 ≡ r = cc in
      let least = subst (IsUncovered js c) line f.2.0 in
      unnamed_by r least.0 o least.1 least.2 h

  -- ---- C10

  one_first : (P : Foreign → Type 0) (xs : List Foreign) (j k : ℕ) (x y : Foreign) → IsFirstNot P xs j x
      → IsFirstNot P xs k y → x ≡ y
  one_first P xs j k x y a b = elim (cases_lt j k) [
    | inl less ↦ absurd (a.1 (b.2 j x less a.0))
    | inr le ↦ elim (cases_lt k j) [
      | inl less ↦ absurd (b.1 (a.2 k y less b.0))
      | inr ge ↦ (let at : j ≡ k = omega arith in
          let e : Some x ≡ Some y = sym a.0 ∙ (ap (slice_get xs) at ∙ b.0) in cc)
    ]
  ]

  unreasoned_by : (r : Ref) (k : ℕ) (f : Foreign) (o : Option Failure) → f.grant ≡ r
      → IsFirstNot (ReasonHolds js skew transit c) c.foreign k f
      → MatchOption o (All (ReasonHolds js skew transit c) c.foreign) (IsUnreasoned js skew transit c)
      → IsFailureOf js skew transit c (Reason r) o
  unreasoned_by r k f None at first all =
      absurd (first.1 (at_index (ReasonHolds js skew transit c) c.foreign k f first.0 all))
  unreasoned_by r k f (Some failure) at first h =
      let same = one_first (ReasonHolds js skew transit c) c.foreign h.0 k h.1 f h.4 first in
      let line : h.1.grant ≡ r = ap (λ (x : Foreign). x.grant) same ∙ at in
      subst (IsFailure js skew transit c (Reason r)) (sym h.3) (line, (h.0, h.1, h.4.0, line, h.5))

  pub unreasoned_fails : (r : Ref) (o : Option Failure) → IsVerdict js skew transit c (Reason r)
      → MatchOption o (All (ReasonHolds js skew transit c) c.foreign) (IsUnreasoned js skew transit c)
      → IsFailureOf js skew transit c (Reason r) o
  unreasoned_fails r o v h =
      let f = refused (Reason r) Reasoned v refl in
      let e = f.1 in
      let line : f.0 ≡ r = cc in
      unreasoned_by r f.2.0 f.2.1 o (f.2.2 ∙ line) f.2.3 h
