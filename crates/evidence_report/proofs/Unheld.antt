-- What is shown decides whether a foreign entry's reason holds.
use Rattle.std.specs.Prelude.{◌≡◌, ℕ, ◌<◌, ◌↔◌, IsTrue, Bool, List, Option, Some, None, MatchOption}
use Rattle.std.specs.Borrow.{Bor}
use Rattle.std.proofs.Common.{sym, ap, subst, arith, refl}
use Rattle.causal_order.specs.declared.reference.Ref.{Ref}
use Rattle.causal_order.specs.declared.order.Precedes.{Precedes}
use Rattle.causal_order.specs.declared.order.Precedes.TheVariants.{Chain as ChainOrder, Clock as ClockOrder}
use Rattle.causal_order.specs.declared.certificate.Certificate.{Certificate}
use Rattle.causal_order.specs.declared.certificate.Foreign.{Foreign}
use Rattle.causal_order.specs.declared.certificate.Reason.{Reason}
use Rattle.causal_order.specs.declared.certificate.Reason.TheVariants.{Early as EndedBefore, Late as BegunAfter}
use Rattle.causal_order.specs.declared.certificate.Reason.TheVariants.{Released as GivenBack}
use Rattle.causal_order.specs.Journals.{Journals}
use Rattle.causal_order.specs.Order.{IsSurelyBefore, WrittenFrom}
use Rattle.causal_order.proofs.Walking.{one_latest, one_earliest}
use Rattle.attribution.specs.declared.delegation.Delegation.{Delegation}
use Rattle.attribution.specs.declared.delegation.Lasting.{Lasting}
use Rattle.attribution.specs.declared.delegation.Lasting.TheVariants.{For, Until}
use Rattle.attribution.specs.Run.{infinity}
use Rattle.attribution.specs.Acceptance.{Tells, GivesBack, EndsBy, IsOutside, ReasonHolds}
use Rattle.evidence_report.specs.declared.mark.LineReading.{LineReading}
use Rattle.evidence_report.specs.declared.mark.OrderReport.{OrderReport}
use Rattle.evidence_report.specs.declared.mark.OrderReport.TheVariants.{Chain, Clock}
use Rattle.evidence_report.specs.declared.foreign_report.ReportedDelegation.{ReportedDelegation}
use Rattle.evidence_report.specs.declared.foreign_report.ForeignEvidence.TheVariants.{Early, Late, Released}
use Rattle.evidence_report.specs.declared.foreign_report.ForeignReport.{ForeignReport}
use Rattle.evidence_report.specs.declared.faults.ForeignFault.{ForeignFault}
use Rattle.evidence_report.specs.declared.faults.ForeignFault.TheVariants.{NoDelegation, NoChain, Endless, EndsLate}
use Rattle.evidence_report.specs.declared.faults.ForeignFault.TheVariants.{Carried, BeginsEarly, NotGivenBack, NotBehind}
use Rattle.evidence_report.specs.declared.faults.ForeignFault.TheVariants.{GivenBackLate}
use Rattle.evidence_report.specs.Marks.{IsLatestMark, IsEarliestMark, IsToldAt, IsOrderReport}
use Rattle.evidence_report.specs.Others.{EndsTold, IsOutsideReport, IsForeignReport}
use Rattle.evidence_report.specs.Faults.{IsEndOf, IsReasonFault, FailsForeign, IsEndless, EarlyHolds}
use Rattle.evidence_report.specs.Faults.{IsEarlyFault, LateHolds, IsLateFault, IsOrdered, ReleasedHolds, IsReleasedFault}
use Rattle.evidence_report.proofs.Granting.{one_told}

-- ---- how long it lasts

endless_is : (l : Lasting) → IsEndless l → l ≡ For infinity
endless_is (For seconds) e = ap (λ (n : ℕ). For n) e
endless_is (Until end) e = absurd e

never_ends : (skew transit x from : ℕ) (l : Lasting) → IsEndless l → EndsBy skew transit x from l → ⊥
never_ends skew transit x from (For seconds) e h = h.0 e
never_ends skew transit x from (Until end) e h = absurd e

ends_late : (skew transit x y from begun ends : ℕ) (l : Lasting) → IsEndOf skew transit x l ends → x ≡ y → begun ≡ from
    → begun < ends → EndsBy skew transit y from l → ⊥
ends_late skew transit x y from begun ends (For seconds) e is at lt h =
    let sum = e.1 in let le = h.1 in absurd (omega arith)
ends_late skew transit x y from begun ends (Until end) e is at lt h = absurd (omega arith)

-- ---- orders

order_holds : (js : Journals) (skew : ℕ) (order : Precedes) (r s : Ref) (shown : OrderReport)
    → IsOrderReport js order r s shown → IsOrdered skew shown → IsSurelyBefore js skew order r s
order_holds js skew (ChainOrder chain) r s (Chain shown leads) h o = h.1.0 o
order_holds js skew (ClockOrder first second) r s (Clock before (Some latest) after (Some earliest)) h o =
    (latest.reading, earliest.reading, h.1.0, h.3.0, o)
order_holds js skew (ClockOrder first second) r s (Clock before None after earliest) h o = absurd o
order_holds js skew (ClockOrder first second) r s (Clock before (Some latest) after None) h o = absurd o
order_holds js skew (ChainOrder chain) r s (Clock before latest after earliest) h o = absurd h
order_holds js skew (ClockOrder first second) r s (Chain shown leads) h o = absurd h

order_shown : (js : Journals) (skew : ℕ) (order : Precedes) (r s : Ref) (shown : OrderReport)
    → IsOrderReport js order r s shown → IsSurelyBefore js skew order r s → IsOrdered skew shown
order_shown js skew (ChainOrder chain) r s (Chain shown leads) h o = h.1.1 o
order_shown js skew (ClockOrder first second) r s (Clock before (Some latest) after (Some earliest)) h o =
    let a = one_latest js first r r latest.reading o.0 h.1.0 o.2 in
    let b = one_earliest js second s s earliest.reading o.1 h.3.0 o.3 in
    let lt = o.4 in omega arith
order_shown js skew (ClockOrder first second) r s (Clock before None after earliest) h o = absurd (h.1 o.0 o.2)
order_shown js skew (ClockOrder first second) r s (Clock before (Some latest) after None) h o = absurd (h.3 o.1 o.3)
order_shown js skew (ChainOrder chain) r s (Clock before latest after earliest) h o = absurd h
order_shown js skew (ClockOrder first second) r s (Chain shown leads) h o = absurd h

-- ---- reasons

module _ (js : Journals) (skew transit : ℕ) (r : Ref) (d : Delegation) (from to : ℕ) where
  abbrev FailsReason : Reason → ForeignFault → Type 0
  FailsReason reason fault =
      IsReasonFault js skew transit r d from to reason fault × (IsOutside js skew transit r d from to reason → ⊥)

  early_fails : (chain : List Ref) (latest : Option LineReading) (fault : ForeignFault) → IsLatestMark js chain r latest
      → IsEarlyFault latest d.lasting skew transit from fault → FailsReason (EndedBefore chain) fault
  early_fails chain None NoChain n f = (n, λ o. n o.0 o.1)
  early_fails chain (Some m) Endless w f = (
    ((m.reading, w.0), endless_is d.lasting f),
    λ o. never_ends skew transit o.0 from d.lasting f o.2,
  )
  early_fails chain (Some m) (EndsLate ends begun) w f = (
    (m.reading, w.0, f.0, f.1, f.2),
    λ o. ends_late skew transit m.reading o.0 from begun ends d.lasting f.0
        (one_latest js chain r r m.reading o.0 w.0 o.1) f.1 f.2 o.2,
  )
  early_fails chain _ _ w f = absurd f

  by_early : (chain : List Ref) (latest : Option LineReading) (o : Option ForeignFault) → IsLatestMark js chain r latest
      → MatchOption o (EarlyHolds latest d.lasting skew transit from) (IsEarlyFault latest d.lasting skew transit from)
      → MatchOption o (IsOutside js skew transit r d from to (EndedBefore chain)) (FailsReason (EndedBefore chain))
  by_early chain None None n f = absurd f
  by_early chain (Some m) None w f = (m.reading, w.0, f)
  by_early chain latest (Some fault) w f = early_fails chain latest fault w f

  late_fails : (chain : List Ref) (earliest : Option LineReading) (fault : ForeignFault) → IsEarliestMark js chain r earliest
      → IsLateFault earliest d.lasting skew to fault → FailsReason (BegunAfter chain) fault
  late_fails chain None NoChain n f = (n, λ o. n o.1.0 o.1.1)
  late_fails chain (Some m) Carried w f = (((m.reading, w.0), f), λ o. f o.0)
  late_fails chain (Some m) (BeginsEarly needed shown) w f = (
    (f.0, subst (WrittenFrom js chain r) (sym f.2) w.0, f.1, f.3),
    λ o.
        let is = one_earliest js chain r r m.reading o.1.0 w.0 o.1.1 in
        let le = o.1.2 in let a = f.1 in let b = f.2 in let lt = f.3 in absurd (omega arith),
  )
  late_fails chain _ _ w f = absurd f

  by_late : (chain : List Ref) (earliest : Option LineReading) (o : Option ForeignFault) → IsEarliestMark js chain r earliest
      → MatchOption o (LateHolds earliest d.lasting skew to) (IsLateFault earliest d.lasting skew to)
      → MatchOption o (IsOutside js skew transit r d from to (BegunAfter chain)) (FailsReason (BegunAfter chain))
  by_late chain None None n f = absurd f
  by_late chain (Some m) None w f = (f.0, (m.reading, w.0, f.1))
  by_late chain earliest (Some fault) w f = late_fails chain earliest fault w f

  module _ (tells : Tells js r d) (release : Ref) (order : Precedes) (chain : List Ref) (b : Bool) (shown : OrderReport)
      (back : IsTrue b ↔ EndsTold js r release) (ordered : IsOrderReport js order r release shown) where
    gives : IsTrue b → GivesBack js release d
    gives t = let e = back.0 t in subst (λ (x : Delegation). GivesBack js release x) (one_told js r d e.0 tells e.1) e.2

    given : GivesBack js release d → IsTrue b
    given g = back.1 (d, tells, g)

    released_fails : (latest : Option LineReading) (fault : ForeignFault) → IsLatestMark js chain release latest
        → IsReleasedFault latest shown (IsTrue b) skew from fault → FailsReason (GivenBack release order chain) fault
    released_fails None NoChain n f = (n, λ o. n o.2.0 o.2.1)
    released_fails (Some m) NotGivenBack w f = (((m.reading, w.0), λ g. f (given g)), λ o. f (given o.0))
    released_fails (Some m) NotBehind w f = (
      ((m.reading, w.0), gives f.0, λ before. f.1 (order_shown js skew order r release shown ordered before)),
      λ o. f.1 (order_shown js skew order r release shown ordered o.1),
    )
    released_fails (Some m) (GivenBackLate late begun) w f = (
      (
        gives f.0,
        order_holds js skew order r release shown ordered f.1,
        (m.reading, w.0, f.2, f.3, f.4),
      ),
      λ o.
          let is = one_latest js chain release release m.reading o.2.0 w.0 o.2.1 in
          let le = o.2.2 in let a = f.2 in let e = f.3 in let lt = f.4 in absurd (omega arith),
    )
    released_fails _ _ w f = absurd f

    by_released : (latest : Option LineReading) (o : Option ForeignFault) → IsLatestMark js chain release latest
        → MatchOption o (ReleasedHolds latest shown (IsTrue b) skew from)
        (IsReleasedFault latest shown (IsTrue b) skew from)
        → MatchOption o (IsOutside js skew transit r d from to (GivenBack release order chain))
        (FailsReason (GivenBack release order chain))
    by_released None None n f = absurd f
    by_released (Some m) None w f =
        (gives f.0, order_holds js skew order r release shown ordered f.1, (m.reading, w.0, f.2))
    by_released latest (Some fault) w f = released_fails latest fault w f

-- ---- an entry, by its report

untold : (js : Journals) (skew transit : ℕ) (r : Ref) (d : Delegation) (from to : ℕ) (reason : Reason)
    → IsReasonFault js skew transit r d from to reason NoDelegation → ⊥
untold js skew transit r d from to (EndedBefore chain) h = h
untold js skew transit r d from to (BegunAfter chain) h = h
untold js skew transit r d from to (GivenBack release order chain) h = h

module _ (js : Journals) (skew transit : ℕ) (c : Certificate) (f : Foreign) where
  pub no_delegation : IsToldAt js f.grant None → FailsForeign js skew transit c f NoDelegation
  no_delegation n = (n, λ h. n h.0 h.1)

  module _ (d : Delegation) (tells : Tells js f.grant d) where
    not_outside : (IsOutside js skew transit f.grant d c.from c.to f.reason → ⊥) → ReasonHolds js skew transit c f → ⊥
    not_outside n h = n (subst (λ (x : Delegation). IsOutside js skew transit f.grant x c.from c.to f.reason)
        (one_told js f.grant d h.0 tells h.1) h.2)

    fails : (fault : ForeignFault) → FailsReason js skew transit f.grant d c.from c.to f.reason fault
        → FailsForeign js skew transit c f fault
    fails NoDelegation h = absurd (untold js skew transit f.grant d c.from c.to f.reason h.0)
    fails NoChain h = ((d, tells, h.0), not_outside h.1)
    fails Endless h = ((d, tells, h.0), not_outside h.1)
    fails (EndsLate ends from) h = ((d, tells, h.0), not_outside h.1)
    fails Carried h = ((d, tells, h.0), not_outside h.1)
    fails (BeginsEarly needed shown) h = ((d, tells, h.0), not_outside h.1)
    fails NotGivenBack h = ((d, tells, h.0), not_outside h.1)
    fails NotBehind h = ((d, tells, h.0), not_outside h.1)
    fails (GivenBackLate late from) h = ((d, tells, h.0), not_outside h.1)

    by_reason : (reason : Reason) (o : Option ForeignFault) → reason ≡ f.reason
        → MatchOption o (IsOutside js skew transit f.grant d c.from c.to reason)
        (FailsReason js skew transit f.grant d c.from c.to reason)
        → MatchOption o (ReasonHolds js skew transit c f) (FailsForeign js skew transit c f)
    by_reason reason None e h =
        (d, tells, subst (IsOutside js skew transit f.grant d c.from c.to) e h)
    by_reason reason (Some fault) e h = fails fault (subst (λ (x : Reason).
        FailsReason js skew transit f.grant d c.from c.to x fault) e h)

-- what is shown tells which reason is named
as_early : (js : Journals) (r : Ref) (reason : Reason) (field : Bor (List Ref)) (latest : Option LineReading)
    → IsOutsideReport js r reason (Early field latest)
    → (chain : List Ref) × (reason ≡ EndedBefore chain) × IsLatestMark js chain r latest
as_early js r (EndedBefore chain) field latest h = (chain, refl, h.1)
as_early js r (BegunAfter chain) field latest h = absurd h
as_early js r (GivenBack release order chain) field latest h = absurd h

as_late : (js : Journals) (r : Ref) (reason : Reason) (field : Bor (List Ref)) (earliest : Option LineReading)
    → IsOutsideReport js r reason (Late field earliest)
    → (chain : List Ref) × (reason ≡ BegunAfter chain) × IsEarliestMark js chain r earliest
as_late js r (EndedBefore chain) field earliest h = absurd h
as_late js r (BegunAfter chain) field earliest h = (chain, refl, h.1)
as_late js r (GivenBack release order chain) field earliest h = absurd h

record IsGivenBackReport (js : Journals) (r : Ref) (reason : Reason) (b : Bool) (ordered : OrderReport)
    (latest : Option LineReading) : Type 0 where
  release : Ref
  order : Precedes
  chain : List Ref
  named : reason ≡ GivenBack release order chain
  back : IsTrue b ↔ EndsTold js r release
  placed : IsOrderReport js order r release ordered
  ends : IsLatestMark js chain release latest

as_released : (js : Journals) (r : Ref) (reason : Reason) (at : Ref) (b : Bool) (ordered : OrderReport)
    (field : Bor (List Ref)) (latest : Option LineReading) → IsOutsideReport js r reason (Released at b ordered field latest)
    → IsGivenBackReport js r reason b ordered latest
as_released js r (EndedBefore chain) at b ordered field latest h = absurd h
as_released js r (BegunAfter chain) at b ordered field latest h = absurd h
as_released js r (GivenBack release order chain) at b ordered field latest h = record {
  release = release;
  order = order;
  chain = chain;
  named = refl;
  back = h.1;
  placed = h.2;
  ends = h.4;
}

module _ (js : Journals) (skew transit : ℕ) (c : Certificate) (f : Foreign) (shown : ForeignReport)
    (h : IsForeignReport js f shown) (t : ReportedDelegation) (e : shown.told ≡ Some t) where
  tells_it : Tells js f.grant t.delegation
  tells_it = (subst (IsToldAt js f.grant) e h.told).0

  pub at_early : (field : Bor (List Ref)) (latest : Option LineReading) (o : Option ForeignFault)
      → shown.outside ≡ Early field latest
      → MatchOption o (EarlyHolds latest t.delegation.lasting skew transit c.from)
      (IsEarlyFault latest t.delegation.lasting skew transit c.from)
      → MatchOption o (ReasonHolds js skew transit c f) (FailsForeign js skew transit c f)
  at_early field latest o is m =
      let a = as_early js f.grant f.reason field latest (subst (IsOutsideReport js f.grant f.reason) is h.outside) in
      by_reason js skew transit c f t.delegation tells_it (EndedBefore a.0) o (sym a.1)
      (by_early js skew transit f.grant t.delegation c.from c.to a.0 latest o a.2 m)

  pub at_late : (field : Bor (List Ref)) (earliest : Option LineReading) (o : Option ForeignFault)
      → shown.outside ≡ Late field earliest
      → MatchOption o (LateHolds earliest t.delegation.lasting skew c.to)
      (IsLateFault earliest t.delegation.lasting skew c.to)
      → MatchOption o (ReasonHolds js skew transit c f) (FailsForeign js skew transit c f)
  at_late field earliest o is m =
      let a = as_late js f.grant f.reason field earliest (subst (IsOutsideReport js f.grant f.reason) is h.outside) in
      by_reason js skew transit c f t.delegation tells_it (BegunAfter a.0) o (sym a.1)
      (by_late js skew transit f.grant t.delegation c.from c.to a.0 earliest o a.2 m)

  pub at_released : (at : Ref) (b : Bool) (ordered : OrderReport) (field : Bor (List Ref)) (latest : Option LineReading)
      (o : Option ForeignFault) → shown.outside ≡ Released at b ordered field latest
      → MatchOption o (ReleasedHolds latest ordered (IsTrue b) skew c.from)
      (IsReleasedFault latest ordered (IsTrue b) skew c.from)
      → MatchOption o (ReasonHolds js skew transit c f) (FailsForeign js skew transit c f)
  at_released at b ordered field latest o is m =
      let a = as_released js f.grant f.reason at b ordered field latest
      (subst (IsOutsideReport js f.grant f.reason) is h.outside) in
      by_reason js skew transit c f t.delegation tells_it (GivenBack a.release a.order a.chain) o (sym a.named)
      (by_released js skew transit f.grant t.delegation c.from c.to tells_it a.release a.order a.chain b ordered a.back
      a.placed latest o a.ends m)
