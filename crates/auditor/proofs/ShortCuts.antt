-- Releases that cut a piece short.
use Rattle.std.specs.Prelude.{◌≡◌, ℕ, ◌+◌, ◌↔◌, IsTrue, Bool, false, List, [], Option, Some, None, MatchOption}
use Rattle.std.specs.Prelude.{slice_get, Contains as Has}
use Rattle.std.proofs.Common.{sym, ◌∙◌, ap, subst, inl, inr, refl}
use Rattle.std.proofs.lemmas.Bool.{cases_Bool}
use Rattle.std.proofs.lemmas.Option.{same_Some}
use Rattle.journal_lines.specs.declared.event.Lease.{Lease}
use Rattle.causal_order.specs.declared.reference.Ref.{Ref}
use Rattle.causal_order.specs.Journals.{Journals}
use Rattle.causal_order.specs.declared.certificate.Certificate.{Certificate}
use Rattle.causal_order.specs.declared.certificate.Piece.{Piece}
use Rattle.attribution.specs.declared.delegation.Delegation.{Delegation}
use Rattle.attribution.specs.Delegation.{of_lease}
use Rattle.causal_order.specs.Naming.{NamesAt}
use Rattle.causal_order.specs.declared.certificate.Clear.{Clear}
use Rattle.attribution.specs.Acceptance.{GivesBack, IsCleared, Discharges, IsDischarged}
use Rattle.causal_order.specs.LineOrder.{IsLeast}
use Rattle.attribution.specs.FirstRefusal.{CutsShort}
use Rattle.attribution.specs.Tests.{lease_of, discharges}
use Rattle.attribution.proofs.Deciding.{lease_grants, decides_discharges}
use Rattle.auditor.specs.Refusals.{CutsLeaseShort, ClearsAt, OneClears, IsCutShortAt}
use Rattle.auditor.specs.Walks.{AreReleases}
use Rattle.auditor.proofs.Given.{Contains-get, get-Contains}
use Rattle.auditor.proofs.Least.{IsWalked, is_found}
use Rattle.auditor.proofs.Leases.{one_granted, none_granted}
use Rattle.auditor.proofs.Tiling.{HaveHeld}

-- ---- clear entries that name a release

module _ (js : Journals) (skew : ℕ) (p : Piece) (r : Ref) where
  pub discharged_by_naming : (indexes : List ℕ) (b : Bool)
      → ((k : ℕ) → Has indexes k ↔ NamesAt (λ k. k.release) p.clear r k)
      → IsTrue b ↔ OneClears js skew p r indexes → IsTrue b ↔ Discharges js skew p r
  discharged_by_naming indexes b naming one = (
    λ t.
        let o = one.0 t in
        let n = (naming o.0).0 o.1 in
        let same : n.0 ≡ o.2.0 = same_Some n.0 o.2.0 (sym n.1 ∙ o.2.1) in
        (o.2.0, Contains-get p.clear o.0 o.2.0 o.2.1, (ap (λ (k : Clear). k.release) (sym same) ∙ n.2), o.2.2),
    λ d.
        let at = get-Contains p.clear d.0 d.1 in
        one.1 (at.0, (naming at.0).1 (d.0, at.2, d.2), (d.0, at.2, d.3)),
  )

  pub cleared_at : (i : ℕ) (k : Clear) (b : Bool) → slice_get p.clear i ≡ Some k → IsTrue b
      ↔ IsCleared js skew r p.grant p.to k.why → IsTrue b ↔ ClearsAt js skew p r i
  cleared_at i k b at d = (
    λ t. (k, at, d.0 t),
    λ h. d.1 (subst (λ (x : Clear). IsCleared js skew r p.grant p.to x.why) (same_Some h.0 k (sym h.1 ∙ at)) h.2),
  )

  pub no_entry : (i : ℕ) → slice_get p.clear i ≡ None → IsTrue false ↔ ClearsAt js skew p r i
  no_entry i none = (λ t. absurd (cc), λ h. absurd (let x : None ≡ Some h.0 = sym none ∙ h.1 in cc))

-- ---- the least line that gives a lease back

module _ (js : Journals) (skew : ℕ) (p : Piece) (d : Delegation) (given : List Ref)
    (releases : AreReleases js d given) where
  pub cutting_found : (left : List Ref) → left ≡ [] → (o : Option Ref)
      → IsWalked (CutsLeaseShort js skew p d) given left o
      → MatchOption o ((r : Ref) → CutsLeaseShort js skew p d r → ⊥) (IsLeast (CutsLeaseShort js skew p d))
  cutting_found left none o w = is_found (CutsLeaseShort js skew p d) given (λ r u. releases.all r u.0) left none o w

-- ---- one piece

module _ (js : Journals) (skew : ℕ) (p : Piece) where
  pub discharged_of_none : None ≡ lease_of js p.grant → IsDischarged js skew p
  discharged_of_none e r g grants back = absurd (none_granted js p.grant g e grants)

  discharged_by_lease : (g : Lease) → Some g ≡ lease_of js p.grant
      → ((r : Ref) → CutsLeaseShort js skew p (of_lease g) r → ⊥) → IsDischarged js skew p
  discharged_by_lease g e none r h grants back = elim (cases_Bool (discharges js skew p r)) [
    | inl t ↦ (decides_discharges js skew p r).0 t
    | inr f ↦ absurd (none r (
      subst (λ (x : Lease). GivesBack js r (of_lease x))
          (one_granted js p.grant g h e grants) back,
      λ d. let t = (decides_discharges js skew p r).1 d in absurd (cc),
    ))
  ]

  cuts_of : (g : Lease) (r : Ref) → Some g ≡ lease_of js p.grant → CutsLeaseShort js skew p (of_lease g) r
      → CutsShort js skew p r
  cuts_of g r e c = (g, lease_grants js p.grant g (sym e), c.0, c.1)

  lease_cuts : (g : Lease) (r : Ref) → Some g ≡ lease_of js p.grant → CutsShort js skew p r
      → CutsLeaseShort js skew p (of_lease g) r
  lease_cuts g r e c = (
    subst (λ (x : Lease). GivesBack js r (of_lease x)) (one_granted js p.grant g c.0 e c.1) c.2,
    c.3,
  )

  cut_by_lease : (g : Lease) (r : Ref) → Some g ≡ lease_of js p.grant
      → IsLeast (CutsLeaseShort js skew p (of_lease g)) r → IsLeast (CutsShort js skew p) r
  cut_by_lease g r e l = (cuts_of g r e l.0, λ s before c. l.1 s before (lease_cuts g s e c))

  -- what a search for the least such release says of the piece
  pub cut_by_search : (g : Lease) (o : Option Ref) → Some g ≡ lease_of js p.grant
      → MatchOption o ((r : Ref) → CutsLeaseShort js skew p (of_lease g) r
      → ⊥) (IsLeast (CutsLeaseShort js skew p (of_lease g)))
      → MatchOption o (IsDischarged js skew p) (IsLeast (CutsShort js skew p))
  cut_by_search g None e h = discharged_by_lease g e h
  cut_by_search g (Some r) e h = cut_by_lease g r e h

  pub cut_at : (c : Certificate) (r : Ref) (k : ℕ) → slice_get c.pieces k ≡ Some p → IsLeast (CutsShort js skew p) r
      → HaveHeld (IsDischarged js skew) c.pieces k → IsCutShortAt js skew c (k + 1, r)
  cut_at c r k at l h = (k, p, refl, at, h.each, l)
