-- What is judged by the lease that a line grants.
use Rattle.std.specs.Prelude.{◌≡◌, ℕ, ◌↔◌, IsTrue, Bool, false, Some, None}
use Rattle.std.proofs.Common.{sym, ◌∙◌, subst}
use Rattle.prefix_range.specs.Prefix.{Contains}
use Rattle.journal_lines.specs.declared.event.Lease.{Lease}
use Rattle.causal_order.specs.declared.reference.Ref.{Ref}
use Rattle.causal_order.specs.Journals.{Journals}
use Rattle.causal_order.specs.declared.certificate.Certificate.{Certificate}
use Rattle.causal_order.specs.declared.certificate.Piece.{Piece}
use Rattle.causal_order.specs.declared.certificate.Foreign.{Foreign}
use Rattle.attribution.specs.declared.delegation.Delegation.{Delegation}
use Rattle.attribution.specs.Acceptance.{Grants, Tells, IsOutside, IsGranted, ReasonHolds}
use Rattle.attribution.specs.Tests.{lease_of, delegation_of}
use Rattle.attribution.proofs.Deciding.{lease_grants, grants_lease, told_tells, tells_told}
use Rattle.auditor.specs.Bounds.{IsHolders, IsValidThroughout}

-- A line that grants no lease, and one that grants this one.
pub none_granted : (js : Journals) (r : Ref) (g : Lease) → None ≡ lease_of js r → Grants js r g → ⊥
none_granted js r g e h = let x : None ≡ Some g = e ∙ grants_lease js r g h in cc

pub one_granted : (js : Journals) (r : Ref) (g h : Lease) → Some g ≡ lease_of js r → Grants js r h → h ≡ g
one_granted js r g h e grants = let x : Some g ≡ Some h = e ∙ grants_lease js r h grants in cc

-- A line that tells of no delegation, and one that tells of this one.
pub none_told : (js : Journals) (r : Ref) (d : Delegation) → None ≡ delegation_of js r → Tells js r d → ⊥
none_told js r d e h = let x : None ≡ Some d = e ∙ tells_told js r d h in cc

pub one_told : (js : Journals) (r : Ref) (d f : Delegation) → Some d ≡ delegation_of js r → Tells js r f → f ≡ d
one_told js r d f e h = let x : Some d ≡ Some f = e ∙ tells_told js r f h in cc

pub holders_by : (g : Lease) (c : Certificate) (b : Bool) → g.client ≡ c.holder → IsTrue b ↔ Contains g.prefix c.prefix
    → IsTrue b ↔ IsHolders g c
holders_by g c b e d = (λ t. (e, d.0 t), λ h. d.1 h.1)

module _ (js : Journals) (skew transit : ℕ) (c : Certificate) where
  by_parts : (p : Piece) (g : Lease) → Grants js p.grant g → IsHolders g c → IsValidThroughout js p g skew transit
      → IsGranted js skew transit c p
  by_parts p g grants h v = record {
    lease = g;
    grants = grants;
    holder = h.0;
    round = h.1;
    latest = v.0.0;
    written_by = v.0.1;
    begun = v.0.2;
    earliest = v.1.0;
    written_from = v.1.1;
    lasts = v.1.2;
  }

  parts_of : (p : Piece) (g : Lease) → Some g ≡ lease_of js p.grant → IsGranted js skew transit c p
      → IsHolders g c × IsValidThroughout js p g skew transit
  parts_of p g e h =
      subst (λ (x : Lease). IsHolders x c × IsValidThroughout js p x skew transit)
      (one_granted js p.grant g h.lease e h.grants)
      ((h.holder, h.round), ((h.latest, h.written_by, h.begun), (h.earliest, h.written_from, h.lasts)))

  pub granted_by_lease : (p : Piece) (g : Lease) (b : Bool) → Some g ≡ lease_of js p.grant → IsHolders g c → IsTrue b
      ↔ IsValidThroughout js p g skew transit → IsTrue b ↔ IsGranted js skew transit c p
  granted_by_lease p g b e a d = (
    λ t. by_parts p g (lease_grants js p.grant g (sym e)) a (d.0 t),
    λ h. d.1 (parts_of p g e h).1,
  )

  pub not_holders : (p : Piece) (g : Lease) → Some g ≡ lease_of js p.grant → (IsHolders g c → ⊥) → IsTrue false
      ↔ IsGranted js skew transit c p
  not_holders p g e n = (λ t. absurd (cc), λ h. absurd (n (parts_of p g e h).0))

  pub no_granted_lease : (p : Piece) → None ≡ lease_of js p.grant → IsTrue false ↔ IsGranted js skew transit c p
  no_granted_lease p e = (λ t. absurd (cc), λ h. absurd (none_granted js p.grant h.lease e h.grants))

  pub reason_by_delegation : (f : Foreign) (d : Delegation) (b : Bool) → Some d ≡ delegation_of js f.grant → IsTrue b
      ↔ IsOutside js skew transit f.grant d c.from c.to f.reason → IsTrue b ↔ ReasonHolds js skew transit c f
  reason_by_delegation f d b e i = (
    λ t. (d, told_tells js f.grant d (sym e), i.0 t),
    λ h. i.1 (subst (λ (x : Delegation). IsOutside js skew transit f.grant x c.from c.to f.reason)
        (one_told js f.grant d h.0 e h.1) h.2),
  )

  pub no_reason : (f : Foreign) → None ≡ delegation_of js f.grant → IsTrue false ↔ ReasonHolds js skew transit c f
  no_reason f e = (λ t. absurd (cc), λ h. absurd (none_told js f.grant h.0 e h.1))
