-- What refuses a certificate by C8 or C9 is listed.
use Rattle.std.specs.Prelude.{◌≡◌, ℕ, List, Some, Contains as Has}
use Rattle.std.proofs.Common.{sym, subst}
use Rattle.prefix_range.specs.Prefix.{Prefix, HasAddress, Contains, Overlaps}
use Rattle.journal_lines.specs.declared.event.Event.{Event}
use Rattle.journal_lines.specs.declared.event.Event.TheVariants.{Grant, Carry}
use Rattle.journal_lines.specs.declared.event.Lease.{Lease}
use Rattle.causal_order.specs.declared.certificate.Certificate.{Certificate}
use Rattle.causal_order.specs.declared.certificate.Piece.{Piece}
use Rattle.causal_order.specs.declared.reference.Ref.{Ref}
use Rattle.causal_order.specs.Journals.{Journals}
use Rattle.attribution.specs.declared.delegation.Delegation.{Delegation}
use Rattle.attribution.specs.Delegation.{of_lease, of_carried, told_by}
use Rattle.attribution.specs.Acceptance.{IsGranted}
use Rattle.attribution.specs.FirstRefusal.{CutsShort, IsUncovered}
use Rattle.attribution.specs.Listing.{Concerns, IsListing, ListedIsEnough}
use Rattle.attribution.proofs.Refusals.{one_lease}

-- a line that tells of a delegation concerns each prefix that its own overlaps
pub concerned : (p : Prefix) (e : Event) (d : Delegation) → told_by e ≡ Some d → Overlaps d.prefix p → Concerns p e
concerned p (Grant g) d h over = let e : of_lease g ≡ d = cc in
    subst (λ (x : Delegation). Overlaps x.prefix p) (sym e) over
concerned p (Carry c) d h over = let e : of_carried c ≡ d = cc in
    subst (λ (x : Delegation). Overlaps x.prefix p) (sym e) over
concerned p _ d h over = absurd (cc)

pub uncovered_listed : (js : Journals) (c : Certificate) (refs : List Ref) → IsListing js c.prefix refs → (r : Ref)
    → IsUncovered js c r → Has refs r
uncovered_listed js c refs listed r h =
    listed.all r h.1.0.0 h.1.0.1 (concerned c.prefix h.1.0.0.event h.0 h.1.0.2 h.1.2)

pub cut_listed : (js : Journals) (skew transit : ℕ) (c : Certificate) (refs : List Ref) → IsListing js c.prefix refs
    → ((a : ℕ) × HasAddress c.prefix a)
    → (p : Piece) → IsGranted js skew transit c p → (r : Ref) → CutsShort js skew p r → Has refs r
cut_listed js skew transit c refs listed some p h r cut =
    let same : h.lease ≡ cut.0 = one_lease js p.grant h.lease cut.0 h.grants cut.1 in
    let round : Contains cut.0.prefix c.prefix = subst (λ (g : Lease). Contains g.prefix c.prefix) same h.round in
    let over : Overlaps cut.0.prefix c.prefix = (some.0, round some.0 some.1, some.1) in
    listed.all r cut.2.0 cut.2.1 (subst (Concerns c.prefix) (sym cut.2.2) over)

pub listed_is_enough : ListedIsEnough
listed_is_enough js skew transit c refs listed some =
    (uncovered_listed js c refs listed, cut_listed js skew transit c refs listed some)
