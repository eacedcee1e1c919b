-- Grants that may carry pieces, and up to when.
use Rattle.std.specs.Prelude.{◌≡◌, ℕ, ◌+◌, ◌*◌, ◌<◌, ◌≤◌, ◌⊎◌, ◌↔◌, ◌==◌, min, ◌^◌, Bool, true, false, Option, Some}
use Rattle.std.specs.Prelude.{None, MatchOption, if◌then◌else◌}
use Rattle.std.proofs.Common.{arith, sym, ◌∙◌, ap, subst, refl, inl, inr}
use Rattle.std.proofs.lemmas.Bool.Decides.{Decides-eqb}
use Rattle.journal_lines.specs.declared.event.Lease.{Lease}
use Rattle.causal_order.specs.declared.reference.Ref.{Ref}
use Rattle.causal_order.specs.Journals.{Journals}
use Rattle.causal_order.specs.Bounds.{reading_of}
use Rattle.attribution.specs.Run.{infinity}
use Rattle.attribution.specs.Acceptance.{Grants}
use Rattle.attribution.specs.Tests.{lease_of}
use Rattle.attribution.proofs.Refusals.{one_lease}
use Rattle.attribution.proofs.Deciding.{lease_grants, grants_lease}
use Rattle.auditor.proofs.Leases.{one_granted}
use Rattle.plain_search.specs.declared.query.Query.{Query}
use Rattle.plain_search.specs.declared.reach.Candidate.{Candidate}
use Rattle.plain_search.specs.declared.reach.CarriedSpan.{CarriedSpan}
use Rattle.plain_search.specs.Search.{IsReadAt, IsHolders, IsPastPartners, IsCandidate, NoCandidateAt, AreKeptTo}
use Rattle.plain_search.specs.Search.{CarriesTo, begin_of, lease_limit, CarriesAt, IsReach}
use Rattle.plain_search.proofs.Orders.{one_reading, not_both}

module _ (js : Journals) (q : Query) where
  -- ---- which line is one

  pub grants_at : (c : Candidate) (r : Ref) → c.grant ≡ r → IsCandidate js q c → Grants js r c.lease
  grants_at c r is h = subst (λ (x : Ref). Grants js x c.lease) is h.grants

  read_at : (c : Candidate) (r : Ref) → c.grant ≡ r → IsCandidate js q c → IsReadAt js r c.reading
  read_at c r is h = subst (λ (x : Ref). IsReadAt js x c.reading) is h.read

  pub no_lease : (r : Ref) → None ≡ lease_of js r → NoCandidateAt js q r
  no_lease r e c is h = let x : None ≡ Some c.lease = e ∙ grants_lease js r c.lease (grants_at c r is h) in cc

  pub not_holders : (r : Ref) (g : Lease) → Some g ≡ lease_of js r → (IsHolders g q → ⊥) → NoCandidateAt js q r
  not_holders r g e n c is h =
      n (subst (λ (x : Lease). IsHolders x q) (one_granted js r g c.lease e (grants_at c r is h)) h.holders)

  pub not_read : (r : Ref) → None ≡ reading_of js r → NoCandidateAt js q r
  not_read r e c is h = let x : None ≡ Some c.reading = e ∙ read_at c r is h in cc

  pub not_past : (r : Ref) (x : ℕ) → Some x ≡ reading_of js r → (IsPastPartners js q.skew r x → ⊥)
      → NoCandidateAt js q r
  not_past r x e n c is h =
      let same = one_reading js r c.reading x (read_at c r is h) (sym e) in
      n (subst (λ (y : ℕ). IsPastPartners js q.skew r y) same
      (subst (λ (s : Ref). IsPastPartners js q.skew s c.reading) is h.past))

  pub is_candidate : (r : Ref) (g : Lease) (x : ℕ) → Some g ≡ lease_of js r → Some x ≡ reading_of js r → IsHolders g q
      → IsPastPartners js q.skew r x
      → IsCandidate js q (record { grant = r; lease = g; reading = x })
  is_candidate r g x e f h p = record { grants = lease_grants js r g (sym e); read = sym f; holders = h; past = p }

  same_parts : (c d : Candidate) → c.grant ≡ d.grant → c.lease ≡ d.lease → c.reading ≡ d.reading → c ≡ d
  same_parts c d a b e =
      ap (λ (r : Ref). let x : Candidate = record { grant = r; lease = c.lease; reading = c.reading } in x) a
      ∙ (ap (λ (g : Lease). let x : Candidate = record { grant = d.grant; lease = g; reading = c.reading } in x) b
      ∙ ap (λ (n : ℕ). let x : Candidate = record { grant = d.grant; lease = d.lease; reading = n } in x) e)

  pub one_candidate : (c d : Candidate) → c.grant ≡ d.grant → IsCandidate js q c → IsCandidate js q d → c ≡ d
  one_candidate c d is a b = same_parts c d is
      (one_lease js d.grant c.lease d.lease (grants_at c d.grant is a) b.grants)
      (one_reading js d.grant c.reading d.reading (read_at c d.grant is a) b.read)

  -- ---- up to when it carries

  limit_by : (to skew x v m : ℕ) (t : Bool) → (v == infinity) ≡ t
      → (m + skew ≤ (if t then to + skew else min (to + skew) (x + 1000 * v)))
      ↔ ((m ≤ to) × ((v ≡ infinity) ⊎ (m + skew ≤ x + 1000 * v)))
  limit_by to skew x v m true e = (
    λ le. (omega arith, inl ((Decides-eqb v infinity).0 e)),
    λ h. (let a = h.0 in omega arith),
  )
  limit_by to skew x v m false e = (
    λ le. (omega arith, inr (omega arith)),
    λ h. elim h.1 [
      | inl is ↦ absurd (not_both ((Decides-eqb v infinity).1 is) e)
      | inr le ↦ (let a = h.0 in omega arith)
    ],
  )

  pub by_limit : (c : Candidate) (m : ℕ) → (m + q.skew ≤ lease_limit q c)
      ↔ ((m ≤ q.to) × ((c.lease.valid ≡ infinity) ⊎ (m + q.skew ≤ c.reading + 1000 * c.lease.valid)))
  by_limit c m = limit_by q.to q.skew c.reading c.lease.valid m (c.lease.valid == infinity) refl

  module _ (c : Candidate) where
    pub past_limit : (m : ℕ) → lease_limit q c ≤ q.from + q.skew → q.from ≤ m → CarriesTo js q c (m + 1) → ⊥
    past_limit m le ge h = let x = (by_limit c (m + 1)).1 (h.within, h.lasts) in absurd (omega arith)

    carried_kept : (kept m : ℕ) → ((least : ℕ) → (least ≤ kept)
        ↔ ((least ≤ lease_limit q c) × AreKeptTo js q.skew c least)) → CarriesTo js q c m → m + q.skew ≤ kept
    carried_kept kept m by h = (by (m + q.skew)).1 ((by_limit c m).1 (h.within, h.lasts), h.kept)

    pub cut_off : (kept m : ℕ) → ((least : ℕ) → (least ≤ kept)
        ↔ ((least ≤ lease_limit q c) × AreKeptTo js q.skew c least)) → kept < q.skew → CarriesTo js q c (m + 1) → ⊥
    cut_off kept m by lt h = let x = carried_kept kept (m + 1) by h in absurd (omega arith)

    pub carries_by : (kept end : ℕ) → ((least : ℕ) → (least ≤ kept)
        ↔ ((least ≤ lease_limit q c) × AreKeptTo js q.skew c least)) → end + q.skew ≡ kept
        → (m : ℕ) → CarriesTo js q c m ↔ (m ≤ end)
    carries_by kept end by is m = (
      λ h. (let x = carried_kept kept m by h in omega arith),
      λ le. (let two = (by (m + q.skew)).0 (omega arith) in let lease = (by_limit c m).0 two.0 in
          record { within = lease.0; lasts = lease.1; kept = two.1 }),
    )

    pub end_found : (kept : ℕ) → ((least : ℕ) → (least ≤ kept)
        ↔ ((least ≤ lease_limit q c) × AreKeptTo js q.skew c least)) → kept ≤ 2 ^ 48 + q.skew
        → (o : Option ℕ) → MatchOption o ((kept < q.skew) ⊎ (2 ^ 48 + q.skew < kept)) (λ m. m + q.skew ≡ kept)
        → MatchOption o ((m : ℕ) → q.from ≤ m → CarriesTo js q c (m + 1) → ⊥) (λ end. (to : ℕ) → CarriesTo js q c to
        ↔ (to ≤ end))
    end_found kept by within None h = λ m ge carries. elim h [
      | inl lt ↦ cut_off kept m by lt carries
      | inr over ↦ absurd (omega arith)
    ]
    end_found kept by within (Some end) h = carries_by kept end by h

  -- ---- the moments of a line

  pub none_at : (r : Ref) → NoCandidateAt js q r → (m : ℕ) → q.from ≤ m → CarriesAt js q m r → ⊥
  none_at r none m ge h = none h.0 h.1 h.2

  carried_by : (c : Candidate) (r : Ref) (m : ℕ) → c.grant ≡ r → IsCandidate js q c → CarriesAt js q m r
      → (begin_of q c ≤ m) × CarriesTo js q c (m + 1)
  carried_by c r m is of h =
      let same = one_candidate h.0 c (h.1 ∙ sym is) h.2 of in
      subst (λ (x : Candidate). (begin_of q x ≤ m) × CarriesTo js q x (m + 1)) same (h.3, h.4)

  pub begins_past : (c : Candidate) (r : Ref) → c.grant ≡ r → IsCandidate js q c → q.to ≤ begin_of q c → (m : ℕ)
      → q.from ≤ m → CarriesAt js q m r → ⊥
  begins_past c r is of le m ge h = let x = carried_by c r m is of h in let within = x.1.within in let begun = x.0 in
      absurd (omega arith)

  pub ends_before : (c : Candidate) (r : Ref) → c.grant ≡ r → IsCandidate js q c
      → ((m : ℕ) → q.from ≤ m → CarriesTo js q c (m + 1) → ⊥) → (m : ℕ) → q.from ≤ m → CarriesAt js q m r → ⊥
  ends_before c r is of none m ge h = none m ge (carried_by c r m is of h).1

  pub is_reach : (c : Candidate) (r : Ref) (begin end : ℕ) → c.grant ≡ r → IsCandidate js q c → begin ≡ begin_of q c
      → ((to : ℕ) → CarriesTo js q c to ↔ (to ≤ end))
      → IsReach js q (record { grant = r; begin = begin; end = end })
  is_reach c r begin end is of b e = record { candidate = c; is = is; of = of; begins = sym b; ends = e }

  -- a reach of the line carries what the line carries
  pub reached : (x : CarriedSpan) (m : ℕ) → IsReach js q x → CarriesAt js q m x.grant → (x.begin ≤ m) × (m < x.end)
  reached x m h at = let k = carried_by h.candidate x.grant m h.is h.of at in let to = (h.ends (m + 1)).0 k.1 in
      let b = h.begins in let begun = k.0 in (omega arith, omega arith)
