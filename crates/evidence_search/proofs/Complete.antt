-- Where a plain certificate is accepted, the search finds one that is.
use Rattle.std.specs.Prelude.{◌≡◌, ◌≢◌, ℕ, ◌+◌, ◌-◌, ◌<◌, ◌≤◌, ◌↔◌, IsTrue, Bool, List, [], ◌∷◌, length, slice_index_or}
use Rattle.std.specs.Prelude.{All, Contains as Has}
use Rattle.std.proofs.Common.{zero, suc, arith, sym, ◌∙◌, ap, subst, refl, inl, inr}
use Rattle.prefix_range.specs.Prefix.{Prefix, Contains}
use Rattle.binding_rules.specs.Role.{partner_of}
use Rattle.journal_lines.specs.declared.event.Lease.{Lease}
use Rattle.causal_order.specs.declared.reference.Ref.{Ref}
use Rattle.causal_order.specs.declared.certificate.Certificate.{Certificate}
use Rattle.causal_order.specs.declared.certificate.Piece.{Piece}
use Rattle.causal_order.specs.declared.certificate.Clear.{Clear}
use Rattle.causal_order.specs.declared.certificate.ClearReason.{ClearReason}
use Rattle.causal_order.specs.declared.certificate.ClearReason.TheVariants.{Before, After}
use Rattle.causal_order.specs.declared.certificate.Foreign.{Foreign}
use Rattle.causal_order.specs.Journals.{Journals, open_of}
use Rattle.causal_order.specs.Order.{EndsWith}
use Rattle.attribution.specs.declared.verdict.Verdict.{Verdict}
use Rattle.attribution.specs.declared.verdict.Verdict.TheVariants.{Accepted}
use Rattle.attribution.specs.FirstRefusal.{IsVerdict}
use Rattle.attribution.specs.declared.delegation.Delegation.{Delegation}
use Rattle.attribution.specs.Delegation.{of_lease}
use Rattle.attribution.specs.Acceptance.{Tells, GivesBack, IsCleared, IsGranted, IsDischarged, IsCarried, Tile}
use Rattle.attribution.specs.Acceptance.{IsPastPartner, ReasonHolds, IsAccepted}
use Rattle.attribution.proofs.Tiling.{pieces_meet}
use Rattle.attribution.proofs.Refusals.{one_lease, accepted_from, verdict_from, one_verdict}
use Rattle.attribution.proofs.Deciding.{tells_told}
use Rattle.auditor.proofs.Leases.{one_told}
use Rattle.plain_search.specs.declared.query.Query.{Query}
use Rattle.plain_search.specs.declared.reach.Candidate.{Candidate}
use Rattle.plain_search.specs.declared.reach.CarriedSpan.{CarriedSpan}
use Rattle.plain_search.specs.Plain.{IsOneLine, IsPlainWhy, IsPlainClear, IsPlainPiece, IsPlainForeign, IsPlain}
use Rattle.evidence_search.specs.Claim.{Claims, IsAuditorAccepted, HasNoPlainEvidence, IsTooLong}
use Rattle.evidence_search.specs.Search.{certificate_with, IsPutTogether}
use Rattle.plain_search.specs.Search.{IsReadAt, IsPastPartners, IsCandidate, IsKeptTo, AreKeptTo, CarriesTo, begin_of}
use Rattle.plain_search.specs.Search.{CarriesAt, IsReach, HasGap, piece_with, IsPlainEntry, AreEntries, IsFound}
use Rattle.plain_search.specs.Search.{ReachTo, ArePiecesOver, IsAside, AreForeign, IsInTheWay}
use Rattle.plain_search.proofs.Orders.{partner_differs, read_line, line_read, one_reading, by_alone, from_alone, by_one}
use Rattle.plain_search.proofs.Orders.{from_one, before_shown, shown_before}
use Rattle.plain_search.proofs.Kept.{weaker}
use Rattle.plain_search.proofs.Tiling.{all_has}

-- ---- certificates of a query

same_claims : (q : Query) (c : Certificate) → Claims q c → certificate_with q c.pieces c.foreign ≡ c
same_claims q c h =
    sym (ap (λ (x : List ℕ). let k : Certificate =
    record { holder = x; prefix = c.prefix; from = c.from; to = c.to; pieces = c.pieces; foreign = c.foreign } in
    k) h.holder
    ∙ (ap (λ (x : Prefix). let k : Certificate =
    record { holder = q.holder; prefix = x; from = c.from; to = c.to; pieces = c.pieces; foreign = c.foreign } in
    k) h.prefix
    ∙ (ap (λ (x : ℕ). let k : Certificate =
    record { holder = q.holder; prefix = q.prefix; from = x; to = c.to; pieces = c.pieces; foreign = c.foreign } in
    k) h.from
    ∙ ap (λ (x : ℕ). let k : Certificate = record {
      holder = q.holder;
      prefix = q.prefix;
      from = q.from;
      to = x;
      pieces = c.pieces;
      foreign = c.foreign;
    } in k) h.to)))

-- ---- what a plain certificate shows

last_is : (chain : List Ref) (s : Ref) (one : IsOneLine chain) → EndsWith chain s → one.0 ≡ s
last_is chain s one ends = subst (λ x. EndsWith x s) one.1 ends

only_at : (x y : Ref) (k : ℕ) → k < length (x ∷ []) → slice_index_or (x ∷ []) k y ≡ y → x ≡ y
only_at x y zero lt e = e
only_at x y (suc k) lt e = absurd (omega arith)

module _ (js : Journals) (q : Query) (c : Certificate) (holder : c.holder ≡ q.holder) (prefix : c.prefix ≡ q.prefix)
    (p : Piece) (one : IsPlainPiece p)
    (h : IsGranted js q.skew q.transit c p) (whole : IsDischarged js q.skew p) (past : IsPastPartner js q.skew p) where
  read : IsReadAt js p.grant h.earliest
  read = from_one js p.earliest p.grant h.earliest h.written_from one.earliest

  candidate_of : Candidate
  candidate_of = record { grant = p.grant; lease = h.lease; reading = h.earliest }

  -- a plain chain to the grant has no line of the partner, so clocks show that it came after the partner's open line
  past_partners : IsPastPartners js q.skew p.grant h.earliest
  past_partners earlier = elim (past.after earlier) [
    | inl k ↦ (
        let is : one.earliest.0 ≡ p.grant = last_is p.earliest p.grant one.earliest h.written_from.leads.ends in
        let has : Has (one.earliest.0 ∷ []) k.0 = subst (λ chain. Has chain k.0) one.earliest.1 k.1 in
        let same : one.earliest.0 ≡ k.0 = only_at one.earliest.0 k.0 has.0 has.1 has.2 in
        absurd (partner_differs p.grant.side (sym k.2 ∙ ap (λ (r : Ref). r.side) (sym same ∙ is))))
    | inr k ↦ (
        let r = from_one js p.earliest p.grant k.2.0 k.2.1 one.earliest in
        let same = one_reading js p.grant k.2.0 h.earliest r read in
        (k.0.reading, line_read js (open_of (partner_of p.grant.side)) k.0 k.1, (let gap = k.2.2 in omega arith)))
  ]

  is_candidate : IsCandidate js q candidate_of
  unfolding candidate_of
  is_candidate = record {
    grants = h.grants;
    read = read;
    holders = (h.holder ∙ holder, subst (λ (x : Prefix). Contains h.lease.prefix x) prefix h.round);
    past = past_partners;
  }

  kept_by : (j : Ref) (why : ClearReason) → IsPlainWhy why → IsCleared js q.skew j p.grant p.to why
      → IsKeptTo js q.skew candidate_of (p.to + q.skew) j
  unfolding candidate_of
  kept_by j (Before order) plainly cleared = inl (shown_before js q.skew order j p.grant plainly cleared)
  kept_by j (After chain) plainly cleared = inr (cleared.0, from_one js chain j cleared.0 cleared.1 plainly, cleared.2)

  all_kept : AreKeptTo js q.skew candidate_of (p.to + q.skew)
  unfolding candidate_of
  all_kept j back =
      let k = whole j h.lease h.grants back in
      kept_by j k.0.why (all_has IsPlainClear p.clear k.0 one.clear k.1) k.3

  -- it carries each moment of its piece
  carries_at : p.to ≤ q.to → (m : ℕ) → p.from ≤ m → m < p.to → CarriesAt js q m p.grant
  unfolding candidate_of
  carries_at within m ge lt =
      let latest = one_reading js p.grant h.latest h.earliest
      (by_one js p.latest p.grant h.latest h.written_by one.latest) read in
      let begun = h.begun in (
        candidate_of,
        refl,
        is_candidate,
        omega arith,
        record {
          within = omega arith;
          lasts = elim h.lasts [ inl e ↦ inl e | inr le ↦ inr (omega arith) ];
          kept = λ j back. weaker js q.skew candidate_of (m + 1 + q.skew) (p.to + q.skew) j (omega arith)
              (all_kept j back);
        },
      )

-- ---- what the search makes

module _ (js : Journals) (q : Query) (ps : List Piece) (fs : List Foreign) where
  entry_clears : (c : Candidate) (to : ℕ) (j : Ref) (why : ClearReason) → IsKeptTo js q.skew c (to + q.skew) j
      → IsPlainEntry js q.skew j c.grant why → IsCleared js q.skew j c.grant to why
  entry_clears c to j why kept (inl before) =
      subst (IsCleared js q.skew j c.grant to) (sym before.1) (before_shown js q.skew j c.grant before.0)
  entry_clears c to j why (inl before) (inr after) = absurd (after.0 before)
  entry_clears c to j why (inr from) (inr after) =
      subst (IsCleared js q.skew j c.grant to) (sym after.1) (from.0, from_alone js j from.0 from.1, from.2)

  candidate_carries : (c : Candidate) (from to : ℕ) (clear : List Clear) → IsCandidate js q c → begin_of q c ≤ from
      → CarriesTo js q c to → AreEntries js q.skew c.grant clear
      → IsCarried js q.skew q.transit (certificate_with q ps fs) (piece_with c.grant from to clear)
  candidate_carries c from to clear is begun carries entries = (
    record {
      lease = c.lease;
      grants = is.grants;
      holder = is.holders.0;
      round = is.holders.1;
      latest = c.reading;
      written_by = by_alone js c.grant c.reading is.read;
      begun = begun;
      earliest = c.reading;
      written_from = from_alone js c.grant c.reading is.read;
      lasts = carries.lasts;
    },
    λ j g grants back. (
        let k = entries g j grants back in
        let same = one_lease js c.grant g c.lease grants is.grants in
        let own = subst (λ (x : Lease). GivesBack js j (of_lease x)) same back in
        (k.0, k.1, k.2, entry_clears c to j k.0.why (carries.kept j own) k.3)),
  )

  candidate_past : (c : Candidate) (from to : ℕ) (clear : List Clear) → IsCandidate js q c
      → IsPastPartner js q.skew (piece_with c.grant from to clear)
  candidate_past c from to clear is = record {
    after = λ earlier. (
        let y = is.past earlier in
        let l = read_line js (open_of (partner_of c.grant.side)) y.0 y.1 in
        let e = l.2 in let gap = y.2 in
        inr (l.0, l.1, (c.reading, from_alone js c.grant c.reading is.read, omega arith)));
  }

  abbrev Works : Piece → Type 0
  Works p = IsCarried js q.skew q.transit (certificate_with q ps fs) p × IsPastPartner js q.skew p

  reach_works : (x : CarriedSpan) (from : ℕ) (clear : List Clear) → IsReach js q x → x.begin ≤ from
      → AreEntries js q.skew x.grant clear → Works (piece_with x.grant from x.end clear)
  reach_works x from clear h begun =
      subst (λ (r : Ref). AreEntries js q.skew r clear → Works (piece_with r from x.end clear)) h.is
      (λ entries. (
        candidate_carries h.candidate from x.end clear h.of (let b = h.begins in
            omega arith) ((h.ends x.end).1 (omega arith)) entries,
        candidate_past h.candidate from x.end clear h.of,
      ))

  piece_works : (p : Piece) → IsFound js q p → Works p
  piece_works p f = subst Works (sym f.is.is) (reach_works f.reach f.from f.is.clear f.of f.begun f.is.entries)

all_along : {X : Type 0} (P Q : X → Type 0) (xs : List X) → ((x : X) → P x → Q x) → All P xs → All Q xs
all_along P Q xs f h k d lt = f (slice_index_or xs k d) (h k d lt)

-- ---- so where a plain certificate is accepted ..

module _ (js : Journals) (q : Query) (ps : List Piece) (fs : List Foreign) (plain : IsPlain (certificate_with q ps fs))
    (ok : IsAccepted js q.skew q.transit (certificate_with q ps fs)) where
  -- .. no moment is bare ..
  no_gap : HasGap js q → ⊥
  no_gap gap =
      let m = gap.moment in
      let at = pieces_meet ps q.from q.to m ok.tiled gap.from gap.to in
      let carried = all_has (IsCarried js q.skew q.transit (certificate_with q ps fs)) ps at.0 ok.carried at.1 in
      gap.bare at.0.grant (carries_at js q (certificate_with q ps fs) refl refl at.0
      (all_has IsPlainPiece ps at.0 plain.pieces at.1) carried.0 carried.1
      (all_has (IsPastPartner js q.skew) ps at.0 ok.opened.pieces at.1) at.4 m at.2 at.3)

  -- .. nothing is in the way ..
  no_way : IsInTheWay js q → ⊥
  no_way w =
      let f = ok.covered w.line w.delegation (w.other.0, w.other.1.0, w.other.1.1) in
      let out = all_has (ReasonHolds js q.skew q.transit (certificate_with q ps fs)) fs f.0 ok.outside f.1 in
      let at : (d : Delegation) × Tells js w.line d × IsAside js q w.line d f.0.reason =
      subst (λ (r : Ref). (d : Delegation) × Tells js r d × IsAside js q r d f.0.reason) f.2 out in
      let same = one_told js w.line w.delegation at.0 (sym (tells_told js w.line w.delegation w.other.0)) at.1 in
      w.none f.0.reason (all_has IsPlainForeign fs f.0 plain.foreign f.1)
      (subst (λ (d : Delegation). IsAside js q w.line d f.0.reason) same at.2)

  not_empty : (found : List Piece) → Tile q.from q.to found → found ≢ []
  not_empty found t e = let same : q.from ≡ q.to = subst (Tile q.from q.to) e t in let lt = ok.interval in
      absurd (omega arith)

  -- .. and what the search puts together is accepted
  made_accepted : (found : List Piece) (foreign : List Foreign) → ReachTo js q q.to found → AreForeign js q foreign
      → IsAccepted js q.skew q.transit (certificate_with q found foreign)
  made_accepted found foreign reach named = record {
    interval = ok.interval;
    closed = ok.closed;
    tiled = reach.tiled;
    some = not_empty found reach.tiled;
    carried = all_along (IsFound js q) (IsCarried js q.skew q.transit (certificate_with q found foreign)) found
        (λ p f. (piece_works js q found foreign p f).0) reach.found;
    opened = record {
      interval = ok.opened.interval;
      pieces = all_along (IsFound js q) (IsPastPartner js q.skew) found
          (λ p f. (piece_works js q found foreign p f).1) reach.found;
    };
    covered = λ r d f. named.named r d (f.0, (f.1, f.2));
    outside = named.reasoned;
  }

-- ---- what follows from nothing found

module _ (js : Journals) (q : Query) where
  plain_with : (c : Certificate) → Claims q c → IsPlain c → IsPlain (certificate_with q c.pieces c.foreign)
  plain_with c claims plain = record { pieces = plain.pieces; foreign = plain.foreign }

  accepted_with : (c : Certificate) → Claims q c → IsAuditorAccepted js q c
      → IsAccepted js q.skew q.transit (certificate_with q c.pieces c.foreign)
  accepted_with c claims shown = subst (IsAccepted js q.skew q.transit) (sym (same_claims q c claims))
      (accepted_from js q.skew q.transit c shown.verdict)

  pub none_over_gap : HasGap js q → HasNoPlainEvidence js q
  none_over_gap gap = record {
    none = λ c claims plain shown.
        no_gap js q c.pieces c.foreign (plain_with c claims plain) (accepted_with c claims shown) gap;
  }

  pub too_long : (fs : List Foreign) → AreForeign js q fs → ArePiecesOver js q (65531 - length fs) → IsTooLong js q
  too_long fs named over = record {
    certificate = certificate_with q over.1 fs;
    claims = record { holder = refl; prefix = refl; from = refl; to = refl };
    to = over.0;
    tiled = over.2.tiled;
    carried = all_along (IsFound js q) (IsCarried js q.skew q.transit (certificate_with q over.1 fs)) over.1
        (λ p f. (piece_works js q over.1 fs p f).0) over.2.found;
    covered = λ r d f. named.named r d (f.0, (f.1, f.2));
    outside = named.reasoned;
    over = (let more = over.3 in omega arith);
  }

  pub none_in_the_way : IsInTheWay js q → HasNoPlainEvidence js q
  none_in_the_way w = record {
    none = λ c claims plain shown.
        no_way js q c.pieces c.foreign (plain_with c claims plain) (accepted_with c claims shown) w;
  }

  pub none_of_empty : q.to ≤ q.from → HasNoPlainEvidence js q
  none_of_empty le = record {
    none = λ c claims plain shown. (let lt = (accepted_with c claims shown).interval in
        absurd (omega arith));
  }

  pub none_refused : (made : Certificate) → Claims q made → IsPutTogether js q made → (IsAuditorAccepted js q made → ⊥)
      → HasNoPlainEvidence js q
  none_refused made of together refused = record {
    none = λ c claims plain shown. refused (record {
      verdict = verdict_from js q.skew q.transit made
          (subst (IsAccepted js q.skew q.transit) (same_claims q made of)
          (made_accepted js q c.pieces c.foreign (plain_with c claims plain)
          (accepted_with c claims shown) made.pieces made.foreign together.pieces together.foreign));
    });
  }

  pub shown_by : (c : Certificate) (v : Verdict) (b : Bool) → IsVerdict js q.skew q.transit c v → IsTrue b
      ↔ (v ≡ Accepted) → IsTrue b ↔ IsAuditorAccepted js q c
  shown_by c v b is d = (
    λ t. record { verdict = subst (IsVerdict js q.skew q.transit c) (d.0 t) is },
    λ h. d.1 (one_verdict js q.skew q.transit c v Accepted is h.verdict),
  )
