-- Which clients a plain certificate may be of.
use Rattle.std.specs.Prelude.{◌≡◌, ℕ, ◌+◌, ◌<◌, ◌≤◌, List, [], ◌∷◌, Option, Some, None, MatchOption, IfSome}
use Rattle.std.specs.Prelude.{Contains as Has}
use Rattle.std.proofs.Common.{arith, sym, ◌∙◌, ap, subst, refl}
use Rattle.prefix_range.specs.Prefix.{IsPrefix}
use Rattle.journal_lines.specs.declared.event.Lease.{Lease}
use Rattle.binding_rules.specs.declared.role.Role.TheVariants.{Primary}
use Rattle.causal_order.specs.declared.reference.Ref.{Ref}
use Rattle.causal_order.specs.Journals.{Journals, journal_of}
use Rattle.attribution.specs.Listing.{IsListing}
use Rattle.attribution.specs.Tests.{lease_of}
use Rattle.attribution.proofs.Refusals.{accepted_from}
use Rattle.auditor.specs.Closing.{ClosesAt}
use Rattle.auditor.proofs.Leases.{one_granted}
use Rattle.plain_search.specs.declared.query.HolderQuery.{HolderQuery}
use Rattle.plain_search.specs.declared.reach.CarriedSpan.{CarriedSpan}
use Rattle.evidence_search.specs.Claim.{HasNoPlainEvidence, held_by, HasNoPlainHolder}
use Rattle.evidence_search.specs.Search.{HasMoment, IsClientAt}
use Rattle.plain_search.specs.Search.{CarriesAt, IsReach}
use Rattle.plain_search.proofs.Candidates.{no_lease, grants_at, none_at, reached}
use Rattle.plain_search.proofs.Carrying.{carried_listed}
use Rattle.evidence_search.proofs.Complete.{none_over_gap}
use Rattle.plain_search.proofs.Walked.{Passed, passed_none, passed_on, passed_all}

-- ---- the client of a line

module _ (js : Journals) (q : HolderQuery) (r : Ref) where
  pub no_client : None ≡ lease_of js r → (h : List ℕ) → IsClientAt js q r h → ⊥
  no_client e h is = none_at js (held_by q h) r (no_lease js (held_by q h) r e) q.at (omega arith) is

  pub one_client : (g : Lease) → Some g ≡ lease_of js r → (h : List ℕ) → IsClientAt js q r h → h ≡ g.client
  one_client g e h is =
      let grants = grants_at js (held_by q h) is.0 r is.1 is.2 in
      sym is.2.holders.0 ∙ ap (λ (x : Lease). x.client) (one_granted js r g is.0.lease e grants)

  -- what a search of the line finds for its client, where the moment isn't in it
  pub not_carried : (g : Lease) → Some g ≡ lease_of js r → (found : Option CarriedSpan)
      → MatchOption found ((m : ℕ) → q.at ≤ m → CarriesAt js (held_by q g.client) m r
      → ⊥) (λ x. (x.grant ≡ r) × IsReach js (held_by q g.client) x)
      → (HasMoment found q.at → ⊥) → (h : List ℕ) → IsClientAt js q r h → ⊥
  not_carried g e None none not h is = none q.at (omega arith)
      (subst (λ (k : List ℕ). IsClientAt js q r k) (one_client g e h is) is)
  not_carried g e (Some x) reach not h is =
      let own = subst (λ (k : List ℕ). IsClientAt js q r k) (one_client g e h is) is in
      let at = reached js (held_by q g.client) x q.at reach.1
      (subst (λ (s : Ref). CarriesAt js (held_by q g.client) q.at s) (sym reach.0) own) in
      not (x, refl, at.0, at.1)

-- ---- the walk over lines

abbrev pub Names : Journals → HolderQuery → Ref → Type 0
Names js q r = (h : List ℕ) × IsClientAt js q r h

-- each client that the line names has no plain evidence
abbrev pub IsAsked : Journals → HolderQuery → Ref → Type 0
IsAsked js q r = (h : List ℕ) → IsClientAt js q r h → HasNoPlainEvidence js (held_by q h)

pub record AreAsked (js : Journals) (q : HolderQuery) (left : List Ref) (last : Option (List ℕ)) : Type 0 where
  pub passed : Passed (Names js q) (IsAsked js q) left
  pub last_asked : IfSome last (λ h. HasNoPlainEvidence js (held_by q h))

module _ (js : Journals) (q : HolderQuery) where
  named_listed : (left : List Ref) → IsListing js q.prefix left → IsPrefix q.prefix → (r : Ref) → Names js q r
      → Has left r
  named_listed left listed prefix r n = carried_listed js (held_by q n.0) left listed prefix r (q.at, omega arith, n.1)

  pub none_asked : (left : List Ref) → IsListing js q.prefix left → IsPrefix q.prefix → AreAsked js q left None
  none_asked left listed prefix = record {
    passed =
        passed_none (Names js q) (IsAsked js q) left (named_listed left listed prefix);
    last_asked = tt;
  }

  pub asked_on : (left more : List Ref) (r : Ref) (last next : Option (List ℕ)) → left ≡ r ∷ more → IsAsked js q r
      → IfSome next (λ h. HasNoPlainEvidence js (held_by q h))
      → AreAsked js q left last → AreAsked js q more next
  asked_on left more r last next e here asked h = record {
    passed = passed_on (Names js q) (IsAsked js q) (IsAsked js q) left more r e (λ j k. k) (λ n. here) h.passed;
    last_asked = asked;
  }

  pub names_none : (r : Ref) → ((h : List ℕ) → IsClientAt js q r h → ⊥) → IsAsked js q r
  names_none r none h is = absurd (none h is)

  pub asked_client : (r : Ref) (h : List ℕ) → ((k : List ℕ) → IsClientAt js q r k → k ≡ h)
      → HasNoPlainEvidence js (held_by q h) → IsAsked js q r
  asked_client r h same none k is = subst (λ (x : List ℕ). HasNoPlainEvidence js (held_by q x)) (sym (same k is)) none

  pub all_asked : (left : List Ref) (last : Option (List ℕ)) → left ≡ [] → AreAsked js q left last
      → HasNoPlainHolder js q
  all_asked left last none h = record {
    none = λ holder. record {
      none = λ c claims plain shown. (
          let asked = λ (r : Ref) (at : IsClientAt js q r holder). passed_all (Names js q)
          (IsAsked js q) left none h.passed r (holder, at) holder at in
          (none_over_gap js (held_by q holder) (record {
            moment = q.at;
            from = omega arith;
            to = omega arith;
            bare = λ r at. (asked r at).none c claims plain shown;
          })).none c claims plain shown);
    };
  }

-- ---- past what a journal shows

pub past_closing : (js : Journals) (q : HolderQuery) (reading : ℕ) → ClosesAt (journal_of js Primary) reading
    → reading ≤ q.at → HasNoPlainHolder js q
past_closing js q reading closes le = record {
  none = λ holder. record {
    none = λ c claims plain shown. (
        let ok = accepted_from js q.skew q.transit c shown.verdict in
        let l = ok.closed Primary in
        let is = closes.each l.0 l.1 l.2 in
        let ge = l.3 in
        let to = claims.to in
        absurd (omega arith));
  };
}
