-- What is said to have been its client's was a valid delegation.
use Rattle.std.specs.Prelude.{◌≡◌, ℕ, ◌+◌, ◌<◌, ◌≤◌, ◌⊎◌, List, Some, Contains as Has}
use Rattle.std.specs.Prelude.{nat_eq}
use Rattle.std.proofs.Common.{arith, sym, ◌∙◌, ap, subst, inl, inr, refl}
use Rattle.binding_rules.specs.Role.{partner_of}
use Rattle.binding_rules.specs.declared.role.Role.{Role}
use Rattle.journal_lines.specs.declared.event.Event.{Event}
use Rattle.journal_lines.specs.declared.event.Event.TheVariants.{Grant, Release, Carry}
use Rattle.journal_lines.specs.declared.event.Lease.{Lease}
use Rattle.journal_lines.specs.declared.line.Line.{Line}
use Rattle.book_rules.specs.NextHead.{AreLegal}
use Rattle.causal_order.specs.declared.reference.Ref.{Ref}
use Rattle.causal_order.specs.Journals.{Journals, volume_of}
use Rattle.attribution.specs.declared.delegation.Delegation.{Delegation}
use Rattle.attribution.specs.Delegation.{of_lease, of_carried, told_by}
use Rattle.attribution.specs.Run.{Step, closes, StartInTime, IsReleasedBy, infinity}
use Rattle.attribution.specs.Acceptance.{IsNew, Tells}
use Rattle.attribution.specs.Laws.{RefAt}
use Rattle.attribution.specs.Lawful.{LegalIsLawful}
use Rattle.attribution.proofs.Headline.{world_of}
use Rattle.attribution.proofs.Runs.{last, World, ref_at}
use Rattle.evidence_report.specs.declared.mark.LineReading.{LineReading}
use Rattle.evidence_report.specs.Marks.{Reads}
use Rattle.candidate_leases.specs.declared.at_moment.AtMoment.{AtMoment}
use Rattle.candidate_leases.specs.declared.candidates.CandidateLease.{CandidateLease}
use Rattle.candidate_leases.specs.Conditions.{Asked, OpensAt}
use Rattle.candidate_leases.specs.Near.{AddsUpTo, IsShownByLines, IsShownByVolumes, IsSo, MayEndIt}
use Rattle.candidate_leases.specs.Leases.{AreReleaseMarks}
use Rattle.candidate_leases.specs.Laws.{IsValidLease, ShownIsValid}
use Rattle.candidate_leases.proofs.Ends.{lasts_by}
use Rattle.candidate_leases.proofs.InRuns.{LineOf, Where, where_is, near, after, before_line, before_partners, reaches}
use Rattle.candidate_leases.proofs.InRuns.{sides}

-- the event that tells of a delegation that began there grants it
grants_told : (e : Event) (d : Delegation) → told_by e ≡ Some d → IsNew d.lasting
    → (g : Lease) × (e ≡ Grant g) × (of_lease g ≡ d)
grants_told (Grant g) d is new = (g, refl, cc)
grants_told (Carry o) d is new =
    let same : of_carried o ≡ d = cc in
    absurd (subst (λ (x : Delegation). IsNew x.lasting → ⊥) same (λ h. h) new)
grants_told _ d is new = absurd (cc)

module _ (js : Journals) (q : Asked) (run : List Step) (world : World AreLegal js q.skew run) where
  module _ (n : CandidateLease) (g : Lease) (is : of_lease g ≡ n.delegation) (reads : Reads js n.line.at n.line.reading)
      (marks : List LineReading) (are : AreReleaseMarks js n.delegation marks)
      (kept : (r : LineReading) → Has marks r → MayEndIt q n.line r → ⊥) (volumes : IsShownByVolumes js q n.line)
      (i : ℕ) (s : Step) (a : RefAt js run n.line.at i s) where
    -- a release in these journals came before the line, or after the moment
    not_here : (j : ℕ) (t : Step) → i < j → t.line.event ≡ Release g.client g.iaid g.prefix → t.moment ≤ q.at
        → LineOf js q.skew run world j t → ⊥
    unfolding LineOf
    not_here j t later releases by there =
        let same : Release g.client g.iaid g.prefix
        ≡ Release n.delegation.client n.delegation.iaid n.delegation.prefix =
        ap (λ (d : Delegation). Release d.client d.iaid d.prefix) is in
        let mark = are.all there.0 (t.line, there.2.names, releases ∙ same) in
        let back = are.only mark.0 mark.1 in
        let b : RefAt js run mark.0.at j t = subst (λ (r : Ref). RefAt js run r j t) (sym mark.2) there.2 in
        let read = (near js q.skew run world mark.0.at mark.0.reading j t back.1 b).1 in
        kept mark.0 mark.1 (
          λ sure. (let order = after js q.skew run world n.line mark.0 i j s t reads back.1 sure a b in
              absurd (omega arith)),
          omega arith,
        )

    -- one of an earlier volume came before the line
    not_earlier : (j : ℕ) (t : Step) → closes t.side run j < last js t.side
        → (t.side ≡ n.line.at.side) ⊎ (t.side ≡ partner_of n.line.at.side) → j < i
    not_earlier j t lt (inl same) = before_line js q.skew run world n.line.at i j s t a same lt
    not_earlier j t lt (inr differs) =
        let past = volumes.earlier.past (subst (λ (side : Role). 1 < volume_of js side) differs (omega arith)) in
        before_partners js q.skew run world n.line.at n.line.reading past.0 i j s t reads a
        (subst (λ (side : Role). OpensAt js side past.0) (sym differs) past.1) past.2 lt

    not_released : IsReleasedBy run i g q.at → ⊥
    unfolding Where
    not_released h = by_place (where_is js q.skew run world (q.at + 1) h.0 h.1
        (reaches js q h.1.side (volumes.later h.1.side)) h.3) where
          by_place : Where js q.skew run world (q.at + 1) h.0 h.1 → ⊥
          by_place (inl lt) = let order = not_earlier h.0 h.1 lt (sides n.line.at.side h.1.side) in let later = h.2 in
              absurd (omega arith)
          by_place (inr (inl there)) = not_here h.0 h.1 h.2 h.4 h.5 there
          by_place (inr (inr late)) = let by = h.5 in absurd (omega arith)

  valid_lease : (n : CandidateLease) → Reads js n.line.at n.line.reading
      → (marks : List LineReading) → AreReleaseMarks js n.delegation marks
      → IsShownByLines q n.line n.delegation.lasting marks → IsShownByVolumes js q n.line
      → (tells : Tells js n.line.at n.delegation)
      → (starts : ℕ → ℕ) → StartInTime q.transit run starts → IsValidLease n q.at run starts
  valid_lease n reads marks are lines volumes tells starts in_time =
      let grant = grants_told tells.0.event n.delegation tells.2 lines.new in
      let at = ref_at AreLegal js q.skew run world n.line.at tells.0 tells.1 in
      let grants : at.1.line.event ≡ Grant grant.0 = ap (λ (x : Line). x.event) at.3 ∙ grant.1 in
      let start = in_time at.0 at.1 grant.0 at.2.stands.here grants in
      let bounds = near js q.skew run world n.line.at n.line.reading at.0 at.1 reads at.2 in
      let soon = start.0 in
      let late = start.1 in
      let by = bounds.0 in
      let since = bounds.1 in
      let begun = lines.begun in
      let ends = lasts_by q.skew n.line.reading grant.0.valid q.at (nat_eq grant.0.valid infinity) refl
      (subst (λ (d : Delegation). (end : ℕ) → AddsUpTo q n.line d.lasting end → q.at < end) (sym grant.2) lines.lasts)
      in
      record {
        index = at.0;
        lease = grant.0;
        is = grant.2;
        valid =
            record {
              step = at.1;
              here = at.2.stands.here;
              grants = grants;
              begun = omega arith;
              lasts = elim ends [ inl never ↦ inl never | inr lt ↦ inr (omega arith) ];
              kept = not_released n grant.0 grant.2 reads marks are lines.kept volumes at.0 at.1 at.2;
            };
      }

pub shown_is_valid : LegalIsLawful → ShownIsValid
shown_is_valid lawful js prefix q n is shown run setting starts in_time =
    let so = subst (λ (s : AtMoment). IsSo js q n.line n.delegation.lasting is.releases s) shown is.so in
    valid_lease js q run (world_of AreLegal lawful js q.skew run setting) n is.reads is.releases
    is.are_releases so.0 so.1 is.tells starts in_time
