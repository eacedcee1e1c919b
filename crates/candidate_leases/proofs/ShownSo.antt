-- A lease is said to have been its client's wherever lines and volumes show it.
use Rattle.std.specs.Prelude.{◌≡◌, ℕ, ◌<◌, List, nat_eq}
use Rattle.std.proofs.Common.{arith, sym, subst, inl, inr, refl}
use Rattle.binding_rules.specs.Role.{partner_of}
use Rattle.binding_rules.specs.declared.role.Role.{Role}
use Rattle.causal_order.specs.Journals.{Journals, volume_of, open_of}
use Rattle.attribution.specs.declared.delegation.Lasting.{Lasting}
use Rattle.attribution.specs.declared.delegation.Lasting.TheVariants.{For, Until}
use Rattle.attribution.specs.Run.{infinity}
use Rattle.attribution.specs.Acceptance.{IsNew}
use Rattle.evidence_report.specs.declared.mark.LineReading.{LineReading}
use Rattle.candidate_leases.specs.declared.at_moment.AtMoment.{AtMoment}
use Rattle.candidate_leases.specs.declared.at_moment.AtMoment.TheVariants.{NotBegun, Ended, GivenBack, Carried}
use Rattle.candidate_leases.specs.declared.at_moment.AtMoment.TheVariants.{Beginning, Ending, MayBeGivenBack}
use Rattle.candidate_leases.specs.declared.at_moment.AtMoment.TheVariants.{EarlierVolumes, LaterVolumes, Shown}
use Rattle.candidate_leases.specs.Conditions.{Asked, OpensAt, IsPastClose, IsBeforeClose, MayPrecedePartner}
use Rattle.candidate_leases.specs.Conditions.{IsPastPartner}
use Rattle.candidate_leases.specs.Near.{AddsUpTo, HasEndedBy, IsSurelyAfter, IsShown, IsSo}
use Rattle.candidate_leases.proofs.Listed.{one_reading}
use Rattle.candidate_leases.proofs.Ends.{lasts_by, ends_of}

not_both_after : (skew : ℕ) (line other : LineReading) → IsSurelyAfter skew line other
    → IsSurelyAfter skew other line → ⊥
not_both_after skew line other (inl a) (inl b) = let x = a.1 in let y = b.1 in absurd (omega arith)
not_both_after skew line other (inl a) (inr b) = b.0 (sym a.0)
not_both_after skew line other (inr a) (inl b) = a.0 (sym b.0)
not_both_after skew line other (inr a) (inr b) = let x = a.1 in let y = b.1 in absurd (omega arith)

-- it hasn't ended where it is shown to last
not_ended : (q : Asked) (line : LineReading) (lasting : Lasting) (end : ℕ) → IsNew lasting
    → ((end : ℕ) → AddsUpTo q line lasting end → q.at < end) → HasEndedBy q line lasting end → ⊥
not_ended q line (For valid) end new lasts ended =
    let ends = ends_of q.skew q.transit line.reading valid end (nat_eq valid infinity) refl ended.0 in
    let is = ends.1 in
    let le = ended.1 in
    elim (lasts_by q.skew line.reading valid q.at (nat_eq valid infinity) refl lasts) [
      | inl never ↦ ends.0 never
      | inr lt ↦ absurd (omega arith)
    ]
not_ended q line (Until until) end new lasts ended = new

module _ (js : Journals) (q : Asked) where
  not_preceded : (line : LineReading) (side : Role) (needed : ℕ) → IsPastPartner js q line
      → MayPrecedePartner js q line side needed → ⊥
  not_preceded line side needed past h =
      let x = past.past (subst (λ (s : Role). 1 < volume_of js s) h.0 h.1) in
      let there = subst (λ (s : Role). OpensAt js s h.2.0) h.0 h.2.1 in
      let same = one_reading js (open_of (partner_of line.at.side)) x.0 h.2.0 x.1 there in
      let is = h.2.2 in
      let gap = x.2 in
      let lt = h.3 in
      absurd (omega arith)

  not_late : (side : Role) (needed closed : ℕ) → IsBeforeClose js q side → IsPastClose js q side needed closed → ⊥
  not_late side needed closed before h =
      let l = before.closes.some in
      let same = before.closes.each l.0 l.1 l.2 in
      let here = h.1.each l.0 l.1 l.2 in
      let le = before.before in
      let is = h.0 in
      let lt = h.2 in
      absurd (omega arith)

  pub shown_so : (line : LineReading) (lasting : Lasting) (releases : List LineReading) (s : AtMoment)
      → IsSo js q line lasting releases s → IsShown js q line lasting releases → s ≡ Shown
  shown_so line lasting releases NotBegun so is = let lt = so.1 in let le = is.0.begun in absurd (omega arith)
  shown_so line lasting releases (Ended end) so is = absurd (not_ended q line lasting end is.0.new is.0.lasts so)
  shown_so line lasting releases (GivenBack r) so is =
      let soon = so.1.1 in
      absurd (is.0.kept r so.0 ((λ after. not_both_after q.skew line r after so.1.0), omega arith))
  shown_so line lasting releases Carried so is = absurd (so is.0.new)
  shown_so line lasting releases (Beginning begun) so is =
      let e = so.0 in let lt = so.1 in let le = is.0.begun in absurd (omega arith)
  shown_so line lasting releases (Ending end) so is =
      let lt = is.0.lasts end so.0 in let le = so.1 in absurd (omega arith)
  shown_so line lasting releases (MayBeGivenBack r) so is = absurd (is.0.kept r so.0 so.1)
  shown_so line lasting releases (EarlierVolumes side needed) so is =
      absurd (not_preceded line side needed is.1.earlier so)
  shown_so line lasting releases (LaterVolumes side needed closed) so is =
      absurd (not_late side needed closed (is.1.later side) so)
  shown_so line lasting releases Shown so is = refl
