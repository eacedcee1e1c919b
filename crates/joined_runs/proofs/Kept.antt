-- What a run of the pair without some lines of one side keeps: the order of moments, clocks, and that what is taken was
-- sent.
use Rattle.std.specs.Prelude.{◌≡◌, ℕ, ◌+◌, ◌<◌, ◌≤◌, List}
use Rattle.std.proofs.Common.{arith, sym, ◌∙◌, ap, inl, inr}
use Rattle.std.proofs.lemmas.Bool.{cases_lt}
use Rattle.binding_rules.specs.declared.role.Role.{Role}
use Rattle.binding_rules.specs.Role.{partner_of}
use Rattle.binding_rules.specs.declared.message.PartnerMessage.{PartnerMessage}
use Rattle.journal_lines.specs.declared.event.Event.TheVariants.{Send, Take}
use Rattle.attribution.specs.Run.{Step, At}
use Rattle.joined_runs.proofs.Places.{tells, IsSame, Thins}
use Rattle.joined_runs.proofs.Holders.{never_falls}

module _ (side : Role) (shut less : ℕ) (old new : List Step) (f : Thins side shut less old new) where
  pub in_time_new : ((i j : ℕ) (s t : Step) → i ≤ j → At old i s → At old j t → s.moment ≤ t.moment)
      → (i j : ℕ) (s t : Step) → i ≤ j → At new i s → At new j t → s.moment ≤ t.moment
  in_time_new in_time i j s t le a b =
      let o = f.stood i s a in
      let p = f.stood j t b in
      let rises : f.to i ≤ f.to j = elim (cases_lt i j) [
        | inl lt ↦ (let r = f.rising i j lt in omega arith)
        | inr ge ↦ (let e : i ≡ j = omega arith in let same = ap f.to e in omega arith)
      ] in
      let r = in_time (f.to i) (f.to j) o.0 p.0 rises o.1 p.1 in
      let x = o.2.moment in
      let y = p.2.moment in
      omega arith

  -- the steps that a premise speaks of, in the one run and in the other
  module _ (In In' : ℕ → Step → Type 0)
      (inside : (i : ℕ) (s t : Step) → At new i s → IsSame s t → In' i s → In (f.to i) t) where
    pub sent_new : ((i : ℕ) (s : Step) (m : PartnerMessage) → At old i s → In i s → s.line.event ≡ Take m
        → (j : ℕ) × (t : Step) × (j < i) × At old j t × (t.side ≡ partner_of s.side) × (t.line.event ≡ Send m))
        → (i : ℕ) (s : Step) (m : PartnerMessage) → At new i s → In' i s → s.line.event ≡ Take m
        → (j : ℕ) × (t : Step) × (j < i) × At new j t × (t.side ≡ partner_of s.side) × (t.line.event ≡ Send m)
    sent_new sent i s m at within takes =
        let o = f.stood i s at in
        let r = sent (f.to i) o.0 m o.1 (inside i s o.0 at o.2 within) (sym o.2.event ∙ takes) in
        let q = f.stays r.0 r.1 r.3 (ap tells r.5) in
        let lt = r.2 in
        let e = q.3 in (
          q.0,
          q.1,
          never_falls f q.0 i (omega arith),
          q.2,
          q.4.side ∙ (r.4 ∙ ap partner_of (sym o.2.side)),
          q.4.event ∙ r.5,
        )

    pub clocks_new : (skew : ℕ) → ((i : ℕ) (s : Step) → At old i s → In i s
        → (s.line.reading ≤ s.moment + skew) × (s.moment ≤ s.line.reading + skew))
        → (i : ℕ) (s : Step) → At new i s → In' i s
        → (s.line.reading ≤ s.moment + skew) × (s.moment ≤ s.line.reading + skew)
    clocks_new skew clocks i s at within =
        let o = f.stood i s at in
        let r = clocks (f.to i) o.0 o.1 (inside i s o.0 at o.2 within) in
        let a = r.0 in
        let b = r.1 in
        let x = o.2.moment in
        let y = o.2.reading in
        (omega arith, omega arith)
