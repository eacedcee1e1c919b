-- Who holds what is the same in a run without some lines that no lease stands on.
use Rattle.std.specs.Prelude.{◌≡◌, ℕ, ◌<◌, List}
use Rattle.std.proofs.Common.{arith, sym, ◌∙◌, ap, subst, inl, inr}
use Rattle.std.proofs.lemmas.Bool.{cases_lt}
use Rattle.binding_rules.specs.declared.role.Role.{Role}
use Rattle.journal_lines.specs.declared.event.Lease.{Lease}
use Rattle.causal_order.specs.declared.certificate.Certificate.{Certificate}
use Rattle.attribution.specs.Run.{Step, StartInTime, IsReleasedBy, IsValidAt}
use Rattle.attribution.specs.Acceptance.{IsTrueIn}
use Rattle.joined_runs.specs.Laws.{AreHeldAlike}
use Rattle.joined_runs.proofs.Places.{tells, Thins}

-- a place that isn't before another stood no earlier
falls : (to : ℕ → ℕ) → ((i j : ℕ) → i < j → to i < to j) → (i j : ℕ) → to i < to j → i < j
falls to rising i j lt = elim (cases_lt i j) [
  | inl h ↦ h
  | inr ge ↦ elim (cases_lt j i) [
    | inl h ↦ (let r = rising j i h in absurd (omega arith))
    | inr le ↦ (let e : i ≡ j = omega arith in let same = ap to e in absurd (omega arith))
  ]
]

pub never_falls : {side : Role} {shut less : ℕ} {old new : List Step} (f : Thins side shut less old new) (i j : ℕ)
    → f.to i < f.to j → i < j
never_falls f i j lt = falls f.to f.rising i j lt

module _ (side : Role) (shut less : ℕ) (old new : List Step) (f : Thins side shut less old new) (starts : ℕ → ℕ) where
  abbrev pub starts_on : ℕ → ℕ
  starts_on i = starts (f.to i)

  pub in_time_on : (transit : ℕ) → StartInTime transit old starts → StartInTime transit new starts_on
  in_time_on transit reaches i s g at grants =
      let o = f.stood i s at in
      let r = reaches (f.to i) o.0 g o.1 (sym o.2.event ∙ grants) in
      let a = r.0 in
      let b = r.1 in
      let e = o.2.moment in
      (omega arith, omega arith)

  released_new : (i : ℕ) (g : Lease) (m : ℕ) → IsReleasedBy old (f.to i) g m → IsReleasedBy new i g m
  released_new i g m r =
      let q = f.stays r.0 r.1 r.3 (ap tells r.4) in
      let lt = r.2 in
      let e = q.3 in
      let le = r.5 in
      let same = q.4.moment in
      (q.0, q.1, falls f.to f.rising i q.0 (omega arith), q.2, q.4.event ∙ r.4, omega arith)

  released_old : (i : ℕ) (g : Lease) (m : ℕ) → IsReleasedBy new i g m → IsReleasedBy old (f.to i) g m
  released_old i g m r =
      let o = f.stood r.0 r.1 r.3 in
      let le = r.5 in
      let same = o.2.moment in
      (f.to r.0, o.0, f.rising i r.0 r.2, o.1, sym o.2.event ∙ r.4, omega arith)

  -- a lease that is valid in the new run was valid, where its grant stood ..
  pub valid_old : (i : ℕ) (g : Lease) (m : ℕ) → IsValidAt new starts_on i g m → IsValidAt old starts (f.to i) g m
  valid_old i g m v =
      let o = f.stood i v.step v.here in
      record {
        step = o.0;
        here = o.1;
        grants = sym o.2.event ∙ v.grants;
        begun = v.begun;
        lasts = v.lasts;
        kept = λ r. v.kept (released_new i g m r);
      }

  -- .. and one that was valid is valid there
  pub valid_new : (j : ℕ) (g : Lease) (m : ℕ) → IsValidAt old starts j g m
      → (i : ℕ) × IsValidAt new starts_on i g m
  valid_new j g m v =
      let q = f.stays j v.step v.here (ap tells v.grants) in
      let there : IsValidAt old starts (f.to q.0) g m = subst (λ k. IsValidAt old starts k g m) q.3 v in (
        q.0,
        record {
          step = q.1;
          here = q.2;
          grants = q.4.event ∙ v.grants;
          begun = there.begun;
          lasts = there.lasts;
          kept = λ r. there.kept (released_old q.0 g m r);
        },
      )

  pub held_alike : AreHeldAlike old starts new starts_on
  held_alike = record {
    address = λ address client m. (
      λ h. (let v = valid_new h.0 h.1 m h.2 in (v.0, h.1, v.1, h.3, h.4)),
      λ h. (f.to h.0, h.1, valid_old h.0 h.1 m h.2, h.3, h.4),
    );
    whole = λ prefix client m. (
      λ h. (let v = valid_new h.0 h.1 m h.2 in (v.0, h.1, v.1, h.3, h.4)),
      λ h. (f.to h.0, h.1, valid_old h.0 h.1 m h.2, h.3, h.4),
    );
  }

pub alike_over : (run : List Step) (starts : ℕ → ℕ) (mid : List Step) (mids : ℕ → ℕ) (new : List Step) (news : ℕ → ℕ)
    → AreHeldAlike run starts mid mids → AreHeldAlike mid mids new news → AreHeldAlike run starts new news
alike_over run starts mid mids new news a b = record {
  address = λ address client m. (
    λ h. (b.address address client m).0 ((a.address address client m).0 h),
    λ h. (a.address address client m).1 ((b.address address client m).1 h),
  );
  whole = λ prefix client m. (
    λ h. (b.whole prefix client m).0 ((a.whole prefix client m).0 h),
    λ h. (a.whole prefix client m).1 ((b.whole prefix client m).1 h),
  );
}

-- what is true in the one run is true in the other
pub true_alike : (run : List Step) (starts : ℕ → ℕ) (other : List Step) (others : ℕ → ℕ)
    → AreHeldAlike run starts other others → (c : Certificate) → IsTrueIn other others c → IsTrueIn run starts c
true_alike run starts other others a c t = record {
  held = λ m ge lt. (a.whole c.prefix c.holder m).1 (t.held m ge lt);
  alone = λ m address client ge lt mine h.
      t.alone m address client ge lt mine ((a.address address client m).0 h);
}
