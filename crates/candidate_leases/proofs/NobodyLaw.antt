-- Where it is said that nobody had it, nobody had.
use Rattle.std.specs.Prelude.{◌≡◌, ℕ, ◌+◌, ◌-◌, ◌*◌, ◌<◌, ◌≤◌, ◌⊎◌, List, Option, Some, None}
use Rattle.std.specs.Prelude.{nat_eq, slice_get}
use Rattle.std.proofs.Common.{arith, sym, ◌∙◌, ap, subst, inl, inr, refl, rules}
use Rattle.std.proofs.lemmas.Bool.{cases_lt}
use Rattle.prefix_range.specs.Prefix.{Prefix, HasAddress, Overlaps}
use Rattle.binding_rules.specs.declared.role.Role.{Role}
use Rattle.journal_lines.specs.declared.event.Event.TheVariants.{Release}
use Rattle.journal_lines.specs.declared.event.Lease.{Lease}
use Rattle.journal_lines.specs.declared.kept.Carried.{Carried}
use Rattle.journal_lines.specs.declared.line.Line.{Line}
use Rattle.book_rules.specs.NextHead.{AreLegal}
use Rattle.causal_order.specs.declared.reference.Ref.{Ref}
use Rattle.causal_order.specs.Journals.{Journals, journal_of, volume_of, open_of, Names}
use Rattle.attribution.specs.declared.delegation.Delegation.{Delegation}
use Rattle.attribution.specs.declared.delegation.Lasting.{Lasting}
use Rattle.attribution.specs.declared.delegation.Lasting.TheVariants.{For, Until}
use Rattle.attribution.specs.Delegation.{of_lease, of_carried, told_by}
use Rattle.attribution.specs.Volumes.{volume_at, volumes_in}
use Rattle.attribution.specs.Run.{Step, lines_of, closes, StartInTime, IsValidAt, infinity}
use Rattle.attribution.specs.Acceptance.{IsNew, Tells, GivesBack}
use Rattle.attribution.specs.Laws.{Stands, RefAt}
use Rattle.attribution.specs.Lawful.{LegalIsLawful, StillCarried, Ended, GivenUp}
use Rattle.attribution.proofs.Headline.{world_of}
use Rattle.attribution.proofs.Places.{placed, standing, earlier, earlier_volume, volumes_at}
use Rattle.attribution.proofs.Runs.{last, World, ref_at}
use Rattle.evidence_report.specs.declared.mark.LineReading.{LineReading}
use Rattle.evidence_report.specs.Marks.{Reads}
use Rattle.candidate_leases.specs.declared.at_moment.AtMoment.{AtMoment}
use Rattle.candidate_leases.specs.declared.at_moment.AtMoment.TheVariants.{NotBegun, GivenBack}
use Rattle.candidate_leases.specs.declared.at_moment.AtMoment.TheVariants.{Ended as EndedState}
use Rattle.candidate_leases.specs.declared.candidates.CandidateLease.{CandidateLease}
use Rattle.candidate_leases.specs.Conditions.{Asked, asked_of, OpensAt, IsPastOpen, IsBeforeClose}
use Rattle.candidate_leases.specs.Near.{ends_by, IsLater, HasEnded, EndsIt, IsSo, SaysPossible, IsNear}
use Rattle.candidate_leases.specs.Leases.{IsNearLease, AreNearLeases}
use Rattle.candidate_leases.specs.Why.{MayBe}
use Rattle.candidate_leases.specs.Laws.{NobodyIsTrue}
use Rattle.candidate_leases.proofs.Listed.{one_reading, one_told}
use Rattle.candidate_leases.proofs.Ends.{ends_of}
use Rattle.candidate_leases.proofs.InRuns.{LineOf, Where, where_is, near, after, before_open, before_line, reaches}

-- ---- what lines show of each delegation

-- a release that ends it, of those in the journals
abbrev pub IsGivenBack : Journals → Asked → LineReading → Delegation → Type 0
IsGivenBack js q line d =
    (r : LineReading) × GivesBack js r.at d × Reads js r.at r.reading × EndsIt q line r

-- the delegation that the line tells of wasn't its client's at the moment: it came later, had ended, or was given back
abbrev pub IsAside : Journals → Asked → LineReading → Delegation → Type 0
IsAside js q line d = IsLater q line d.lasting ⊎ (HasEnded q line d.lasting ⊎ IsGivenBack js q line d)

later_or_near : (q : Asked) (line : LineReading) (lasting : Lasting)
    → IsLater q line lasting ⊎ (IsNew lasting → line.reading ≤ q.at + q.skew + 86400000)
later_or_near q line (For valid) = elim (cases_lt (q.at + q.skew + 86400000) line.reading) [
  | inl lt ↦ inl (search rules, omega arith)
  | inr le ↦ inr (λ new. le)
]
later_or_near q line (Until end) = inr (λ new. absurd new)

ended_or_near : (at : ℕ) (o : Option ℕ)
    → ((end : ℕ) × (o ≡ Some end) × (end ≤ at)) ⊎ ((end : ℕ) → o ≡ Some end → at ≤ end + 86400000)
ended_or_near at None = inr (λ end e. absurd (cc))
ended_or_near at (Some x) = elim (cases_lt (x + 86400000) at) [
  | inl lt ↦ inl (x, refl, omega arith)
  | inr le ↦ inr (λ end e. (let same : x ≡ end = cc in omega arith))
]

-- what is said of a lease that wasn't its client's
aside_by : (js : Journals) (p : Prefix) (q : Asked) (n : CandidateLease) (is : IsNearLease js p q n) (s : AtMoment)
    → IsSo js q n.line n.delegation.lasting is.releases s → (SaysPossible s → ⊥) → IsAside js q n.line n.delegation
aside_by js p q n is NotBegun so not = inl so
aside_by js p q n is (EndedState end) so not = inr (inl (end, so))
aside_by js p q n is (GivenBack release) so not =
    let back = is.are_releases.only release so.0 in inr (inr (release, back.0, back.1, so.1))
aside_by js p q n is _ so not = absurd (not (search rules))

same_line : (x y : LineReading) → x.at ≡ y.at → x.reading ≡ y.reading → x ≡ y
same_line x y a b =
    ap (λ (r : Ref). let l : LineReading = record { at = r; reading = x.reading } in l) a
    ∙ ap (λ (n : ℕ). let l : LineReading = record { at = y.at; reading = n } in l) b

module _ (js : Journals) (p : Prefix) (q : Asked) (leases : List CandidateLease) (all : AreNearLeases js p q leases)
    (none : (n : CandidateLease) → MayBe leases n → ⊥) where
  by_lease : (line : LineReading) (d : Delegation) → Tells js line.at d → Reads js line.at line.reading
      → Overlaps d.prefix p → IsNear q line d.lasting → IsAside js q line d
  by_lease line d tells reads over is_near =
      let found = all.all line.at (d, line.reading, tells, reads, over, is_near) in
      let n = found.0 in
      let is = all.each n found.1 in
      let told = subst (λ (r : Ref). Tells js r n.delegation) found.2 is.tells in
      let read = subst (λ (r : Ref). Reads js r n.line.reading) found.2 is.reads in
      let same : n.delegation ≡ d = one_told js line.at n.delegation d told tells in
      let reading : n.line.reading ≡ line.reading = one_reading js line.at n.line.reading line.reading read reads in
      let lines = same_line n.line line found.2 reading in
      let aside = aside_by js p q n is n.state is.so (λ possible. none n (found.1, possible)) in
      subst (λ (x : Delegation). IsAside js q line x) same
      (subst (λ (l : LineReading). IsAside js q l n.delegation) lines aside)

  -- each delegation of an address of the prefix
  pub aside : (line : LineReading) (d : Delegation) → Tells js line.at d → Reads js line.at line.reading
      → Overlaps d.prefix p → IsAside js q line d
  aside line d tells reads over = elim (later_or_near q line d.lasting) [
    | inl later ↦ inl later
    | inr begun ↦ elim (ended_or_near q.at (ends_by q.skew q.transit line.reading d.lasting)) [
      | inl ended ↦ inr (inl (ended.0, (ended.1, ended.2)))
      | inr lasts ↦ by_lease line d tells reads over (begun, lasts)
    ]
  ]

-- ---- a lease that is valid at the moment

module _ (js : Journals) (q : Asked) (run : List Step) (world : World AreLegal js q.skew run) (starts : ℕ → ℕ)
    (in_time : StartInTime q.transit run starts) (i : ℕ) (g : Lease) (v : IsValidAt run starts i g q.at) where
  -- its line stands in these journals
  pub aside_here : (line : LineReading) → Reads js line.at line.reading → RefAt js run line.at i v.step
      → IsAside js q line (of_lease g) → ⊥
  aside_here line reads a (inl later) =
      let since = (near js q.skew run world line.at line.reading i v.step reads a).1 in
      let soon = (in_time i v.step g v.here v.grants).0 in
      let begun = v.begun in
      let lt = later.1 in
      absurd (omega arith)
  aside_here line reads a (inr (inl ended)) =
      let by = (near js q.skew run world line.at line.reading i v.step reads a).0 in
      let late = (in_time i v.step g v.here v.grants).1 in
      let ends = ends_of q.skew q.transit line.reading g.valid ended.0 (nat_eq g.valid infinity) refl ended.1.0 in
      let is = ends.1 in
      let le = ended.1.1 in
      elim v.lasts [ inl never ↦ ends.0 never | inr lt ↦ absurd (omega arith) ]
  aside_here line reads a (inr (inr back)) =
      let b = ref_at AreLegal js q.skew run world back.0.at back.1.0 back.1.1 in
      let order = after js q.skew run world back.0 line b.0 i b.1 v.step back.2 reads back.3.0 b.2 a in
      let by = (near js q.skew run world back.0.at back.0.reading b.0 b.1 back.2 b.2).0 in
      let soon = back.3.1 in
      v.kept (b.0, b.1, order, b.2.stands.here, ap (λ (l : Line). l.event) b.3 ∙ back.1.2, omega arith)

  -- it is of an earlier volume, by its carry line ..
  pub aside_carried : (line : LineReading) (o : Carried) (n : ℕ) (s : Step) → Reads js line.at line.reading
      → RefAt js run line.at n s → i < n → (g.client ≡ o.client) × (g.iaid ≡ o.iaid) × (g.prefix ≡ o.prefix)
      → v.step.line.reading + 1000 * g.valid ≤ o.end → (g.valid ≡ infinity → ⊥)
      → v.step.moment ≤ v.step.line.reading + q.skew → IsAside js q line (of_carried o) → ⊥
  aside_carried line o n s reads a before of le finite by (inl later) = later.0
  aside_carried line o n s reads a before of le finite by (inr (inl ended)) =
      let late = (in_time i v.step g v.here v.grants).1 in
      let is : o.end + q.skew + q.transit ≡ ended.0 = (let e = ended.1.0 in cc) in
      let soon = ended.1.1 in
      elim v.lasts [ inl never ↦ finite never | inr lt ↦ absurd (omega arith) ]
  aside_carried line o n s reads a before of le finite by (inr (inr back)) =
      let b = ref_at AreLegal js q.skew run world back.0.at back.1.0 back.1.1 in
      let order = after js q.skew run world back.0 line b.0 n b.1 s back.2 reads back.3.0 b.2 a in
      let in_time = (near js q.skew run world back.0.at back.0.reading b.0 b.1 back.2 b.2).0 in
      let soon = back.3.1 in
      let same : Release o.client o.iaid o.prefix ≡ Release g.client g.iaid g.prefix =
      (let x = of.0 in let y = of.1 in let z = of.2 in cc) in
      v.kept (b.0, b.1, omega arith, b.2.stands.here, (ap (λ (l : Line). l.event) b.3 ∙ back.1.2) ∙ same, omega arith)

  -- .. by its end, before the journal began ..
  pub ended_before : (opened : ℕ) → v.step.line.reading + 1000 * g.valid ≤ opened
      → opened + q.skew + q.transit ≤ q.at → (g.valid ≡ infinity → ⊥)
      → v.step.moment ≤ v.step.line.reading + q.skew → ⊥
  ended_before opened le past finite by =
      let late = (in_time i v.step g v.here v.grants).1 in
      elim v.lasts [ inl never ↦ finite never | inr lt ↦ absurd (omega arith) ]

  -- .. or by a release of an earlier volume
  pub given_up_before : (opened : ℕ) → OpensAt js v.step.side opened → opened + q.skew + q.transit ≤ q.at
      → (k x y : ℕ) (l : Line) → Stands run v.step.side (closes v.step.side run i) k i v.step
      → slice_get (volume_at x (lines_of v.step.side run)) y ≡ Some l
      → l.event ≡ Release g.client g.iaid g.prefix → x < last js v.step.side
      → (closes v.step.side run i < x) ⊎ ((closes v.step.side run i ≡ x) × (k < y)) → ⊥
  given_up_before opened opens past k x y l st at releases lt behind =
      let side = v.step.side in
      let p = placed run side x y l at in
      let of = p.2.volume in
      let order : i < p.0 = elim behind [
        | inl later ↦ earlier_volume side run i p.0 (omega arith)
        | inr same ↦ earlier run side (closes side run i) k y i p.0 v.step p.1 st
            (subst (λ z. Stands run side z y p.0 p.1) (sym same.0) p.2) same.1
      ] in
      let here : closes p.1.side run p.0 < last js p.1.side =
      subst (λ z. closes z run p.0 < last js z) (sym p.2.of) (omega arith) in
      let o = before_open js q.skew run world p.0 p.1 opened here
      (subst (λ z. OpensAt js z opened) (sym p.2.of) opens) in
      let time = world.is_run.in_time p.0 o.0 p.1 o.1 (let lt = o.3 in omega arith) p.2.here o.2.stands.here in
      let by = (near js q.skew run world (open_of p.1.side) opened o.0 o.1
      (subst (λ z. OpensAt js z opened) (sym p.2.of) opens) o.2).0 in
      v.kept (p.0, p.1, order, p.2.here, ap (λ (z : Line). z.event) p.3 ∙ releases, omega arith)

-- ---- nobody

module _ (js : Journals) (p : Prefix) (q : Asked)
    (asides : (line : LineReading) (d : Delegation) → Tells js line.at d → Reads js line.at line.reading
    → Overlaps d.prefix p → IsAside js q line d)
    (opens : (side : Role) → IsPastOpen js q side) (closed : (side : Role) → IsBeforeClose js q side) (run : List Step)
    (world : World AreLegal js q.skew run) (starts : ℕ → ℕ) (in_time : StartInTime q.transit run starts)
    (address : ℕ) (mine : HasAddress p address) (i : ℕ) (g : Lease) (v : IsValidAt run starts i g q.at)
    (has : HasAddress g.prefix address) where
  here : LineOf js q.skew run world i v.step → ⊥
  unfolding LineOf
  here there =
      let line : LineReading = record { at = there.0; reading = v.step.line.reading } in
      let reads : Reads js there.0 v.step.line.reading = (v.step.line, there.2.names, refl) in
      let tells : Tells js there.0 (of_lease g) = (v.step.line, there.2.names, ap told_by v.grants) in
      aside_here js q run world starts in_time i g v line reads there.2
      (asides line (of_lease g) tells reads (address, has, mine))

  -- what is owed to the lease at its line
  abbrev owed : Carried
  owed = record {
    client = g.client;
    iaid = g.iaid;
    prefix = g.prefix;
    end =
        v.step.line.reading + 1000 * g.valid;
  }

  module _ (lt : closes v.step.side run i < last js v.step.side) (finite : g.valid ≡ infinity → ⊥)
      (by : v.step.moment ≤ v.step.line.reading + q.skew) where
    by_carry : StillCarried (volume_at (last js v.step.side) (lines_of v.step.side run)) owed → ⊥
    unfolding StillCarried
    by_carry x =
        let k' : (x.0 + 1) - 1 ≡ x.0 = omega arith in
        let r : Ref = record { side = v.step.side; number = x.0 + 1 } in
        let at : slice_get (journal_of js v.step.side) x.0 ≡ Some x.1 =
        subst (λ ls. slice_get ls x.0 ≡ Some x.1) (sym (world.left v.step.side)) x.3 in
        let names : Names js r x.1 = (omega arith, rw k' at) in
        let n = ref_at AreLegal js q.skew run world r x.1 names in
        let line : LineReading = record { at = r; reading = x.1.reading } in
        let reads : Reads js r x.1.reading = (x.1, names, refl) in
        let over : Overlaps x.2.prefix p = (address, subst (λ (z : Prefix). HasAddress z address) x.5.2 has, mine) in
        aside_carried js q run world starts in_time i g v line x.2 n.0 n.1 reads n.2
        (before_line js q.skew run world r n.0 i n.1 v.step n.2 refl lt) x.5 x.6 finite by
        (asides line (of_carried x.2) (x.1, names, ap told_by x.4) reads over)

    by_end : (opened : ℕ) → OpensAt js v.step.side opened → opened + q.skew + q.transit ≤ q.at
        → Ended (volume_at (last js v.step.side) (lines_of v.step.side run)) owed → ⊥
    unfolding Ended
    by_end opened is past x =
        let at : slice_get (journal_of js v.step.side) 0 ≡ Some x.0 =
        subst (λ ls. slice_get ls 0 ≡ Some x.0) (sym (world.left v.step.side)) x.1 in
        let reads : OpensAt js v.step.side x.0.reading = (x.0, (omega arith, at), refl) in
        let same = one_reading js (open_of v.step.side) x.0.reading opened reads is in
        ended_before js q run world starts in_time i g v opened (let le = x.2 in omega arith) past finite by

    by_release : (opened : ℕ) → OpensAt js v.step.side opened → opened + q.skew + q.transit ≤ q.at → (k : ℕ)
        → Stands run v.step.side (closes v.step.side run i) k i v.step
        → GivenUp (volumes_in (volume_of js v.step.side) (lines_of v.step.side run)) (closes v.step.side run i) k
        (last js v.step.side) owed → ⊥
    unfolding GivenUp
    by_release opened is past k st x =
        let in_vs = volumes_at (volume_of js v.step.side) (lines_of v.step.side run) x.0 (let y = x.4 in omega arith) in
        let one : Some x.2 ≡ Some (volume_at x.0 (lines_of v.step.side run)) = sym x.6 ∙ in_vs in
        let same : x.2 ≡ volume_at x.0 (lines_of v.step.side run) = cc in
        given_up_before js q run world starts in_time i g v opened is past k x.0 x.1 x.3 st
        (subst (λ ls. slice_get ls x.1 ≡ Some x.3) same x.7) x.8 x.4 x.5

  earlier_one : closes v.step.side run i < last js v.step.side → ⊥
  earlier_one lt =
      let side = v.step.side in
      let lines = lines_of side run in
      let st = standing run side i v.step v.here refl in
      let law = world.lawful side in
      let n = closes side run i in
      let in_vs = volumes_at (volume_of js side) lines n (omega arith) in
      let w_vs = volumes_at (volume_of js side) lines (last js side) (omega arith) in
      let small = law.finite n st.0 (volume_at n lines) v.step.line g in_vs st.2 v.grants in
      let finite : g.valid ≡ infinity → ⊥ = λ e. omega arith in
      let by = (world.clocks i v.step v.here (omega arith)).1 in
      let past = (opens side).past (omega arith) in
      elim (law.accounted (last js side) n st.0 (volume_at n lines) (volume_at (last js side) lines) v.step.line g
      owed lt in_vs w_vs st.2 v.grants (refl, refl, refl) refl) [
        | inl x ↦ by_carry lt finite by x
        | inr y ↦ elim y [
          | inl x ↦ by_end lt finite by past.0 past.1 past.2 x
          | inr x ↦ by_release lt finite by past.0 past.1 past.2 st.0 st.1 x
        ]
      ]

  by_place : Where js q.skew run world (q.at + 1) i v.step → ⊥
  unfolding Where
  by_place (inl lt) = earlier_one lt
  by_place (inr (inl there)) = here there
  by_place (inr (inr late)) =
      let begun = v.begun in
      let soon = (in_time i v.step g v.here v.grants).0 in
      absurd (omega arith)

  pub not_held : ⊥
  not_held = by_place (where_is js q.skew run world (q.at + 1) i v.step
      (reaches js q v.step.side (closed v.step.side)) v.here)

pub nobody_is_true : LegalIsLawful → NobodyIsTrue
nobody_is_true lawful c leases all why run setting starts in_time client address mine holds =
    let js = c.journals in
    let q = asked_of c.query in
    let covered = why.0.client.unit.covered in
    not_held js c.query.prefix q (aside js c.query.prefix q leases all why.1) covered.written.opens.opens covered.closes
    run (world_of AreLegal lawful js q.skew run setting) starts in_time address mine holds.0 holds.1 holds.2 holds.4
