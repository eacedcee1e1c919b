-- Lists of lines, and what is shown of each.
use Rattle.std.specs.Prelude.{◌≡◌, ◌↔◌, ℕ, ◌+◌, ◌<◌, ◌≤◌, List, [], ◌∷◌, ◌++◌, length, Option, Some, None, option_map, take}
use Rattle.std.specs.Prelude.{Contains as Has}
use Rattle.std.proofs.Common.{sym, ◌∙◌, ap, subst, arith, inl, inr, get_or, refl, append_assoc, append-nil}
use Rattle.std.proofs.lemmas.List.{take_more, take_all}
use Rattle.std.proofs.lemmas.List.Elements.{Contains-push, Contains-push_cases, Contains-append_left, Contains-get_or}
use Rattle.prefix_range.specs.Prefix.{Prefix, Overlaps}
use Rattle.journal_lines.specs.declared.line.Line.{Line}
use Rattle.causal_order.specs.declared.reference.Ref.{Ref}
use Rattle.causal_order.specs.Journals.{Journals, Names, line_of}
use Rattle.causal_order.proofs.Deciding.{line_names, names_line}
use Rattle.attribution.specs.declared.delegation.Delegation.{Delegation}
use Rattle.attribution.specs.Acceptance.{Tells}
use Rattle.attribution.specs.Listing.{IsListing}
use Rattle.attribution.proofs.Deciding.{tells_told}
use Rattle.attribution.proofs.Listing.{concerned}
use Rattle.auditor.specs.Walks.{AreReleases}
use Rattle.evidence_report.specs.declared.mark.LineReading.{LineReading}
use Rattle.evidence_report.specs.Lines.{AreOnce}
use Rattle.evidence_report.specs.Marks.{Reads, mark_of, IsToldAt}
use Rattle.evidence_report.specs.declared.foreign_report.ReportedDelegation.{ReportedDelegation}
use Rattle.candidate_leases.specs.declared.at_moment.AtMoment.TheVariants.{Shown}
use Rattle.candidate_leases.specs.declared.candidates.CandidateLease.{CandidateLease}
use Rattle.candidate_leases.specs.Conditions.{Asked}
use Rattle.candidate_leases.specs.Near.{IsNear, IsSo, IsPossible, SaysPossible, IsShown}
use Rattle.candidate_leases.specs.Leases.{AreMarksOf, AreReleaseMarks, AreConcerning, Concerns, IsNearLease, IsNearAt}
use Rattle.candidate_leases.specs.Leases.{AreNearLeases, found_list}

none_in : {X : Type 0} (x : X) → Has [] x → ⊥
none_in x h = let lt = h.1 in absurd (omega arith)

-- ---- walks

pub record IsGathered (given refs left : List Ref) : Type 0 where
  pub whole : given ≡ refs ++ left

pub none_gathered : (given : List Ref) → IsGathered given [] given
none_gathered given = record { whole = refl }

pub one_gathered : (given refs left more : List Ref) (r : Ref) → left ≡ r ∷ more → IsGathered given refs left
    → IsGathered given (refs ++ r ∷ []) more
one_gathered given refs left more r e h = record {
  whole = h.whole ∙ (ap (λ (rs : List Ref). refs ++ rs) e ∙ sym (append_assoc refs (r ∷ []) more));
}

pub all_concerning : (js : Journals) (p : Prefix) (given refs left once : List Ref) → IsListing js p given → left ≡ []
    → IsGathered given refs left → AreOnce refs once → AreConcerning js p once
all_concerning js p given refs left once listed none all same r d tells over =
    let is : given ≡ refs = all.whole ∙ (ap (λ (rs : List Ref). refs ++ rs) none ∙ append-nil refs) in
    let there : Has given r = listed.all r tells.0 tells.1 (concerned p tells.0.event d tells.2 over) in
    (same.same r).0 (subst (λ (rs : List Ref). Has rs r) is there)

-- ---- the marks of lines

none_some : {X : Type 0} {x : X} → None ≡ Some x → ⊥
none_some e = absurd (cc)

-- the mark of a line that is named
mark_by : (js : Journals) (r : Ref) (m : LineReading) (o : Option Line) → line_of js r ≡ o
    → option_map (λ l. record { at = r; reading = l.reading }) o ≡ Some m → (m.at ≡ r) × Reads js r m.reading
mark_by js r m None e is = absurd (cc)
mark_by js r m (Some l) e is =
    let same : record { at = r; reading = l.reading } ≡ m = cc in
    (sym (ap (λ (k : LineReading). k.at) same), (l, line_names js r l e, ap (λ (k : LineReading). k.reading) same))

pub marked : (js : Journals) (r : Ref) (m : LineReading) → Some m ≡ mark_of js r → (m.at ≡ r) × Reads js r m.reading
marked js r m e = mark_by js r m (line_of js r) refl (sym e)

pub unmarked : (js : Journals) (r : Ref) (l : Line) → None ≡ mark_of js r → Names js r l → ⊥
unmarked js r l e names =
    let f : mark_of js r ≡ Some (record { at = r; reading = l.reading }) =
    ap (option_map (λ (l : Line). record { at = r; reading = l.reading })) (names_line js r l names) in
    let g : None ≡ Some (record { at = r; reading = l.reading }) = e ∙ f in none_some g

pub record AreMarkedSoFar (js : Journals) (refs : List Ref) (marks : List LineReading) (i : ℕ) : Type 0 where
  pub all : (r : Ref) (l : Line) → Has (take i refs) r → Names js r l → (m : LineReading) × Has marks m × (m.at ≡ r)
  pub only : (m : LineReading) → Has marks m → Has refs m.at × Reads js m.at m.reading

module _ (js : Journals) (refs : List Ref) where
  pub none_marked : AreMarkedSoFar js refs [] 0
  none_marked = record { all = λ r l h n. absurd (none_in r h); only = λ m h. absurd (none_in m h) }

  pub one_marked : (marks : List LineReading) (i : ℕ) (d : Ref) (m : LineReading) → i < length refs
      → Some m ≡ mark_of js (get_or refs i d) → AreMarkedSoFar js refs marks i
      → AreMarkedSoFar js refs (marks ++ m ∷ []) (i + 1)
  one_marked marks i d m lt e h =
      let at = marked js (get_or refs i d) m e in
      record {
        all = λ r l has names. elim (Contains-push_cases (take i refs) (get_or refs i d) r
            (subst (λ (rs : List Ref). Has rs r) (take_more refs i d lt) has)) [
              | inl old ↦ (let k = h.all r l old names in (k.0, Contains-append_left marks (m ∷ []) k.0 k.1, k.2))
              | inr new ↦ (m, Contains-push marks m, at.0 ∙ new)
            ];
        only = λ k has. elim (Contains-push_cases marks m k has) [
          | inl old ↦ h.only k old
          | inr new ↦ subst (λ (x : LineReading). Has refs x.at × Reads js x.at x.reading) new
              (subst (λ (x : Ref). Has refs x × Reads js x m.reading) (sym at.0) (Contains-get_or refs i d lt, at.1))
        ];
      }

  pub one_unmarked : (marks : List LineReading) (i : ℕ) (d : Ref) → i < length refs → None ≡ mark_of js (get_or refs i d)
      → AreMarkedSoFar js refs marks i → AreMarkedSoFar js refs marks (i + 1)
  one_unmarked marks i d lt e h = record {
    all = λ r l has names. elim (Contains-push_cases (take i refs) (get_or refs i d) r
        (subst (λ (rs : List Ref). Has rs r) (take_more refs i d lt) has)) [
          | inl old ↦ h.all r l old names
          | inr new ↦ absurd (unmarked js r l (subst (λ (x : Ref). None ≡ mark_of js x) new e) names)
        ];
    only = h.only;
  }

  pub all_marked : (marks : List LineReading) (i : ℕ) → length refs ≤ i → AreMarkedSoFar js refs marks i
      → AreMarksOf js refs marks
  all_marked marks i le h = record {
    all = λ r l has. h.all r l (subst (λ (rs : List Ref). Has rs r) (sym (take_all i refs le)) has);
    only = h.only;
  }

pub release_marks : (js : Journals) (d : Delegation) (refs : List Ref) (marks : List LineReading) → AreReleases js d refs
    → AreMarksOf js refs marks → AreReleaseMarks js d marks
release_marks js d refs marks releases h = record {
  all = λ r back. h.all r back.0 (releases.all r back) back.1;
  only = λ m has. (releases.only m.at (h.only m has).0, (h.only m has).1);
}

-- ---- what one line tells of

pub lease_so : (js : Journals) (p : Prefix) (q : Asked) (n : CandidateLease) (releases : List LineReading)
    → Tells js n.line.at n.delegation → Reads js n.line.at n.line.reading → Overlaps n.delegation.prefix p
    → IsNear q n.line n.delegation.lasting → AreReleaseMarks js n.delegation releases
    → IsSo js q n.line n.delegation.lasting releases n.state
    → (SaysPossible n.state ↔ IsPossible q n.line n.delegation.lasting releases)
    → (IsShown js q n.line n.delegation.lasting releases → n.state ≡ Shown) → IsNearLease js p q n
lease_so js p q n releases tells reads overlaps near are so possible shown = record {
  tells = tells;
  reads = reads;
  overlaps = overlaps;
  near = near;
  releases = releases;
  are_releases = are;
  so = so;
  possible = possible;
  shown = shown;
}

pub one_reading : (js : Journals) (r : Ref) (x y : ℕ) → Reads js r x → Reads js r y → x ≡ y
one_reading js r x y a b =
    let same : Some a.0 ≡ Some b.0 = sym (names_line js r a.0 a.1) ∙ names_line js r b.0 b.1 in
    let one : a.0 ≡ b.0 = cc in
    sym a.2 ∙ (ap (λ (l : Line). l.reading) one ∙ b.2)

pub one_told : (js : Journals) (r : Ref) (d f : Delegation) → Tells js r d → Tells js r f → d ≡ f
one_told js r d f a b = let x : Some d ≡ Some f = sym (tells_told js r d a) ∙ tells_told js r f b in cc

module _ (js : Journals) (p : Prefix) (q : Asked) (r : Ref) where
  pub untold : IsToldAt js r None → Concerns js p q r → ⊥
  untold none h = none h.0 h.2

  -- what a line that tells of this delegation concerns
  pub unconcerned : (told : ReportedDelegation) → IsToldAt js r (Some told)
      → (Overlaps told.delegation.prefix p × IsNear q (record { at = r; reading = told.reading }) told.delegation.lasting
      → ⊥)
      → Concerns js p q r → ⊥
  unconcerned told is not h =
      let same = one_told js r h.0 told.delegation h.2 is.0 in
      let read = one_reading js r h.1 told.reading h.3 is.1 in
      let over : Overlaps told.delegation.prefix p = subst (λ (x : Delegation). Overlaps x.prefix p) same h.4 in
      let near : IsNear q (record { at = r; reading = h.1 }) told.delegation.lasting =
      subst (λ (x : Delegation). IsNear q (record { at = r; reading = h.1 }) x.lasting) same h.5 in
      not (over, subst (λ (x : ℕ). IsNear q (record { at = r; reading = x }) told.delegation.lasting) read near)

-- ---- all lines

pub record AreNearSoFar (js : Journals) (p : Prefix) (q : Asked) (refs : List Ref) (leases : List CandidateLease) (i : ℕ)
    : Type 0 where
  pub each : (n : CandidateLease) → Has leases n → IsNearLease js p q n
  pub all : (r : Ref) → Has (take i refs) r → Concerns js p q r → (n : CandidateLease) × Has leases n × (n.line.at ≡ r)

module _ (js : Journals) (p : Prefix) (q : Asked) (refs : List Ref) where
  pub none_near : AreNearSoFar js p q refs [] 0
  none_near = record { each = λ n h. absurd (none_in n h); all = λ r h c. absurd (none_in r h) }

  pub one_near : (leases : List CandidateLease) (i : ℕ) (d : Ref) (n : CandidateLease) → i < length refs
      → IsNearAt js p q (get_or refs i d) (Some n) → AreNearSoFar js p q refs leases i
      → AreNearSoFar js p q refs (leases ++ n ∷ []) (i + 1)
  one_near leases i d n lt is h = record {
    each = λ k has. elim (Contains-push_cases leases n k has) [
      | inl old ↦ h.each k old
      | inr new ↦ subst (IsNearLease js p q) new is.0
    ];
    all = λ r has c. elim (Contains-push_cases (take i refs) (get_or refs i d) r
        (subst (λ (rs : List Ref). Has rs r) (take_more refs i d lt) has)) [
          | inl old ↦ (let k = h.all r old c in (k.0, Contains-append_left leases (n ∷ []) k.0 k.1, k.2))
          | inr new ↦ (n, Contains-push leases n, is.1 ∙ new)
        ];
  }

  pub none_more : (leases : List CandidateLease) (i : ℕ) (d : Ref) → i < length refs
      → IsNearAt js p q (get_or refs i d) None → AreNearSoFar js p q refs leases i
      → AreNearSoFar js p q refs leases (i + 1)
  none_more leases i d lt not h = record {
    each = h.each;
    all = λ r has c. elim (Contains-push_cases (take i refs) (get_or refs i d) r
        (subst (λ (rs : List Ref). Has rs r) (take_more refs i d lt) has)) [
          | inl old ↦ h.all r old c
          | inr new ↦ absurd (not (subst (Concerns js p q) (sym new) c))
        ];
  }

  pub looked : (leases : List CandidateLease) (i : ℕ) (d : Ref) (o : Option CandidateLease) → i < length refs
      → IsNearAt js p q (get_or refs i d) o → AreNearSoFar js p q refs leases i
      → AreNearSoFar js p q refs (leases ++ found_list o) (i + 1)
  looked leases i d None lt not h = subst (λ (ls : List CandidateLease). AreNearSoFar js p q refs ls (i + 1))
      (sym (append-nil leases)) (none_more leases i d lt not h)
  looked leases i d (Some n) lt is h = one_near leases i d n lt is h

  pub all_near : (leases : List CandidateLease) (i : ℕ) → length refs ≤ i → AreConcerning js p refs
      → AreNearSoFar js p q refs leases i → AreNearLeases js p q leases
  all_near leases i le concerning h = record {
    each = h.each;
    all = λ r c. h.all r (subst (λ (rs : List Ref). Has rs r) (sym (take_all i refs le))
        (concerning r c.0 c.2 c.4)) c;
  }
