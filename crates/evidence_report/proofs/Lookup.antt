-- References that name lines, with the lines.
use Rattle.std.specs.Prelude.{◌≡◌, ℕ, ◌+◌, ◌<◌, ◌≤◌, List, [], ◌∷◌, ◌++◌, length, Option, Some, None, slice_get}
use Rattle.std.specs.Prelude.{option_map, map, Contains as Has}
use Rattle.std.proofs.Common.{sym, ◌∙◌, ap, subst, arith, inl, inr, get_or, refl}
use Rattle.std.proofs.lemmas.Bool.{cases_lt}
use Rattle.std.proofs.lemmas.Option.{slice_get-get_or, slice_get-map, slice_get_within}
use Rattle.std.proofs.lemmas.List.{map-append}
use Rattle.std.proofs.lemmas.List.Elements.{Contains-append_left, Contains-push, Contains-push_cases}
use Rattle.journal_lines.specs.declared.line.Line.{Line}
use Rattle.causal_order.specs.declared.certificate.Certificate.{Certificate}
use Rattle.causal_order.specs.declared.reference.Ref.{Ref}
use Rattle.causal_order.specs.Journals.{Journals, Names, line_of}
use Rattle.causal_order.specs.LineOrder.{ComesBefore}
use Rattle.causal_order.proofs.Deciding.{line_names, names_line}
use Rattle.auditor.proofs.Given.{Contains-get, get-Contains}
use Rattle.evidence_report.specs.declared.piece_report.PieceReport.{PieceReport}
use Rattle.evidence_report.specs.declared.report.CitedLine.{CitedLine}
use Rattle.evidence_report.specs.Lines.{AreRising, AreOnce}
use Rattle.evidence_report.specs.Cited.{cited_by, AreCited, AreFound}
use Rattle.evidence_report.proofs.Pushed.{get_pushed}

abbrev places : List CitedLine → List Ref
places cited = map (λ k. k.at) cited

-- of the first i references those that name a line, with the line
pub record AreFoundSoFar (js : Journals) (refs : List Ref) (cited : List CitedLine) (i : ℕ) : Type 0 where
  pub all : (k : ℕ) (r : Ref) (l : Line) → k < i → slice_get refs k ≡ Some r → Names js r l
      → Has cited (record { at = r; line = l })
  pub only : (c : CitedLine) → Has cited c → Names js c.at c.line
  pub from : (c : CitedLine) → Has cited c → (k : ℕ) × (k < i) × (slice_get refs k ≡ Some c.at)
  pub rising : AreRising refs → AreRising (map (λ k. k.at) cited)

none_in : (c : CitedLine) → Has [] c → ⊥
none_in c h = let lt = h.1 in absurd (omega arith)

at_place : (r : Ref) (o : Option CitedLine) → option_map (λ k. k.at) o ≡ Some r → (c : CitedLine) × (o ≡ Some c) × (c.at ≡ r)
at_place r None e = absurd (cc)
at_place r (Some c) e = (c, refl, cc)

-- what stands at a place is cited
placed : (cited : List CitedLine) (j : ℕ) (r : Ref) → slice_get (places cited) j ≡ Some r
    → (c : CitedLine) × Has cited c × (c.at ≡ r)
placed cited j r e =
    let c = at_place r (slice_get cited j) (sym (slice_get-map (λ (k : CitedLine). k.at) cited j) ∙ e) in
    (c.0, Contains-get cited j c.0 c.1, c.2)

module _ (js : Journals) (refs : List Ref) where
  pub none_found : AreFoundSoFar js refs [] 0
  none_found = record {
    all = λ k r l lt e n. absurd (omega arith);
    only = λ c h. absurd (none_in c h);
    from = λ c h. absurd (none_in c h);
    rising = λ rising i j r s lt a b. absurd (cc);
  }

  module _ (cited : List CitedLine) (i : ℕ) (d : Ref) (lt : i < length refs) (h : AreFoundSoFar js refs cited i) where
    here : slice_get refs i ≡ Some (get_or refs i d)
    here = slice_get-get_or refs i d lt

    from_more : (c : CitedLine) → Has cited c → (k : ℕ) × (k < i + 1) × (slice_get refs k ≡ Some c.at)
    from_more c has = let f = h.from c has in (f.0, (let less = f.1 in omega arith), f.2)

    one_there : (k : ℕ) (r : Ref) → i ≤ k → k < i + 1 → slice_get refs k ≡ Some r → get_or refs i d ≡ r
    one_there k r le less e =
        let same : i ≡ k = omega arith in
        let f : Some (get_or refs i d) ≡ Some r = sym here ∙ (ap (slice_get refs) same ∙ e) in cc

    pub one_missing : None ≡ line_of js (get_or refs i d) → AreFoundSoFar js refs cited (i + 1)
    one_missing none = record {
      all = λ k r l less e names. elim (cases_lt k i) [
        | inl before ↦ h.all k r l before e names
        | inr le ↦
            let is = one_there k r le less e in
            let f : None ≡ Some l = none ∙ (ap (line_of js) is ∙ names_line js r l names) in
            absurd (cc)
      ];
      only = h.only;
      from = from_more;
      rising = h.rising;
    }

    module _ (l : Line) (is : Some l ≡ line_of js (get_or refs i d)) where
      abbrev new : CitedLine
      new = record { at = get_or refs i d; line = l }

      -- a line that is cited already comes before it
      comes_before : AreRising refs → (c : CitedLine) → Has cited c → ComesBefore c.at (get_or refs i d)
      comes_before rising c has = let f = h.from c has in rising f.0 i c.at (get_or refs i d) f.1 f.2 here

      rising_more : AreRising refs → AreRising (places (cited ++ new ∷ []))
      rising_more rising j k r s less a b =
          let spread = map-append (λ (x : CitedLine). x.at) cited (new ∷ []) in
          let first = subst (λ (rs : List Ref). slice_get rs j ≡ Some r) spread a in
          let second = subst (λ (rs : List Ref). slice_get rs k ≡ Some s) spread b in
          elim (get_pushed (places cited) (get_or refs i d) k s second) [
            | inl old ↦ elim (get_pushed (places cited) (get_or refs i d) j r first) [
              | inl older ↦ h.rising rising j k r s less older old
              | inr last ↦ (let within = slice_get_within (places cited) k s old in let at = last.0 in absurd (omega arith))
            ]
            | inr end ↦ elim (get_pushed (places cited) (get_or refs i d) j r first) [
              | inl older ↦
                  let c = placed cited j r older in
                  subst (λ (x : Ref). ComesBefore x s) c.2
                  (subst (λ (x : Ref). ComesBefore c.0.at x) end.1 (comes_before rising c.0 c.1))
              | inr last ↦ (let at = end.0 in let there = last.0 in absurd (omega arith))
            ]
          ]

      pub one_found : AreFoundSoFar js refs (cited ++ new ∷ []) (i + 1)
      one_found = record {
        all = λ k r m less e names. elim (cases_lt k i) [
          | inl before ↦ Contains-append_left cited (new ∷ []) (record { at = r; line = m })
              (h.all k r m before e names)
          | inr le ↦
              let at = one_there k r le less e in
              let f : Some l ≡ Some m = is ∙ (ap (line_of js) at ∙ names_line js r m names) in
              let line : l ≡ m = cc in
              let same : new ≡ record { at = r; line = m } = cc in
              subst (Has (cited ++ new ∷ [])) same (Contains-push cited new)
        ];
        only = λ c has. elim (Contains-push_cases cited new c has) [
          | inl old ↦ h.only c old
          | inr same ↦ subst (λ (x : CitedLine). Names js x.at x.line) same
              (line_names js (get_or refs i d) l (sym is))
        ];
        from = λ c has. elim (Contains-push_cases cited new c has) [
          | inl old ↦ from_more c old
          | inr same ↦ (i, omega arith, here ∙ ap (λ (x : CitedLine). Some x.at) same)
        ];
        rising = rising_more;
      }

  pub all_found : (cited : List CitedLine) (i : ℕ) → length refs ≤ i → AreFoundSoFar js refs cited i
      → AreFound js refs cited
  all_found cited i le h = record {
    all = λ r l has names. (let at = get-Contains refs r has in let lt = at.1 in
        h.all at.0 r l (omega arith) at.2 names);
    only = λ c has. (let f = h.from c has in (Contains-get refs f.0 c.at f.2, h.only c has));
    rising = h.rising;
  }

-- those of all that are cited
pub cited_once : (js : Journals) (c : Certificate) (pieces : List PieceReport) (refs once : List Ref)
    (cited : List CitedLine) → refs ≡ cited_by c pieces → AreOnce refs once → AreFound js once cited
    → AreCited js c pieces cited
cited_once js c pieces refs once cited is same found = record {
  all = λ r l has names. found.all r l ((same.same r).0 (subst (λ (rs : List Ref). Has rs r) (sym is) has)) names;
  only = λ k has. (let f = found.only k has in
      (subst (λ (rs : List Ref). Has rs k.at) is ((same.same k.at).1 f.0), f.1));
  once = found.rising same.rising;
}
