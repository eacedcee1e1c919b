-- Entries that clear releases.
use Rattle.std.specs.Prelude.{◌≡◌, ℕ, ◌+◌, ◌<◌, ◌≤◌, ◌↔◌, IsTrue, Bool, false, List, Some, None, slice_get}
use Rattle.std.specs.Prelude.{length, Contains as Has}
use Rattle.std.proofs.Common.{sym, ◌∙◌, ap, subst, arith, inl, inr, get_or}
use Rattle.std.proofs.lemmas.Bool.{cases_lt}
use Rattle.std.proofs.lemmas.Option.{same_Some, slice_get-get_or, slice_get_within, get_or_from_slice_get}
use Rattle.causal_order.specs.declared.reference.Ref.{Ref}
use Rattle.causal_order.specs.declared.certificate.Piece.{Piece}
use Rattle.causal_order.specs.declared.certificate.Clear.{Clear}
use Rattle.causal_order.specs.Naming.{NamesAt}
use Rattle.causal_order.specs.Journals.{Journals}
use Rattle.causal_order.proofs.Walking.{one_earliest}
use Rattle.attribution.specs.Acceptance.{IsCleared, Discharges}
use Rattle.auditor.specs.Bounds.{IsWrittenFrom}
use Rattle.auditor.specs.Refusals.{ClearsAt}
use Rattle.auditor.proofs.Given.{Contains-get, get-Contains}
use Rattle.evidence_report.specs.declared.mark.LineReading.{LineReading}
use Rattle.evidence_report.specs.Marks.{IsEarliestMark}
use Rattle.evidence_report.specs.Pieces.{IsDischarging}

-- ---- by the mark of a chain

module _ (js : Journals) (chain : List Ref) (at : Ref) (skew moment : ℕ) where
  pub after_by_mark : (m : LineReading) (b : Bool) → IsEarliestMark js chain at (Some m) → IsTrue b ↔ moment + skew ≤ m.reading
      → IsTrue b ↔ IsWrittenFrom js chain at skew moment
  after_by_mark m b h d = (
    λ t. (m.reading, h.0, d.0 t),
    λ w. d.1 (let same = one_earliest js chain at at m.reading w.0 h.0 w.1 in let le = w.2 in omega arith),
  )

  pub never_after : IsEarliestMark js chain at None → IsTrue false ↔ IsWrittenFrom js chain at skew moment
  never_after h = (λ t. absurd (cc), λ w. absurd (h w.0 w.1))

-- ---- entries that name a release

abbrev AreNaming : Piece → Ref → List ℕ → Type 0
AreNaming p r indexes = (k : ℕ) → Has indexes k ↔ NamesAt (λ c. c.release) p.clear r k

module _ (js : Journals) (skew : ℕ) (p : Piece) (r : Ref) where
  pub discharges_at : (i : ℕ) (k : Clear) → NamesAt (λ c. c.release) p.clear r i → slice_get p.clear i ≡ Some k
      → IsCleared js skew r p.grant p.to k.why → IsDischarging js skew p r k
  discharges_at i k names at cleared =
      let same : names.0 ≡ k = same_Some names.0 k (sym names.1 ∙ at) in
      (Contains-get p.clear i k at, subst (λ (c : Clear). c.release ≡ r) same names.2, cleared)

  pub clears_not : (i : ℕ) (k : Clear) → slice_get p.clear i ≡ Some k → (IsCleared js skew r p.grant p.to k.why → ⊥)
      → ClearsAt js skew p r i → ⊥
  clears_not i k at n h = n (subst (λ (c : Clear). IsCleared js skew r p.grant p.to c.why)
      (same_Some h.0 k (sym h.1 ∙ at)) h.2)

  pub no_entry_at : (i : ℕ) → slice_get p.clear i ≡ None → ClearsAt js skew p r i → ⊥
  no_entry_at i none h = let x : None ≡ Some h.0 = sym none ∙ h.1 in cc

  -- none of the first i clears it
  pub record NoneClears (indexes : List ℕ) (i : ℕ) : Type 0 where
    pub each : (j : ℕ) (n : ℕ) → j < i → slice_get indexes j ≡ Some n → ClearsAt js skew p r n → ⊥

  pub none_clears : (indexes : List ℕ) → NoneClears indexes 0
  none_clears indexes = record { each = λ j n lt. absurd (omega arith) }

  pub one_less : (indexes : List ℕ) (i d : ℕ) → i < length indexes
      → (ClearsAt js skew p r (get_or indexes i d) → ⊥) → NoneClears indexes i → NoneClears indexes (i + 1)
  one_less indexes i d lt not h = record {
    each = λ j n less at. elim (cases_lt j i) [
      | inl before ↦ h.each j n before at
      | inr le ↦ (let same : i ≡ j = omega arith in
          let x : Some (get_or indexes i d) ≡ Some n = sym (slice_get-get_or indexes i d lt)
          ∙ (ap (slice_get indexes) same ∙ at) in
          let is : get_or indexes i d ≡ n = cc in
          λ clears. not (subst (ClearsAt js skew p r) (sym is) clears))
    ];
  }

  pub none_discharges : (indexes : List ℕ) (i : ℕ) → AreNaming p r indexes → length indexes ≤ i
      → NoneClears indexes i → Discharges js skew p r → ⊥
  none_discharges indexes i naming le h d =
      let at = get-Contains p.clear d.0 d.1 in
      let place = get-Contains indexes at.0 ((naming at.0).1 (d.0, at.2, d.2)) in
      let lt = place.1 in
      h.each place.0 at.0 (omega arith) place.2 (d.0, at.2, d.3)

module _ (p : Piece) (r : Ref) (indexes : List ℕ) (naming : AreNaming p r indexes) where
  pub none_names : slice_get indexes 0 ≡ None → (k : Clear) → Has p.clear k → k.release ≡ r → ⊥
  none_names e k has names =
      let at = get-Contains p.clear k has in
      let place = get-Contains indexes at.0 ((naming at.0).1 (k, at.2, names)) in
      elim (cases_lt 0 (length indexes)) [
        | inl some ↦ (let x : None ≡ Some (get_or indexes 0 0) = sym e ∙ slice_get-get_or indexes 0 0 some in
            absurd (cc))
        | inr none ↦ (let lt = place.1 in absurd (omega arith))
      ]

  pub named_at : (i : ℕ) → slice_get indexes 0 ≡ Some i → NamesAt (λ c. c.release) p.clear r i
  named_at i e = (naming i).0 (Contains-get indexes 0 i e)

  pub entry_there : (i : ℕ) → slice_get indexes 0 ≡ Some i → length p.clear ≤ i → ⊥
  entry_there i e le = let names = named_at i e in let lt = slice_get_within p.clear i names.0 names.1 in
      absurd (omega arith)

  pub named_entry : (i : ℕ) (k : Clear) → slice_get indexes 0 ≡ Some i → k ≡ get_or p.clear i k
      → Has p.clear k × (k.release ≡ r)
  named_entry i k e at =
      let names = named_at i e in
      let is : names.0 ≡ k = sym (get_or_from_slice_get p.clear i names.0 k names.1) ∙ sym at in (
        (i, slice_get_within p.clear i names.0 names.1, sym at),
        subst (λ (x : Clear). x.release ≡ r) is names.2,
      )
