-- The verdict accepts exactly what is accepted, and there is no second one.
use Rattle.std.specs.Prelude.{◌≡◌, ◌≢◌, ℕ, ◌<◌, ◌≤◌, ◌⊎◌, List, [], ◌∷◌, Some, slice_get, length, All, slice_index_or}
use Rattle.std.proofs.Common.{zero, suc, arith, ap, subst, inl, inr, refl}
use Rattle.std.proofs.lemmas.Option.{slice_get_within, get_or_from_slice_get, slice_get-get_or}
use Rattle.binding_rules.specs.declared.role.Role.TheVariants.{Primary, Secondary}
use Rattle.journal_lines.specs.declared.event.Lease.{Lease}
use Rattle.causal_order.specs.declared.reference.Ref.{Ref}
use Rattle.causal_order.specs.Journals.{Journals}
use Rattle.causal_order.specs.declared.certificate.Certificate.{Certificate}
use Rattle.causal_order.specs.declared.certificate.Piece.{Piece}
use Rattle.causal_order.specs.declared.certificate.Foreign.{Foreign}
use Rattle.attribution.specs.declared.condition.TheConstants.{CONDITIONS}
use Rattle.attribution.specs.declared.condition.Condition.{Condition}
use Rattle.attribution.specs.declared.condition.Condition.TheVariants.{Moment, Shown, Tiled, Granted, Opened}
use Rattle.attribution.specs.declared.condition.Condition.TheVariants.{Discharged, Covered, Reasoned}
use Rattle.attribution.specs.declared.verdict.Verdict.{Verdict}
use Rattle.attribution.specs.declared.verdict.Verdict.TheVariants.{Accepted}
use Rattle.attribution.specs.Acceptance.{Grants, IsGranted, IsDischarged, Reaches, ReasonHolds, Tile, IsAccepted}
use Rattle.causal_order.specs.LineOrder.{IsLeast}
use Rattle.causal_order.proofs.LineOrder.{order_cases, one_least}
use Rattle.attribution.specs.FirstRefusal.{IsFirstNot, begin_at, IsTiled, CutsShort, IsUncovered, IsMet, Refuses}
use Rattle.attribution.specs.FirstRefusal.{IsVerdictBy, IsVerdict, AcceptsTheAccepted, OneVerdict}

-- a reference names one line, so it grants one lease
pub one_lease : (js : Journals) (r : Ref) (g h : Lease) → Grants js r g → Grants js r h → g ≡ h
one_lease js r g h a b = let p = a.1.1 in let q = b.1.1 in let x = a.2 in let y = b.2 in cc

-- what stands at an index of a list
pub at_index : {X : Type 0} (P : X → Type 0) (xs : List X) (k : ℕ) (x : X) → slice_get xs k ≡ Some x → All P xs → P x
at_index P xs k x at h = subst P (get_or_from_slice_get xs k x x at) (h k x (slice_get_within xs k x at))

pub all_from_get : {X : Type 0} (P : X → Type 0) (xs : List X) → ((k : ℕ) (x : X) → slice_get xs k ≡ Some x → P x)
    → All P xs
all_from_get P xs h k d lt = h k (slice_index_or xs k d) (slice_get-get_or xs k d lt)

-- Tilings, piece by piece and as a whole.
AreInPlace : ℕ → ℕ → List Piece → Type 0
AreInPlace from to ps = (k : ℕ) → k ≤ length ps
    → ((p : Piece) × (slice_get ps k ≡ Some p) × (p.from ≡ begin_at from ps k) × (p.from < p.to))
    ⊎ ((k ≡ length ps) × (begin_at from ps k ≡ to))

tile_first : (from to : ℕ) (p : Piece) (ps : List Piece) → AreInPlace from to (p ∷ ps)
    → (p.from ≡ from) × (p.from < p.to)
unfolding AreInPlace
tile_first from to p ps h = elim (h 0 (omega arith)) [
  | inl x ↦ (let e : x.0 ≡ p = cc in
      let a : x.0.from ≡ p.from = ap (λ (y : Piece). y.from) e in let b : x.0.to ≡ p.to = ap (λ (y : Piece). y.to) e in
      let u = x.2 in let v = x.3 in (cc, omega arith))
  | inr x ↦ absurd (omega arith)
]

tile_rest : (from to : ℕ) (p : Piece) (ps : List Piece) → AreInPlace from to (p ∷ ps) → AreInPlace p.to to ps
unfolding AreInPlace
tile_rest from to p ps h k le = elim (h (suc k) (omega arith)) [
  | inl x ↦ inl (x.0, x.1, x.2, x.3)
  | inr x ↦ inr (omega arith, x.1)
]

tile_from_places : (from to : ℕ) (ps : List Piece) → AreInPlace from to ps → Tile from to ps
unfolding AreInPlace
tile_from_places from to [] h = elim (h 0 (omega arith)) [ inl x ↦ absurd (cc) | inr x ↦ x.1 ]
tile_from_places from to (p ∷ ps) h = let a = tile_first from to p ps h in
    (a.0, a.1, tile_from_places p.to to ps (tile_rest from to p ps h))

places_from_tile : (from to : ℕ) (ps : List Piece) → Tile from to ps → AreInPlace from to ps
unfolding AreInPlace
places_from_tile from to [] t zero le = inr (refl, t)
places_from_tile from to [] t (suc k) le = absurd (omega arith)
places_from_tile from to (p ∷ ps) t zero le = inl (p, refl, t.0, t.1)
places_from_tile from to (p ∷ ps) t (suc k) le =
    elim (places_from_tile p.to to ps t.2 k (omega arith)) [
      | inl x ↦ inl (x.0, x.1, x.2, x.3)
      | inr x ↦ inr (omega arith, x.1)
    ]

tile_of : (c : Certificate) → IsTiled c → Tile c.from c.to c.pieces
unfolding AreInPlace
tile_of c h = tile_from_places c.from c.to c.pieces (λ k le. elim (h k le) [ inl x ↦ inl x | inr x ↦ inr (x.0, x.2) ])

some_of : (c : Certificate) → IsTiled c → c.pieces ≢ []
some_of c h e = elim (h 0 (omega arith)) [
  | inl x ↦ (let y : slice_get [] 0 ≡ Some x.0 =
      subst (λ ps. slice_get ps 0 ≡ Some x.0) e x.1 in absurd (cc))
  | inr x ↦ absurd (omega arith)
]

length_positive : {X : Type 0} (xs : List X) → xs ≢ [] → 0 < length xs
length_positive [] h = absurd (h refl)
length_positive (x ∷ xs) h = omega arith

tiled_from : (c : Certificate) → Tile c.from c.to c.pieces → c.pieces ≢ [] → IsTiled c
unfolding AreInPlace
tiled_from c t some k le = let long = length_positive c.pieces some in
    elim (places_from_tile c.from c.to c.pieces t k le) [ inl x ↦ inl x | inr x ↦ inr (x.0, omega arith, x.1) ]

-- Where a certificate is accepted, each condition is met.
not_accepted : (js : Journals) (skew transit : ℕ) (c : Certificate) (k : Condition)
    → Refuses js skew transit c k Accepted → ⊥
not_accepted js skew transit c Moment h = let e = h.0 in cc
not_accepted js skew transit c (Shown side) h = let e = h.0 in cc
not_accepted js skew transit c Tiled h = let e = h.1 in cc
not_accepted js skew transit c Granted h = let e = h.1 in cc
not_accepted js skew transit c Opened h = let e = h.0 in cc
not_accepted js skew transit c Discharged h = let e = h.2 in cc
not_accepted js skew transit c Covered h = let e = h.1 in cc
not_accepted js skew transit c Reasoned h = let e = h.1 in cc

abbrev AreMet : Journals → (skew transit : ℕ) → Certificate → List Condition → Type 0
AreMet js skew transit c [] = Unit {0}
AreMet js skew transit c (k ∷ ks) = IsMet js skew transit c k × AreMet js skew transit c ks

all_met : (js : Journals) (skew transit : ℕ) (c : Certificate) (ks : List Condition)
    → IsVerdictBy js skew transit c ks Accepted → AreMet js skew transit c ks
all_met js skew transit c [] v = tt
all_met js skew transit c (k ∷ ks) (inl h) = absurd (not_accepted js skew transit c k h)
all_met js skew transit c (k ∷ ks) (inr h) = (h.0, all_met js skew transit c ks h.1)

pub accepted_from : (js : Journals) (skew transit : ℕ) (c : Certificate) → IsVerdict js skew transit c Accepted
    → IsAccepted js skew transit c
accepted_from js skew transit c v =
    let m : AreMet js skew transit c CONDITIONS = all_met js skew transit c CONDITIONS v in
    let shown = m.1 in
    let pieces = shown.1.1 in
    let entries = pieces.1.1.1.1 in
    record {
      interval = m.0;
      closed = λ side. elim side as (λ x. Reaches js skew c x) [ Primary ↦ shown.0 | Secondary ↦ shown.1.0 ];
      tiled = tile_of c pieces.0;
      some = some_of c pieces.0;
      carried = λ k d lt. (pieces.1.0 k d lt, pieces.1.1.1.0 k d lt);
      opened = pieces.1.1.0;
      covered = entries.0;
      outside = entries.1.0;
    }

pub verdict_from : (js : Journals) (skew transit : ℕ) (c : Certificate) → IsAccepted js skew transit c
    → IsVerdict js skew transit c Accepted
verdict_from js skew transit c h =
    inr (
      h.interval,
      inr (
        h.closed Primary,
        inr (
          h.closed Secondary,
          inr (
            tiled_from c h.tiled h.some,
            inr (
              (λ k d lt. (h.carried k d lt).0),
              inr (h.opened, inr ((λ k d lt. (h.carried k d lt).1), inr (h.covered, inr (h.outside, refl)))),
            ),
          ),
        ),
      ),
    )

pub accepts_the_accepted : AcceptsTheAccepted
accepts_the_accepted js skew transit c = (accepted_from js skew transit c, verdict_from js skew transit c)

-- What comes first comes first once.
one_first : {X : Type 0} (P : X → Type 0) (xs : List X) (j k : ℕ) (x y : X) → IsFirstNot P xs j x → IsFirstNot P xs k y
    → (j ≡ k) × (x ≡ y)
one_first P xs j k x y a b = elim (order_cases j k) [
  | inl h ↦ absurd (a.1 (b.2 j x h a.0))
  | inr h ↦ elim h [ inl e ↦ (e, (let p = a.0 in let q = b.0 in cc)) | inr g ↦ absurd (b.1 (a.2 k y g b.0)) ]
]

-- a piece that a release cuts short is not discharged
pub cut_fails : (js : Journals) (skew : ℕ) (p : Piece) (r : Ref) → CutsShort js skew p r → IsDischarged js skew p → ⊥
cut_fails js skew p r cut discharged = cut.3 (discharged r cut.0 cut.1 cut.2)

-- ---- one refusal of each condition

module _ (js : Journals) (skew transit : ℕ) (c : Certificate) where
  -- what refuses isn't met
  never : (k : Condition) (v : Verdict) → Refuses js skew transit c k v → IsMet js skew transit c k → ⊥
  never Moment v f h = f.1 h
  never (Shown side) v f h = f.1 h
  never Tiled v f h = f.2.3 (h f.2.0 f.2.2)
  never Granted v f h = f.2.3.1 (at_index (IsGranted js skew transit c) c.pieces f.2.0 f.2.1 f.2.3.0 h)
  never Opened v f h = f.1 h
  never Discharged v f h = cut_fails js skew f.3.1 f.1 f.3.5.0
      (at_index (IsDischarged js skew) c.pieces f.3.0 f.3.1 f.3.3 h)
  never Covered v f h = f.2.0.2 (h f.0 f.2.0.0 f.2.0.1)
  never Reasoned v f h = f.2.3.1 (at_index (ReasonHolds js skew transit c) c.foreign f.2.0 f.2.1 f.2.3.0 h)

  same_cut : (j k : ℕ) (p q : Piece) (r s : Ref) → slice_get c.pieces j ≡ Some p → slice_get c.pieces k ≡ Some q
      → IsLeast (CutsShort js skew p) r → IsLeast (CutsShort js skew q) s → j ≡ k → r ≡ s
  same_cut j k p q r s at_j at_k a b e = let same : p ≡ q = cc in
      one_least (CutsShort js skew q) r s (subst (λ x. IsLeast (CutsShort js skew x) r) same a) b

  -- and names one thing
  one : (k : Condition) (v w : Verdict) → Refuses js skew transit c k v → Refuses js skew transit c k w → v ≡ w
  one Moment v w a b = let x = a.0 in let y = b.0 in cc
  one (Shown side) v w a b = let x = a.0 in let y = b.0 in cc
  one Tiled v w a b = elim (order_cases a.2.0 b.2.0) [
    | inl h ↦ absurd (a.2.3 (b.2.4 a.2.0 h))
    | inr h ↦ elim h [
      | inl e ↦ (let x = a.1 in let y = b.1 in let p = a.2.1 in let q = b.2.1 in
          let n : a.0 ≡ b.0 = omega arith in cc)
      | inr g ↦ absurd (b.2.3 (a.2.4 b.2.0 g))
    ]
  ]
  one Granted v w a b =
      let e = (one_first (IsGranted js skew transit c) c.pieces a.2.0 b.2.0 a.2.1 b.2.1 a.2.3 b.2.3).0 in
      let x = a.1 in let y = b.1 in let p = a.2.2 in let q = b.2.2 in let n : a.0 ≡ b.0 = omega arith in cc
  one Opened v w a b = let x = a.0 in let y = b.0 in cc
  one Discharged v w a b = elim (order_cases a.3.0 b.3.0) [
    | inl h ↦ absurd (cut_fails js skew a.3.1 a.1 a.3.5.0 (b.3.4 a.3.0 a.3.1 h a.3.3))
    | inr h ↦ elim h [
      | inl e ↦ (let r = same_cut a.3.0 b.3.0 a.3.1 b.3.1 a.1 b.1 a.3.3 b.3.3 a.3.5 b.3.5 e in let x = a.2 in
          let y = b.2 in let p = a.3.2 in let q = b.3.2 in let n : a.0 ≡ b.0 = omega arith in cc)
      | inr g ↦ absurd (cut_fails js skew b.3.1 b.1 b.3.5.0 (a.3.4 b.3.0 b.3.1 g b.3.3))
    ]
  ]
  one Covered v w a b = let e = one_least (IsUncovered js c) a.0 b.0 a.2 b.2 in let x = a.1 in let y = b.1 in cc
  one Reasoned v w a b =
      let e = (one_first (ReasonHolds js skew transit c) c.foreign a.2.0 b.2.0 a.2.1 b.2.1 a.2.3 b.2.3).1 in
      let f : a.2.1.grant ≡ b.2.1.grant = ap (λ (x : Foreign). x.grant) e in
      let x = a.1 in let y = b.1 in let p = a.2.2 in let q = b.2.2 in cc

  -- so the conditions together have one verdict
  one_by : (ks : List Condition) (v w : Verdict) → IsVerdictBy js skew transit c ks v
      → IsVerdictBy js skew transit c ks w → v ≡ w
  one_by [] v w a b = cc
  one_by (k ∷ ks) v w (inl a) (inl b) = one k v w a b
  one_by (k ∷ ks) v w (inl a) (inr b) = absurd (never k v a b.0)
  one_by (k ∷ ks) v w (inr a) (inl b) = absurd (never k w b a.0)
  one_by (k ∷ ks) v w (inr a) (inr b) = one_by ks v w a.1 b.1

pub one_verdict : OneVerdict
one_verdict js skew transit c v w a b = one_by js skew transit c CONDITIONS v w a b
