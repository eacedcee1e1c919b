-- A close step is put behind a step of a run: who holds what stays the same.
use Rattle.std.specs.Prelude.{◌≡◌, ℕ, ◌+◌, ◌*◌, ◌<◌, ◌≤◌, ◌⊎◌, Bool, true, false, List, [], ◌∷◌, Some, slice_get, map}
use Rattle.std.specs.Prelude.{filter, if◌then◌else◌}
use Rattle.std.proofs.Common.{zero, suc, arith, sym, ◌∙◌, ap, subst, inl, inr, refl}
use Rattle.binding_rules.specs.declared.role.Role.{Role}
use Rattle.binding_rules.specs.Role.{is_side}
use Rattle.journal_lines.specs.declared.event.Event.TheVariants.{Grant, Release, Close}
use Rattle.journal_lines.specs.declared.event.Lease.{Lease}
use Rattle.causal_order.specs.declared.certificate.Certificate.{Certificate}
use Rattle.attribution.specs.Run.{Step, lines_of, At, StartInTime, IsReleasedBy, IsValidAt, infinity}
use Rattle.attribution.specs.Laws.{count}
use Rattle.attribution.specs.Acceptance.{IsTrueIn}
use Rattle.attribution.proofs.Places.{side_refl}

-- an item behind the one at an index
abbrev pub behind : {X : Type 0} → ℕ → X → List X → List X
behind p x [] = []
behind zero x (y ∷ ys) = y ∷ x ∷ ys
behind (suc p) x (y ∷ ys) = y ∷ behind p x ys

-- where the others stand then, and where they stood
abbrev pub up : ℕ → ℕ → ℕ
up p zero = zero
up zero (suc i) = suc (suc i)
up (suc p) (suc i) = suc (up p i)

abbrev pub down : ℕ → ℕ → ℕ
down p zero = zero
down zero (suc i) = i
down (suc p) (suc i) = suc (down p i)

pub down_up : (p i : ℕ) → down p (up p i) ≡ i
down_up p zero = refl
down_up zero (suc i) = refl
down_up (suc p) (suc i) = ap suc (down_up p i)

pub up_is : (p i : ℕ) → ((i ≤ p) × (up p i ≡ i)) ⊎ ((p < i) × (up p i ≡ suc i))
up_is p zero = inl (omega arith, refl)
up_is zero (suc i) = inr (omega arith, refl)
up_is (suc p) (suc i) = elim (up_is p i) [
  | inl h ↦ inl ((let x = h.0 in omega arith), ap suc h.1)
  | inr h ↦ inr ((let x = h.0 in omega arith), ap suc h.1)
]

pub up_lt : (p i j : ℕ) → i < j → up p i < up p j
up_lt p i j lt = elim (up_is p i) [
  | inl a ↦ elim (up_is p j) [
    | inl b ↦ (let x = a.1 in let y = b.1 in omega arith)
    | inr b ↦ (let x = a.1 in let y = b.1 in omega arith)
  ]
  | inr a ↦ elim (up_is p j) [
    | inl b ↦ (let x = a.0 in let y = b.0 in absurd (omega arith))
    | inr b ↦ (let x = a.1 in let y = b.1 in omega arith)
  ]
]

pub lt_up : (p i j : ℕ) → up p i < up p j → i < j
lt_up p i j lt = elim (up_is p i) [
  | inl a ↦ elim (up_is p j) [
    | inl b ↦ (let x = a.1 in let y = b.1 in omega arith)
    | inr b ↦ (let x = a.0 in let y = b.0 in omega arith)
  ]
  | inr a ↦ elim (up_is p j) [
    | inl b ↦ (let x = a.0 in let y = b.0 in let z = a.1 in let w = b.1 in
        absurd (omega arith))
    | inr b ↦ (let x = a.1 in let y = b.1 in omega arith)
  ]
]

pub le_up : (p i j : ℕ) → up p i ≤ up p j → i ≤ j
le_up p i j le = elim (up_is p i) [
  | inl a ↦ elim (up_is p j) [
    | inl b ↦ (let x = a.1 in let y = b.1 in omega arith)
    | inr b ↦ (let x = a.0 in let y = b.0 in omega arith)
  ]
  | inr a ↦ elim (up_is p j) [
    | inl b ↦ (let x = a.0 in let y = b.0 in let z = a.1 in let w = b.1 in
        absurd (omega arith))
    | inr b ↦ (let x = a.1 in let y = b.1 in omega arith)
  ]
]

pub up_past : (p i : ℕ) → up p i ≤ suc p → i ≤ p
up_past p i le = elim (up_is p i) [ inl a ↦ a.0 | inr a ↦ (let x = a.1 in let y = a.0 in absurd (omega arith)) ]

pub past_up : (p i : ℕ) → suc p ≤ up p i → p ≤ i
past_up p i le = elim (up_is p i) [
  | inl a ↦ (let x = a.1 in let y = a.0 in absurd (omega arith))
  | inr a ↦ (let y = a.0 in omega arith)
]

-- the others stand there, and nothing else does
pub at_up : {X : Type 0} (p : ℕ) (x : X) (ys : List X) (i : ℕ) (y : X) → slice_get ys i ≡ Some y
    → slice_get (behind p x ys) (up p i) ≡ Some y
at_up p x [] i y h = absurd (cc)
at_up zero x (z ∷ zs) zero y h = h
at_up zero x (z ∷ zs) (suc i) y h = h
at_up (suc p) x (z ∷ zs) zero y h = h
at_up (suc p) x (z ∷ zs) (suc i) y h = at_up p x zs i y h

abbrev pub IsOther : {X : Type 0} → ℕ → List X → ℕ → X → Type 0
IsOther p ys j y = (i : ℕ) × (j ≡ up p i) × (slice_get ys i ≡ Some y)

other_on : {X : Type 0} (p : ℕ) (x z : X) (zs : List X) (j : ℕ) (y : X) → ((j ≡ suc p) × (y ≡ x)) ⊎ IsOther p zs j y
    → ((suc j ≡ suc (suc p)) × (y ≡ x)) ⊎ IsOther (suc p) (z ∷ zs) (suc j) y
other_on p x z zs j y (inl h) = inl (ap suc h.0, h.1)
other_on p x z zs j y (inr h) = inr (suc h.0, ap suc h.1, h.2)

pub at_down : {X : Type 0} (p : ℕ) (x : X) (ys : List X) (j : ℕ) (y : X) → slice_get (behind p x ys) j ≡ Some y
    → ((j ≡ suc p) × (y ≡ x)) ⊎ IsOther p ys j y
at_down p x [] j y h = absurd (cc)
at_down zero x (z ∷ zs) zero y h = inr (zero, refl, h)
at_down zero x (z ∷ zs) (suc zero) y h = inl (refl, cc)
at_down zero x (z ∷ zs) (suc (suc i)) y h = inr (suc i, refl, h)
at_down (suc p) x (z ∷ zs) zero y h = inr (zero, refl, h)
at_down (suc p) x (z ∷ zs) (suc j) y h = other_on p x z zs j y (at_down p x zs j y h)

-- The lines of the step's side have its line behind those up to the place ..
lines_by : (x : Step) (side : Role) (p : ℕ) (s : Step) (ss : List Step) (b : Bool)
    → lines_of side (behind p x ss) ≡ behind (count side ss p) x.line (lines_of side ss)
    → map (λ (z : Step). z.line) (if b then s ∷ filter (λ z. is_side side z.side) (behind p x ss) else filter
    (λ z. is_side side z.side) (behind p x ss))
    ≡ behind ((if b then 1 else 0) + count side ss p) x.line
    (map (λ (z : Step). z.line) (if b then s ∷ filter (λ z. is_side side z.side) ss else filter
    (λ z. is_side side z.side) ss))
lines_by x side p s ss true h = let e : 1 + count side ss p ≡ suc (count side ss p) = omega arith in
    rw e (ap (λ ls. s.line ∷ ls) h)
lines_by x side p s ss false h = let e : 0 + count side ss p ≡ count side ss p = omega arith in rw e h

pub lines_behind : (x : Step) (side : Role) (p : ℕ) (run : List Step) (s : Step) → is_side side x.side ≡ true
    → At run p s → s.side ≡ side
    → lines_of side (behind p x run) ≡ behind (count side run p) x.line (lines_of side run)
lines_behind x side p [] s mine at of = absurd (cc)
lines_behind x side zero (t ∷ ts) s mine at of =
    let e : t ≡ s = cc in
    let q : is_side side t.side ≡ true = subst (λ (r : Role). is_side side r ≡ true)
    (sym (ap (λ (z : Step). z.side) e ∙ of)) (side_refl side) in
    rw (q, mine) refl
lines_behind x side (suc p) (t ∷ ts) s mine at of =
    lines_by x side p t ts (is_side side t.side) (lines_behind x side p ts s mine at of)

-- .. and the other's are the same
lines_same_by : (x : Step) (side : Role) (p : ℕ) (s : Step) (ss : List Step) (b : Bool)
    → lines_of side (behind p x ss) ≡ lines_of side ss
    → map (λ (z : Step). z.line) (if b then s ∷ filter (λ z. is_side side z.side) (behind p x ss) else filter
    (λ z. is_side side z.side) (behind p x ss))
    ≡ map (λ (z : Step). z.line) (if b then s ∷ filter (λ z. is_side side z.side) ss else filter
    (λ z. is_side side z.side) ss)
lines_same_by x side p s ss true h = ap (λ ls. s.line ∷ ls) h
lines_same_by x side p s ss false h = h

pub lines_same : (x : Step) (side : Role) (p : ℕ) (run : List Step) → is_side side x.side ≡ false
    → lines_of side (behind p x run) ≡ lines_of side run
lines_same x side p [] other = refl
lines_same x side zero (t ∷ ts) other = rw other refl
lines_same x side (suc p) (t ∷ ts) other =
    lines_same_by x side p t ts (is_side side t.side) (lines_same x side p ts other)

pub count_same : (x : Step) (side : Role) (p : ℕ) (run : List Step) (i : ℕ) → is_side side x.side ≡ false
    → count side (behind p x run) (up p i) ≡ count side run i
count_same x side p [] i other = refl
count_same x side zero (t ∷ ts) zero other = refl
count_same x side zero (t ∷ ts) (suc i) other = rw other (omega arith)
count_same x side (suc p) (t ∷ ts) zero other = refl
count_same x side (suc p) (t ∷ ts) (suc i) other = let h = count_same x side p ts i other in omega arith

pub count_more : (x : Step) (side : Role) (p : ℕ) (run : List Step) (s : Step) (i : ℕ) → is_side side x.side ≡ true
    → At run p s → p < i → count side (behind p x run) (up p i) ≡ suc (count side run i)
count_more x side p [] s i mine at lt = absurd (cc)
count_more x side zero (t ∷ ts) s zero mine at lt = absurd (omega arith)
count_more x side zero (t ∷ ts) s (suc i) mine at lt = rw mine (omega arith)
count_more x side (suc p) (t ∷ ts) s zero mine at lt = absurd (omega arith)
count_more x side (suc p) (t ∷ ts) s (suc i) mine at lt = let h = count_more x side p ts s i mine at (omega arith) in
    omega arith

-- ---- who holds what

module _ (p : ℕ) (x : Step) (closes : x.line.event ≡ Close) (run : List Step) (starts : ℕ → ℕ) where
  -- where each grant starts in the new run
  abbrev pub starts_behind : ℕ → ℕ
  starts_behind j = starts (down p j)

  start_is : (j i : ℕ) → j ≡ up p i → starts_behind j ≡ starts i
  start_is j i e = ap starts (ap (down p) e ∙ down_up p i)

  grant_stood : (j : ℕ) (s : Step) (g : Lease) → At (behind p x run) j s → s.line.event ≡ Grant g → IsOther p run j s
  grant_stood j s g at grants = elim (at_down p x run j s at) [
    | inl h ↦ (let e : Close ≡ Grant g = sym (ap (λ (z : Step). z.line.event) h.1 ∙ closes) ∙ grants in absurd (cc))
    | inr h ↦ h
  ]

  pub in_time_behind : (transit : ℕ) → StartInTime transit run starts
      → StartInTime transit (behind p x run) starts_behind
  in_time_behind transit reaches j s g at grants =
      let o = grant_stood j s g at grants in
      let r = reaches o.0 s g o.2 grants in
      let a = r.0 in
      let b = r.1 in
      let e = start_is j o.0 o.1 in
      (omega arith, omega arith)

  released_up : (i : ℕ) (g : Lease) (m : ℕ) → IsReleasedBy run i g m → IsReleasedBy (behind p x run) (up p i) g m
  released_up i g m r = (up p r.0, r.1, up_lt p i r.0 r.2, at_up p x run r.0 r.1 r.3, r.4, r.5)

  released_down : (i : ℕ) (g : Lease) (m : ℕ) → IsReleasedBy (behind p x run) (up p i) g m → IsReleasedBy run i g m
  released_down i g m r = elim (at_down p x run r.0 r.1 r.3) [
    | inl h ↦ (let e : Close ≡ Release g.client g.iaid g.prefix =
        sym (ap (λ (z : Step). z.line.event) h.1 ∙ closes) ∙ r.4 in absurd (cc))
    | inr h ↦ (h.0, r.1, lt_up p i h.0 (let a = r.2 in let e = h.1 in omega arith), h.2, r.4, r.5)
  ]

  -- a lease that is valid is valid in the new run ..
  pub valid_up : (i : ℕ) (g : Lease) (m : ℕ) → IsValidAt run starts i g m
      → IsValidAt (behind p x run) starts_behind (up p i) g m
  valid_up i g m v =
      let e = start_is (up p i) i refl in
      let b = v.begun in
      let ends : (g.valid ≡ infinity) ⊎ (m < starts_behind (up p i) + 1000 * g.valid) =
      elim v.lasts [ inl y ↦ inl y | inr y ↦ inr (omega arith) ] in
      record {
        step = v.step;
        here = at_up p x run i v.step v.here;
        grants = v.grants;
        begun = omega arith;
        lasts =
            ends;
        kept = λ r. v.kept (released_down i g m r);
      }

  -- .. and one that is valid there was valid
  pub valid_down : (j : ℕ) (g : Lease) (m : ℕ) → IsValidAt (behind p x run) starts_behind j g m
      → (i : ℕ) × IsValidAt run starts i g m
  valid_down j g m v =
      let o = grant_stood j v.step g v.here v.grants in
      let e = start_is j o.0 o.1 in
      let b = v.begun in
      let ends : (g.valid ≡ infinity) ⊎ (m < starts o.0 + 1000 * g.valid) =
      elim v.lasts [ inl y ↦ inl y | inr y ↦ inr (omega arith) ] in (
        o.0,
        record {
          step = v.step;
          here = o.2;
          grants = v.grants;
          begun = omega arith;
          lasts = ends;
          kept =
              λ r. v.kept (subst (λ k. IsReleasedBy (behind p x run) k g m) (sym o.1) (released_up o.0 g m r));
        },
      )

  -- what is true in the new run was true
  pub true_down : (c : Certificate) → IsTrueIn (behind p x run) starts_behind c → IsTrueIn run starts c
  true_down c t = record {
    held = λ m ge lt. (let h = t.held m ge lt in let v = valid_down h.0 h.1 m h.2 in (v.0, h.1, v.1, h.3, h.4));
    alone = λ m address client ge lt mine h. t.alone m address client ge lt mine (
      up p h.0,
      h.1,
      valid_up h.0 h.1 m h.2,
      h.3,
      h.4,
    );
  }
