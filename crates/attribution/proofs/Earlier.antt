-- Earlier volumes, made up before a run: a first one that sends messages, and others that only close.
use Rattle.std.specs.Prelude.{◌≡◌, ℕ, ◌+◌, ◌*◌, ◌<◌, ◌≤◌, ◌⊎◌, List, [], ◌∷◌, Some, slice_get, length}
use Rattle.std.proofs.Common.{zero, suc, arith, sym, ◌∙◌, ap, subst, inl, inr, refl}
use Rattle.binding_rules.specs.declared.role.Role.{Role}
use Rattle.binding_rules.specs.declared.role.Role.TheVariants.{Primary, Secondary}
use Rattle.binding_rules.specs.Role.{partner_of}
use Rattle.binding_rules.specs.declared.message.PartnerMessage.{PartnerMessage}
use Rattle.journal_lines.specs.declared.kept.Carried.{Carried}
use Rattle.journal_lines.specs.declared.event.Lease.{Lease}
use Rattle.journal_lines.specs.declared.event.Event.{Event}
use Rattle.journal_lines.specs.declared.event.Event.TheVariants.{Grant, Send, Take, Close}
use Rattle.journal_lines.specs.declared.line.Line.{Line}
use Rattle.journal_lines.specs.Close.{until_close}
use Rattle.attribution.specs.Delegation.{of_lease}
use Rattle.attribution.specs.Volumes.{past_close, volume_at, volumes_in}
use Rattle.attribution.specs.Run.{Step, lines_of, At}
use Rattle.attribution.specs.Lawful.{IsOf, Accounted, Lawful}
use Rattle.attribution.proofs.Places.{volumes_length}

-- ---- steps

abbrev pub plain : Event → Line
plain e = record { number = 0; reading = 0; event = e }

abbrev pub before : List Event → List Line → List Line
before [] ls = ls
before (e ∷ es) ls = plain e ∷ before es ls

abbrev pub early : Role → List Event → List Step → List Step
early side [] run = run
early side (e ∷ es) run = record { side = side; moment = 0; line = plain e } ∷ early side es run

pub lines_same : (side : Role) (es : List Event) (run : List Step)
    → lines_of side (early side es run) ≡ before es (lines_of side run)
lines_same side [] run = refl
lines_same Primary (e ∷ es) run = ap (λ ls. plain e ∷ ls) (lines_same Primary es run)
lines_same Secondary (e ∷ es) run = ap (λ ls. plain e ∷ ls) (lines_same Secondary es run)

pub lines_other : (side : Role) (es : List Event) (run : List Step)
    → lines_of (partner_of side) (early side es run) ≡ lines_of (partner_of side) run
lines_other side [] run = refl
lines_other Primary (e ∷ es) run = lines_other Primary es run
lines_other Secondary (e ∷ es) run = lines_other Secondary es run

-- a step is a made-up one, or one of the run
abbrev pub Split : Role → List Event → List Step → ℕ → Step → Type 0
Split side es run i s = ((s.side ≡ side) × (slice_get es i ≡ Some s.line.event) × (s.line.reading ≡ 0) × (s.moment ≡ 0)
    × (i < length es)) ⊎ ((j : ℕ) × (i ≡ length es + j) × At run j s)

pub split : (side : Role) (es : List Event) (run : List Step) (i : ℕ) (s : Step) → At (early side es run) i s
    → Split side es run i s
split side [] run i s at = inr (i, omega arith, at)
split side (e ∷ es) run zero s at =
    let same : record { side = side; moment = 0; line = plain e } ≡ s = cc in
    inl (
      sym (ap (λ (x : Step). x.side) same),
      ap (λ (x : Step). Some x.line.event) same,
      sym (ap (λ (x : Step). x.line.reading) same),
      sym (ap (λ (x : Step). x.moment) same),
      omega arith,
    )
split side (e ∷ es) run (suc i) s at = elim (split side es run i s at) [
  | inl h ↦ (let lt = h.4 in inl (h.0, h.1, h.2, h.3, omega arith))
  | inr h ↦ (let n = h.1 in inr (h.0, omega arith, h.2))
]

pub later_at : (side : Role) (es : List Event) (run : List Step) (j : ℕ) (s : Step) → At run j s
    → At (early side es run) (length es + j) s
later_at side [] run j s at = let e : 0 + j ≡ j = omega arith in rw e at
later_at side (x ∷ es) run j s at = let e : length (x ∷ es) + j ≡ suc (length es + j) = omega arith in
    rw e (later_at side es run j s at)

pub event_at : (side : Role) (es : List Event) (run : List Step) (k : ℕ) (e : Event) → slice_get es k ≡ Some e
    → At (early side es run) k (record { side = side; moment = 0; line = plain e })
event_at side [] run k e at = absurd (cc)
event_at side (x ∷ es) run zero e at = let same : x ≡ e = cc in
    ap (λ y. Some (record { side = side; moment = 0; line = plain y })) same
event_at side (x ∷ es) run (suc k) e at = event_at side es run k e at

abbrev pub InTime : List Step → Type 0
InTime run = (i j : ℕ) (s t : Step) → i ≤ j → At run i s → At run j t → s.moment ≤ t.moment

pub early_in_time : (side : Role) (es : List Event) (run : List Step) → InTime run → InTime (early side es run)
early_in_time side [] run h i j s t le a b = h i j s t le a b
early_in_time side (e ∷ es) run h zero j s t le a b =
    let same : record { side = side; moment = 0; line = plain e } ≡ s = cc in
    let m = ap (λ (x : Step). x.moment) same in
    omega arith
early_in_time side (e ∷ es) run h (suc i) zero s t le a b = absurd (omega arith)
early_in_time side (e ∷ es) run h (suc i) (suc j) s t le a b = early_in_time side es run h i j s t (omega arith) a b

-- ---- volumes

abbrev pub closing : ℕ → List Event
closing zero = []
closing (suc n) = Close ∷ closing n

abbrev pub sending : List PartnerMessage → List Event → List Event
sending [] es = es
sending (m ∷ ms) es = Send m ∷ sending ms es

-- what makes so many volumes, the first of which sends these messages
abbrev pub events : ℕ → List PartnerMessage → List Event
events zero ms = []
events (suc n) ms = sending ms (closing (suc n))

NoTake : List Event → Type 0
NoTake es = (k : ℕ) (m : PartnerMessage) → slice_get es k ≡ Some (Take m) → ⊥

closing_takes : (n k : ℕ) (m : PartnerMessage) → slice_get (closing n) k ≡ Some (Take m) → ⊥
closing_takes zero k m at = cc
closing_takes (suc n) zero m at = cc
closing_takes (suc n) (suc k) m at = closing_takes n k m at

sending_takes : (ms : List PartnerMessage) (n k : ℕ) (m : PartnerMessage)
    → slice_get (sending ms (closing n)) k ≡ Some (Take m) → ⊥
sending_takes [] n k m at = closing_takes n k m at
sending_takes (x ∷ ms) n zero m at = cc
sending_takes (x ∷ ms) n (suc k) m at = sending_takes ms n k m at

pub takes_nothing : (n : ℕ) (ms : List PartnerMessage) (k : ℕ) (m : PartnerMessage)
    → slice_get (events n ms) k ≡ Some (Take m) → ⊥
takes_nothing zero ms k m at = cc
takes_nothing (suc n) ms k m at = sending_takes ms (suc n) k m at

sending_sends : (ms : List PartnerMessage) (es : List Event) (k : ℕ) (m : PartnerMessage) → slice_get ms k ≡ Some m
    → slice_get (sending ms es) k ≡ Some (Send m)
sending_sends [] es k m at = absurd (cc)
sending_sends (x ∷ ms) es zero m at = let e : x ≡ m = cc in ap (λ y. Some (Send y)) e
sending_sends (x ∷ ms) es (suc k) m at = sending_sends ms es k m at

pub sends_each : (n : ℕ) (ms : List PartnerMessage) (k : ℕ) (m : PartnerMessage) → 0 < n → slice_get ms k ≡ Some m
    → slice_get (events n ms) k ≡ Some (Send m)
sends_each zero ms k m some at = absurd (omega arith)
sends_each (suc n) ms k m some at = sending_sends ms (closing (suc n)) k m at

opening : List PartnerMessage → List Line
opening ms = before (sending ms (Close ∷ [])) []

module _ (ms : List PartnerMessage) (ls : List Line) (whole : until_close ls ≡ ls) where
  closing_at : (n : ℕ) → volume_at n (before (closing n) ls) ≡ ls
  closing_at zero = whole
  closing_at (suc n) = closing_at n

  past_sending : (xs : List PartnerMessage) (es : List Event)
      → past_close (before (sending xs (Close ∷ es)) ls) ≡ before es ls
  past_sending [] es = refl
  past_sending (x ∷ xs) es = past_sending xs es

  until_sending : (xs : List PartnerMessage) (es : List Event)
      → until_close (before (sending xs (Close ∷ es)) ls) ≡ opening xs
  unfolding opening
  until_sending [] es = refl
  until_sending (x ∷ xs) es = ap (λ zs. plain (Send x) ∷ zs) (until_sending xs es)

  pub volume_left : (n : ℕ) → volume_at n (before (events n ms) ls) ≡ ls
  volume_left zero = whole
  volume_left (suc n) = ap (volume_at n) (past_sending ms (closing n)) ∙ closing_at n

  closing_index : (n i : ℕ) (v : List Line) → slice_get (volumes_in (suc n) (before (closing n) ls)) i ≡ Some v
      → ((i < n) × (v ≡ plain Close ∷ [])) ⊎ ((i ≡ n) × (v ≡ ls))
  closing_index zero zero v at = let e : until_close ls ≡ v = cc in inr (refl, sym e ∙ whole)
  closing_index zero (suc i) v at = absurd (cc)
  closing_index (suc n) zero v at = let e : plain Close ∷ [] ≡ v = cc in inl (omega arith, sym e)
  closing_index (suc n) (suc i) v at = elim (closing_index n i v at) [
    | inl h ↦ (let a = h.0 in inl (omega arith, h.1))
    | inr h ↦ (let a = h.0 in inr (omega arith, h.1))
  ]

  -- which volume is at an index
  abbrev Which : ℕ → ℕ → List Line → Type 0
  Which n i v = ((i < n) × (i ≡ 0) × (v ≡ opening ms)) ⊎ (((i < n) × (v ≡ plain Close ∷ [])) ⊎ ((i ≡ n) × (v ≡ ls)))

  which : (n i : ℕ) (v : List Line) → slice_get (volumes_in (suc n) (before (events n ms) ls)) i ≡ Some v → Which n i v
  which zero zero v at = let e : until_close ls ≡ v = cc in inr (inr (refl, sym e ∙ whole))
  which zero (suc i) v at = absurd (cc)
  which (suc n) zero v at =
      let e : until_close (before (sending ms (Close ∷ closing n)) ls) ≡ v = cc in
      inl (omega arith, refl, sym e ∙ until_sending ms (closing n))
  which (suc n) (suc i) v at =
      elim (closing_index n i v (subst (λ xs. slice_get (volumes_in (suc n) xs) i ≡ Some v)
      (past_sending ms (closing n)) at)) [
        | inl h ↦ (let a = h.0 in inr (inl (omega arith, h.1)))
        | inr h ↦ (let a = h.0 in inr (inr (omega arith, h.1)))
      ]

  opening_sends : (xs : List PartnerMessage) (j : ℕ) (l : Line) (x : PartnerMessage)
      → slice_get (opening xs) j ≡ Some l → l.event ≡ Send x → slice_get xs j ≡ Some x
  unfolding opening
  opening_sends [] zero l x at is = let e : plain Close ≡ l = cc in let f = ap (λ (y : Line). y.event) e ∙ is in
      absurd (cc)
  opening_sends [] (suc j) l x at is = absurd (cc)
  opening_sends (y ∷ xs) zero l x at is = let e : plain (Send y) ≡ l = cc in
      let f : Send y ≡ Send x = ap (λ (z : Line). z.event) e ∙ is in cc
  opening_sends (y ∷ xs) (suc j) l x at is = opening_sends xs j l x at is

  opening_grants : (xs : List PartnerMessage) (j : ℕ) (l : Line) (g : Lease) → slice_get (opening xs) j ≡ Some l
      → l.event ≡ Grant g → ⊥
  unfolding opening
  opening_grants [] zero l g at is = let e : plain Close ≡ l = cc in let f = ap (λ (y : Line). y.event) e ∙ is in cc
  opening_grants [] (suc j) l g at is = cc
  opening_grants (y ∷ xs) zero l g at is = let e : plain (Send y) ≡ l = cc in
      let f = ap (λ (z : Line). z.event) e ∙ is in cc
  opening_grants (y ∷ xs) (suc j) l g at is = opening_grants xs j l g at is

  closed_event : (j : ℕ) (l : Line) → slice_get (plain Close ∷ []) j ≡ Some l → l.event ≡ Close
  closed_event zero l at = let e : plain Close ≡ l = cc in sym (ap (λ (y : Line). y.event) e)
  closed_event (suc j) l at = absurd (cc)

  -- what sends, and what grants
  sends_of : (n i j : ℕ) (v : List Line) (l : Line) (x : PartnerMessage)
      → slice_get (volumes_in (suc n) (before (events n ms) ls)) i ≡ Some v → slice_get v j ≡ Some l → l.event ≡ Send x
      → ((i ≡ 0) × (i < n) × (slice_get ms j ≡ Some x)) ⊎ ((i ≡ n) × (slice_get ls j ≡ Some l))
  sends_of n i j v l x at here is = elim (which n i v at) [
    | inl h ↦ inl (h.1, h.0, opening_sends ms j l x (subst (λ ys. slice_get ys j ≡ Some l) h.2 here) is)
    | inr h ↦ elim h [
      | inl h ↦ (let c = closed_event j l (subst (λ ys. slice_get ys j ≡ Some l) h.1 here) in absurd (cc))
      | inr h ↦ inr (h.0, subst (λ ys. slice_get ys j ≡ Some l) h.1 here)
    ]
  ]

  grants_of : (n i j : ℕ) (v : List Line) (l : Line) (g : Lease)
      → slice_get (volumes_in (suc n) (before (events n ms) ls)) i ≡ Some v → slice_get v j ≡ Some l → l.event ≡ Grant g
      → (i ≡ n) × (slice_get ls j ≡ Some l)
  grants_of n i j v l g at here is = elim (which n i v at) [
    | inl h ↦ absurd (opening_grants ms j l g (subst (λ ys. slice_get ys j ≡ Some l) h.2 here) is)
    | inr h ↦ elim h [
      | inl h ↦ (let c = closed_event j l (subst (λ ys. slice_get ys j ≡ Some l) h.1 here) in absurd (cc))
      | inr h ↦ (h.0, subst (λ ys. slice_get ys j ≡ Some l) h.1 here)
    ]
  ]

  index_within : (n i : ℕ) (v : List Line) → slice_get (volumes_in (suc n) (before (events n ms) ls)) i ≡ Some v → i ≤ n
  index_within n i v at = elim (which n i v at) [
    | inl h ↦ (let a = h.0 in omega arith)
    | inr h ↦ elim h [ inl h ↦ (let a = h.0 in omega arith) | inr h ↦ (let a = h.0 in omega arith) ]
  ]

  module _ (lawful : Lawful (ls ∷ []))
      (apart : (i k : ℕ) (x y : PartnerMessage) (l : Line) → slice_get ms i ≡ Some x → slice_get ls k ≡ Some l
      → l.event ≡ Send y → y.serial ≡ x.serial → ⊥) where
    pub made_lawful : (n : ℕ) → Lawful (volumes_in (suc n) (before (events n ms) ls))
    made_lawful n = record { once = once; finite = finite; accounted = accounted } where
      once : (a b j k : ℕ) (v w : List Line) (l o : Line) (x y : PartnerMessage)
          → b + 1 ≡ length (volumes_in (suc n) (before (events n ms) ls))
          → slice_get (volumes_in (suc n) (before (events n ms) ls)) a ≡ Some v
          → slice_get (volumes_in (suc n) (before (events n ms) ls)) b ≡ Some w
          → slice_get v j ≡ Some l → l.event ≡ Send x → slice_get w k ≡ Some o → o.event ≡ Send y → x.serial ≡ y.serial
          → (a ≡ b) × (j ≡ k)
      once a b j k v w l o x y last at_a at_b at_j is_x at_k is_y same =
          let len = volumes_length (suc n) (before (events n ms) ls) in
          elim (sends_of n b k w o y at_b at_k is_y) [
            | inl g ↦ (let less = g.1 in absurd (omega arith))
            | inr g ↦ elim (sends_of n a j v l x at_a at_j is_x) [
              | inl h ↦ absurd (apart j k x y o h.2 g.1 is_y (sym same))
              | inr h ↦ (h.0 ∙ sym g.0, (lawful.once 0 0 j k ls ls l o x y refl refl refl h.1 is_x g.1 is_y same).1)
            ]
          ]

      finite : (a k : ℕ) (v : List Line) (l : Line) (g : Lease)
          → slice_get (volumes_in (suc n) (before (events n ms) ls)) a ≡ Some v → slice_get v k ≡ Some l
          → l.event ≡ Grant g → g.valid ≤ 31536000
      finite a k v l g at here is = lawful.finite 0 k ls l g refl (grants_of n a k v l g at here is).1 is

      accounted : (m a k : ℕ) (v w : List Line) (l : Line) (g : Lease) (c : Carried) → a < m
          → slice_get (volumes_in (suc n) (before (events n ms) ls)) a ≡ Some v
          → slice_get (volumes_in (suc n) (before (events n ms) ls)) m ≡ Some w
          → slice_get v k ≡ Some l → l.event ≡ Grant g → IsOf c (of_lease g) → c.end ≡ l.reading + 1000 * g.valid
          → Accounted (volumes_in (suc n) (before (events n ms) ls)) a k m w c
      accounted m a k v w l g c lt at_a at_m here is of ends =
          let last = (grants_of n a k v l g at_a here is).0 in
          let top = index_within n m w at_m in
          absurd (omega arith)
