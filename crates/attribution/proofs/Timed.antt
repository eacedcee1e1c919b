-- A run made of an order of two journals' lines: as the moment of each line the greatest reading so far, less the skew.
use Rattle.std.specs.Prelude.{◌≡◌, ℕ, ◌+◌, ◌-◌, ◌<◌, ◌≤◌, ◌⊎◌, max, Bool, true, false, List, [], ◌∷◌, Some, slice_get}
use Rattle.std.specs.Prelude.{map, filter, if◌then◌else◌}
use Rattle.std.proofs.Common.{zero, suc, arith, sym, ◌∙◌, ap, subst, inl, inr, refl}
use Rattle.std.proofs.lemmas.Bool.{cases_lt}
use Rattle.std.proofs.Math.Nat.{le-max_right, le-max_left}
use Rattle.binding_rules.specs.declared.role.Role.{Role}
use Rattle.binding_rules.specs.declared.role.Role.TheVariants.{Primary, Secondary}
use Rattle.binding_rules.specs.Role.{partner_of, is_side}
use Rattle.binding_rules.specs.declared.message.PartnerMessage.{PartnerMessage}
use Rattle.journal_lines.specs.declared.event.Event.TheVariants.{Send, Take}
use Rattle.journal_lines.specs.declared.line.Line.{Line}
use Rattle.journal_lines.specs.Close.{until_close}
use Rattle.causal_order.specs.Journals.{Journals, journal_of, volume_of, Names}
use Rattle.attribution.specs.Volumes.{volume_at, volumes_in}
use Rattle.attribution.specs.Run.{Step, lines_of, At, IsWithin}
use Rattle.attribution.specs.Laws.{count}
use Rattle.attribution.specs.Clocks.{FitsClocks, NoneIsEarly}
use Rattle.attribution.proofs.Orders.{Written, lines_in, IsPassedOver, IsOrder, IsHeldUp, PlacesLesserFirst, NeverFalls}
use Rattle.attribution.proofs.Orders.{AreFirst}
use Rattle.attribution.proofs.Places.{line_at, count_le}

-- the steps, where `top` is the greatest reading before them
timed : ℕ → ℕ → List Written → List Step
timed skew top [] = []
timed skew top (w ∷ ws) = record { side = w.side; moment = max top w.line.reading - skew; line = w.line }
    ∷ timed skew (max top w.line.reading) ws

lines_by : (skew top : ℕ) (w : Written) (ws : List Written) (side : Role) (b : Bool)
    → lines_of side (timed skew (max top w.line.reading) ws) ≡ lines_in side ws
    → map (λ (x : Step). x.line) (if b then record {
      side = w.side;
      moment = max top w.line.reading - skew;
      line =
          w.line;
    } ∷ filter (λ (x : Step). is_side side x.side) (timed skew (max top w.line.reading) ws) else filter
    (λ (x : Step). is_side side x.side) (timed skew (max top w.line.reading) ws))
    ≡ map (λ (x : Written). x.line) (if b then w ∷ filter (λ (x : Written). is_side side x.side) ws else filter
    (λ (x : Written). is_side side x.side) ws)
lines_by skew top w ws side true h = ap (λ ls. w.line ∷ ls) h
lines_by skew top w ws side false h = h

lines_are : (skew top : ℕ) (ws : List Written) (side : Role) → lines_of side (timed skew top ws) ≡ lines_in side ws
unfolding timed
lines_are skew top [] side = refl
lines_are skew top (w ∷ ws) side = lines_by skew top w ws side (is_side side w.side)
    (lines_are skew (max top w.line.reading) ws side)

-- step i is the line at place i of the order
written_at : (skew top : ℕ) (ws : List Written) (i : ℕ) (s : Step) → At (timed skew top ws) i s
    → (w : Written) × (slice_get ws i ≡ Some w) × (s.side ≡ w.side) × (s.line ≡ w.line)
unfolding timed
written_at skew top [] i s at = absurd (cc)
written_at skew top (w ∷ ws) zero s at = (w, refl, cc, cc)
written_at skew top (w ∷ ws) (suc i) s at = written_at skew (max top w.line.reading) ws i s at

step_at : (skew top : ℕ) (ws : List Written) (i : ℕ) (w : Written) → slice_get ws i ≡ Some w
    → (s : Step) × At (timed skew top ws) i s × (s.side ≡ w.side) × (s.line ≡ w.line)
unfolding timed
step_at skew top [] i w at = absurd (cc)
step_at skew top (v ∷ ws) zero w at =
    let e : v ≡ w = cc in (
      record { side = v.side; moment = max top v.line.reading - skew; line = v.line },
      refl,
      ap (λ (x : Written). x.side) e,
      ap (λ (x : Written). x.line) e,
    )
step_at skew top (v ∷ ws) (suc i) w at = step_at skew (max top v.line.reading) ws i w at

-- moments are no less than the greatest reading before them, less the skew
from_top : (skew top : ℕ) (ws : List Written) (i : ℕ) (s : Step) → At (timed skew top ws) i s → top - skew ≤ s.moment
unfolding timed
from_top skew top [] i s at = absurd (cc)
from_top skew top (w ∷ ws) zero s at =
    let e : record { side = w.side; moment = max top w.line.reading - skew; line = w.line } ≡ s = cc in
    let m : max top w.line.reading - skew ≡ s.moment = ap (λ (x : Step). x.moment) e in
    let l = le-max_left top w.line.reading in
    omega arith
from_top skew top (w ∷ ws) (suc i) s at =
    let r = from_top skew (max top w.line.reading) ws i s at in
    let l = le-max_left top w.line.reading in
    omega arith

in_time : (skew top : ℕ) (ws : List Written) (i j : ℕ) (s t : Step) → i ≤ j → At (timed skew top ws) i s
    → At (timed skew top ws) j t → s.moment ≤ t.moment
unfolding timed
in_time skew top [] i j s t le a b = absurd (cc)
in_time skew top (w ∷ ws) zero zero s t le a b = let e : s ≡ t = cc in let m = ap (λ (x : Step). x.moment) e in
    omega arith
in_time skew top (w ∷ ws) zero (suc j) s t le a b =
    let e : record { side = w.side; moment = max top w.line.reading - skew; line = w.line } ≡ s = cc in
    let m : max top w.line.reading - skew ≡ s.moment = ap (λ (x : Step). x.moment) e in
    let r = from_top skew (max top w.line.reading) ws j t b in
    omega arith
in_time skew top (w ∷ ws) (suc i) zero s t le a b = absurd (omega arith)
in_time skew top (w ∷ ws) (suc i) (suc j) s t le a b =
    in_time skew (max top w.line.reading) ws i j s t (omega arith) a b

-- no line reads more than its moment and the skew
reads_by : (skew top : ℕ) (ws : List Written) (i : ℕ) (s : Step) → At (timed skew top ws) i s
    → s.line.reading ≤ s.moment + skew
unfolding timed
reads_by skew top [] i s at = absurd (cc)
reads_by skew top (w ∷ ws) zero s at =
    let e : record { side = w.side; moment = max top w.line.reading - skew; line = w.line } ≡ s = cc in
    let m : max top w.line.reading - skew ≡ s.moment = ap (λ (x : Step). x.moment) e in
    let n : w.line.reading ≡ s.line.reading = ap (λ (x : Step). x.line.reading) e in
    let l = le-max_right top w.line.reading in
    omega arith
reads_by skew top (w ∷ ws) (suc i) s at = reads_by skew (max top w.line.reading) ws i s at

max_below : (a b c : ℕ) → a ≤ c → b ≤ c → max a b ≤ c
max_below a b c h g = omega arith

-- where nothing up to a line reads more than a bound, its moment is no more than the bound less the skew
most : (skew top : ℕ) (ws : List Written) (i : ℕ) (s : Step) (bound : ℕ) → top ≤ bound
    → ((j : ℕ) (w : Written) → j ≤ i → slice_get ws j ≡ Some w → w.line.reading ≤ bound)
    → At (timed skew top ws) i s → s.moment ≤ bound - skew
unfolding timed
most skew top [] i s bound le each at = absurd (cc)
most skew top (w ∷ ws) zero s bound le each at =
    let e : record { side = w.side; moment = max top w.line.reading - skew; line = w.line } ≡ s = cc in
    let m : max top w.line.reading - skew ≡ s.moment = ap (λ (x : Step). x.moment) e in
    let l = max_below top w.line.reading bound le (each 0 w (omega arith) refl) in
    omega arith
most skew top (w ∷ ws) (suc i) s bound le each at =
    most skew (max top w.line.reading) ws i s bound
    (max_below top w.line.reading bound le (each 0 w (omega arith) refl))
    (λ j v h g. each (suc j) v (omega arith) g) at

two_sides : (x y : Role) → (y ≡ x) ⊎ (y ≡ partner_of x)
two_sides Primary Primary = inl refl
two_sides Primary Secondary = inr refl
two_sides Secondary Primary = inr refl
two_sides Secondary Secondary = inl refl

module _ (js : Journals) (skew : ℕ) (order : List Written) (is : IsOrder js order) (rising : (side : Role)
    → NeverFalls (journal_of js side)) where
  pub run : List Step
  run = timed skew 0 order

  pub run_in_time : (i j : ℕ) (s t : Step) → i ≤ j → At run i s → At run j t → s.moment ≤ t.moment
  unfolding run
  run_in_time = in_time skew 0 order

  pub lines_left : (side : Role) → lines_of side run ≡ journal_of js side
  unfolding run
  lines_left side = lines_are skew 0 order side ∙ is.lines side

  -- the line at place i is this one of its journal
  named : (i : ℕ) (w : Written) → slice_get order i ≡ Some w → slice_get (journal_of js w.side) (count w.side run i)
      ≡ Some w.line
  unfolding run
  named i w at =
      let s = step_at skew 0 order i w at in
      let h = line_at run w.side i s.0 s.1 s.2 in
      subst (λ ls. slice_get ls (count w.side run i) ≡ Some w.line) (lines_left w.side) (h
      ∙ ap (λ (l : Line). Some l) s.3)

  same_side : (i k : ℕ) (x y : Written) → i ≤ k → slice_get order i ≡ Some x → slice_get order k ≡ Some y
      → y.side ≡ x.side → x.line.reading ≤ y.line.reading
  same_side i k x y le a b e =
      let there : slice_get (journal_of js x.side) (count x.side run k) ≡ Some y.line =
      subst (λ side. slice_get (journal_of js side) (count side run k) ≡ Some y.line) e (named k y b) in
      rising x.side (count x.side run i) (count x.side run k) x.line y.line (count_le x.side run i k le)
      (named i x a) there

  names : (i : ℕ) (w : Written) → slice_get order i ≡ Some w
      → Names js (record { side = w.side; number = count w.side run i + 1 }) w.line
  names i w at =
      let e : (count w.side run i + 1) - 1 ≡ count w.side run i = omega arith in
      (omega arith, rw e (named i w at))

  partner_back : (x y : Role) → y ≡ partner_of x → x ≡ partner_of y
  partner_back Primary y h = sym (ap partner_of h)
  partner_back Secondary y h = sym (ap partner_of h)

  held_up : NoneIsEarly js skew → (i k : ℕ) (x y : Written) → slice_get order i ≡ Some x → slice_get order k ≡ Some y
      → y.side ≡ partner_of x.side
      → IsHeldUp order y.side i k → x.line.reading ≤ y.line.reading + skew + skew
  held_up none i k x y a b other h =
      let back : x.side ≡ partner_of y.side = partner_back x.side y.side other in
      let up = same_side i h.send_place x h.send h.behind a h.send_here (h.send_side ∙ sym back) in
      let down = same_side h.take_place k h.take y h.before h.take_here b (sym h.take_side) in
      elim (cases_lt (h.take.line.reading + skew + skew) h.send.line.reading) [
        | inl lt ↦ absurd (none (record { side = h.take.side; number = count h.take.side run h.take_place + 1 })
            (record {
              send = record { side = h.send.side; number = count h.send.side run h.send_place + 1 };
              takes = (
                partner_back h.take.side h.send.side (h.send_side ∙ ap partner_of (sym h.take_side)),
                (
                  h.message,
                  h.send.line,
                  h.take.line,
                  names h.send_place h.send h.send_here,
                  h.sends,
                  names h.take_place h.take h.take_here,
                  h.takes,
                ),
              );
              sent = h.send.line;
              names_sent = names h.send_place h.send h.send_here;
              taken = h.take.line;
              names_taken = names h.take_place h.take h.take_here;
              above = lt;
            }))
        | inr le ↦ omega arith
      ]

  within_two : PlacesLesserFirst order → NoneIsEarly js skew → (i k : ℕ) (x y : Written) → i < k
      → slice_get order i ≡ Some x → slice_get order k ≡ Some y → x.line.reading ≤ y.line.reading + skew + skew
  within_two lesser none i k x y lt a b = elim (two_sides x.side y.side) [
    | inl e ↦ (let r = same_side i k x y (omega arith) a b e in omega arith)
    | inr e ↦ elim (cases_lt y.line.reading x.line.reading) [
      | inl less ↦ held_up none i k x y a b e (lesser i k x y lt a b e less)
      | inr le ↦ omega arith
    ]
  ]

  within_by : PlacesLesserFirst order → NoneIsEarly js skew → (i k : ℕ) (x y : Written) → i ≤ k
      → slice_get order i ≡ Some x → slice_get order k ≡ Some y → x.line.reading ≤ y.line.reading + skew + skew
  within_by lesser none i k x y le a b = elim (cases_lt i k) [
    | inl lt ↦ within_two lesser none i k x y lt a b
    | inr ge ↦ (
        let n : i ≡ k = omega arith in
        let there : slice_get order k ≡ Some x = subst (λ n. slice_get order n ≡ Some x) n a in
        let e : x ≡ y = cc in
        let r = ap (λ (w : Written). w.line.reading) e in
        omega arith
        )
  ]

  pub near : PlacesLesserFirst order → NoneIsEarly js skew → (i : ℕ) (s : Step) → At run i s
      → (s.line.reading ≤ s.moment + skew) × (s.moment ≤ s.line.reading + skew)
  unfolding run
  near lesser none i s at =
      let w = written_at skew 0 order i s at in
      let bound : ℕ = w.0.line.reading + skew + skew in
      let high = most skew 0 order i s bound (omega arith) (λ j v le g. within_by lesser none j i v w.0 le g w.1) at in
      let e = ap (λ (l : Line). l.reading) w.3 in
      (reads_by skew 0 order i s at, omega arith)

  -- a take's send is a step before it, or was passed over
  pub sent_or : (i : ℕ) (s : Step) (m : PartnerMessage) → At run i s → s.line.event ≡ Take m
      → ((j : ℕ) × (t : Step) × (j < i) × At run j t × (t.side ≡ partner_of s.side) × (t.line.event ≡ Send m))
      ⊎ IsPassedOver js s.side m
  unfolding run
  sent_or i s m at takes =
      let w = written_at skew 0 order i s at in
      elim (is.sent i w.0 m w.1 (ap (λ (l : Line). l.event) (sym w.3) ∙ takes)) [
        | inl v ↦ (let t = step_at skew 0 order v.0 v.1 v.3 in
            inl (v.0, t.0, v.2, t.1, t.2 ∙ (v.4 ∙ ap partner_of (sym w.2)), ap (λ (l : Line). l.event) t.3 ∙ v.5))
        | inr p ↦ inr (subst (λ side. IsPassedOver js side m) (sym w.2) p)
      ]

  module _ (AreLegal : Role → List (List Line) → Type 0) (are : AreFirst AreLegal js) where
    legal : (side : Role) → AreLegal side (volumes_in (volume_of js side) (lines_of side run))
    legal side =
        let a : AreLegal side (until_close (journal_of js side) ∷ []) =
        subst (λ ls. AreLegal side (ls ∷ [])) (sym (are.whole side)) (are.legal side) in
        let b : AreLegal side (volumes_in 1 (lines_of side run)) =
        subst (λ ls. AreLegal side (until_close ls ∷ [])) (sym (lines_left side)) a in
        subst (λ n. AreLegal side (volumes_in n (lines_of side run))) (sym (are.first side)) b

    sent : (i : ℕ) (s : Step) (m : PartnerMessage) → At run i s → IsWithin (volume_of js) run i s
        → s.line.event ≡ Take m
        → (j : ℕ) × (t : Step) × (j < i) × At run j t × (t.side ≡ partner_of s.side) × (t.line.event ≡ Send m)
    sent i s m at here takes = elim (sent_or i s m at takes) [
      | inl t ↦ t
      | inr p ↦ (let one = are.first (partner_of s.side) in let more = p.0 in absurd (omega arith))
    ]

    left : (side : Role) → journal_of js side ≡ volume_at 0 (lines_of side run)
    left side = sym (are.whole side) ∙ ap until_close (sym (lines_left side))

    fits : PlacesLesserFirst order → NoneIsEarly js skew → FitsClocks AreLegal js skew
    unfolding run
    fits lesser none = (
      run,
      record {
        is_run = record { in_time = in_time skew 0 order; legal = legal; sent = sent };
        clocks = λ i s at here. near lesser none i s at;
        left_a = record { index = 0; number = are.first Primary; lines = left Primary; closed = are.closed Primary };
        left_b = record {
          index = 0;
          number = are.first Secondary;
          lines = left Secondary;
          closed =
              are.closed Secondary;
        };
      },
    )

pub run_exists : (AreLegal : Role → List (List Line) → Type 0) (js : Journals) (skew : ℕ) (order : List Written)
    → AreFirst AreLegal js
    → IsOrder js order → PlacesLesserFirst order → NoneIsEarly js skew → FitsClocks AreLegal js skew
run_exists AreLegal js skew order are is lesser none = fits js skew order is are.rising AreLegal are lesser none
