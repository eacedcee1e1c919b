-- What each line of a legal volume keeps: the volume's number, a finite lifetime, readings in order.
use Rattle.std.specs.Prelude.{◌≡◌, ℕ, ◌+◌, ◌-◌, ◌*◌, ◌/◌, ◌<◌, ◌≤◌, ◌⊎◌, min, max, Bool, true, false, List, [], ◌∷◌}
use Rattle.std.specs.Prelude.{Some, slice_get, if◌then◌else◌, ◌==◌, ◌&&◌, nat_lt, ⊤}
use Rattle.std.proofs.Common.{zero, suc, arith, sym, ◌∙◌, ap, subst, inl, inr, refl}
use Rattle.prefix_range.specs.Prefix.{Prefix}
use Rattle.lead_time.specs.Lease.{allowed_lifetime}
use Rattle.binding_rules.specs.declared.unit.Unit.{Unit as UnitValue}
use Rattle.binding_rules.specs.declared.message.Body.{Body}
use Rattle.binding_rules.specs.declared.message.Body.TheVariants.{Update, Reply, Contact}
use Rattle.binding_rules.specs.declared.message.PartnerMessage.{PartnerMessage}
use Rattle.binding_rules.specs.declared.message.ServerState.TheVariants.{Normal, Interrupted, Down}
use Rattle.journal_lines.specs.declared.event.Lease.{Lease}
use Rattle.journal_lines.specs.declared.event.Event.{Event}
use Rattle.journal_lines.specs.declared.event.Event.TheVariants.{Open, Grant, Send, Take, State}
use Rattle.journal_lines.specs.declared.line.Line.{Line}
use Rattle.book_rules.specs.declared.rule.Rule.TheVariants.{Sequence, Opening, Lifetime}
use Rattle.book_state.specs.Book.{BookState, is_unit}
use Rattle.book_rules.specs.VolumeRules.{KeepsSequence, KeepsOpening}
use Rattle.book_rules.specs.UnitRules.{KeepsLifetime}
use Rattle.book_rules.specs.Rules.{IsStep}
use Rattle.book_state.specs.Effects.{effect, after, sent, taken_body, learned, taken}
use Rattle.book_rules.specs.Volumes.{AreSteps, book_after}

-- ---- what messages leave alone

-- a part of the book that no unit, no term and no waiting touches
abbrev pub IsAside : {X : Type 0} → (BookState → X) → Type 0
IsAside part = (b : BookState) (units : Prefix → UnitValue) (term asked : ℕ) (waiting : Bool)
    → part (record b { units = units; term = term; asked = asked; waiting = waiting }) ≡ part b

module _ {X : Type 0} (part : BookState → X) (aside : IsAside part) where
  either : (t : Bool) (x y b : BookState) → part x ≡ part b → part y ≡ part b → part (if t then x else y) ≡ part b
  either true x y b h g = h
  either false x y b h g = g

  body_leaves : (b : BookState) (now : ℕ) (body : Body) → part (taken_body b now body) ≡ part b
  body_leaves b now (Update u) = either (is_unit b.pools u.prefix) _ b b (aside b _ b.term b.asked b.waiting) refl
  body_leaves b now (Reply r) = either (is_unit b.pools r.prefix) _ b b (aside b _ b.term b.asked b.waiting) refl
  body_leaves b now (Contact ask answer) = aside b b.units b.term _ _

  learning_leaves : (b : BookState) (term : ℕ) (body : Body) → part (learned b term body) ≡ part b
  learning_leaves b term (Contact ask answer) = aside b b.units term _ b.waiting
  learning_leaves b term _ = refl

  pub taking_leaves : (b : BookState) (now : ℕ) (m : PartnerMessage) → part (taken b now m) ≡ part b
  taking_leaves b now m =
      either (m.term == b.term) (taken_body b now m.body) _ b (body_leaves b now m.body)
      (either (b.waiting && nat_lt b.term m.term) (learned b m.term m.body) b b (learning_leaves b m.term m.body) refl)

  sending_leaves : (b : BookState) (body : Body) → part (sent b body) ≡ part b
  sending_leaves b (Reply r) = aside b _ b.term b.asked b.waiting
  sending_leaves b _ = refl

-- the volume's number stays
pub volume_kept : (b : BookState) (now : ℕ) (e : Event) → (effect b now e).volume ≡ b.volume
volume_kept b now (Send m) = sending_leaves (λ x. x.volume) (λ x us t a w. refl) b m.body
volume_kept b now (Take m) = taking_leaves (λ x. x.volume) (λ x us t a w. refl) b now m
volume_kept b now (State Normal) = refl
volume_kept b now (State Interrupted) = refl
volume_kept b now (State Down) = refl
volume_kept b now _ = refl

-- the desired lifetime stays but for an open line
IsOpen : Event → Type 0
IsOpen (Open x y z) = ⊤
IsOpen _ = ⊥

life_kept : (b : BookState) (now : ℕ) (e : Event) → (IsOpen e → ⊥) → (effect b now e).life ≡ b.life
unfolding IsOpen
life_kept b now (Open x y z) never = absurd (never tt)
life_kept b now (Send m) never = sending_leaves (λ x. x.life) (λ x us t a w. refl) b m.body
life_kept b now (Take m) never = taking_leaves (λ x. x.life) (λ x us t a w. refl) b now m
life_kept b now (State Normal) never = refl
life_kept b now (State Interrupted) never = refl
life_kept b now (State Down) never = refl
life_kept b now _ never = refl

-- ---- leases are finite

abbrev pub Limited : BookState → Type 0
Limited b = (b.count ≡ 0) ⊎ (b.life ≤ 31536000)

limited_by : (b : BookState) (now : ℕ) (e : Event) → KeepsOpening b e → Limited b → (effect b now e).life ≤ 31536000
unfolding IsOpen
limited_by b now (Open x y z) h lim = h.5
limited_by b now e h (inl c) = let z : 0 < b.count = h in absurd (omega arith)
limited_by b now e h (inr l) = subst (λ n. n ≤ 31536000) (sym (life_kept b now e (λ x. x))) l

least_le : (m n : ℕ) → min m n ≤ m
least_le m n = omega arith

finite_here : (b : BookState) (l : Line) (g : Lease) → IsStep b l → l.event ≡ Grant g → Limited b → g.valid ≤ 31536000
finite_here b l g step is lim =
    let two : 0 < b.count = subst (KeepsOpening b) is (step Opening) in
    let seven : g.valid ≡ allowed_lifetime b.life b.mclt (b.units g.prefix).acked l.reading =
    subst (KeepsLifetime b l.reading) is (step Lifetime) in
    elim lim [
      | inl c ↦ absurd (omega arith)
      | inr le ↦ (let x =
          least_le b.life ((max (b.units g.prefix).acked l.reading + 1000 * b.mclt - l.reading) / 1000) in
          omega arith)
    ]

pub finite : (ls : List Line) (b : BookState) → AreSteps b ls → Limited b → (k : ℕ) (l : Line) (g : Lease)
    → slice_get ls k ≡ Some l → l.event ≡ Grant g → g.valid ≤ 31536000
finite [] b steps lim k l g at is = absurd (cc)
finite (x ∷ xs) b steps lim zero l g at is = let same : x ≡ l = cc in
    finite_here b x g steps.0 (ap (λ (y : Line). y.event) same ∙ is) lim
finite (x ∷ xs) b steps lim (suc k) l g at is =
    finite xs (after b x) steps.1 (inr (limited_by b x.reading x.event (steps.0 Opening) lim)) k l g at is

-- ---- readings do not fall

pub next_number : (b : BookState) (l : Line) → IsStep b l → 0 < l.number
next_number b l step = let h : KeepsSequence b l = step Sequence in let n = h.number in omega arith

pub readings_rise : (ls : List Line) (b : BookState) → AreSteps b ls → b.reading ≤ (book_after b ls).reading
readings_rise [] b steps = omega arith
readings_rise (x ∷ xs) b steps = let r = readings_rise xs (after b x) steps.1 in
    let s : KeepsSequence b x = steps.0 Sequence in let h = s.later in omega arith

pub first_reading : (ls : List Line) (b : BookState) (l : Line) → AreSteps b ls → slice_get ls 0 ≡ Some l
    → l.reading ≤ (book_after b ls).reading
first_reading [] b l steps at = absurd (cc)
first_reading (x ∷ xs) b l steps at = let same : x ≡ l = cc in let r = readings_rise xs (after b x) steps.1 in
    let e = ap (λ (y : Line). y.reading) same in omega arith
