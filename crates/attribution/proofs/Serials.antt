-- Serials of sent messages rise through a legal volume: from 0 in the first, from its base line's in a later one.
use Rattle.std.specs.Prelude.{◌≡◌, ℕ, ◌<◌, ◌≤◌, ◌⊎◌, List, [], ◌∷◌, Some, slice_get, ⊤}
use Rattle.std.proofs.Common.{zero, suc, arith, sym, ◌∙◌, ap, subst, inl, inr, refl}
use Rattle.prefix_range.specs.Prefix.{Prefix}
use Rattle.binding_rules.specs.declared.role.Role.{Role}
use Rattle.binding_rules.specs.declared.message.PartnerMessage.{PartnerMessage}
use Rattle.binding_rules.specs.declared.message.ServerState.TheVariants.{Normal, Interrupted, Down}
use Rattle.journal_lines.specs.declared.kept.BookNumbers.{BookNumbers}
use Rattle.journal_lines.specs.declared.kept.Carried.{Carried}
use Rattle.journal_lines.specs.declared.event.Event.{Event}
use Rattle.journal_lines.specs.declared.event.Event.TheVariants.{Open, Pool, Transit, Base, Carry, Unit as UnitLine}
use Rattle.journal_lines.specs.declared.event.Event.TheVariants.{Send, Take, State}
use Rattle.journal_lines.specs.declared.line.Line.{Line}
use Rattle.book_state.specs.declared.place.Place.{Place}
use Rattle.book_state.specs.declared.place.Place.TheVariants.{AtPools, AtTransit, AtBase, AtCarry, AtUnit, PastHead}
use Rattle.book_rules.specs.declared.rule.Rule.TheVariants.{Opening, Pools, Serial, Head, Transit as TransitRule}
use Rattle.book_state.specs.Book.{BookState, blank}
use Rattle.book_state.specs.HeadOrder.{IsBeforeBase, IsPastBase, CarryFollows, UnitFollows}
use Rattle.book_rules.specs.VolumeRules.{KeepsOpening, KeepsPools, KeepsHead, KeepsTransit}
use Rattle.book_rules.specs.MessageRules.{KeepsSerial}
use Rattle.book_rules.specs.Rules.{IsStep}
use Rattle.book_state.specs.Effects.{effect, after, place_of}
use Rattle.book_rules.specs.Volumes.{AreSteps, book_after}
use Rattle.attribution.proofs.Steps.{taking_leaves, volume_kept, next_number}

-- from one serial to another, each send is above the one before it.
pub record Rise (low : ℕ) (ls : List Line) (high : ℕ) : Type 0 where
  pub le : low ≤ high
  pub within : (k : ℕ) (l : Line) (x : PartnerMessage) → slice_get ls k ≡ Some l → l.event ≡ Send x
      → (low < x.serial) × (x.serial ≤ high)
  pub once : (j k : ℕ) (l m : Line) (x z : PartnerMessage) → slice_get ls j ≡ Some l → l.event ≡ Send x
      → slice_get ls k ≡ Some m → m.event ≡ Send z → x.serial ≡ z.serial → j ≡ k

pub rise_nil : (n : ℕ) → Rise n [] n
rise_nil n = record {
  le = omega arith;
  within = λ k l x at is. absurd (cc);
  once =
      λ j k l m x z a b c d e. absurd (cc);
}

IsSend : Event → Type 0
IsSend (Send m) = ⊤
IsSend _ = ⊥

rise_on : (low high : ℕ) (y : Line) (ls : List Line) → (IsSend y.event → ⊥) → Rise low ls high → Rise low (y ∷ ls) high
unfolding IsSend
rise_on low high y ls never r = record { le = r.le; within = within; once = once } where
  none : (l : Line) (x : PartnerMessage) → y ≡ l → l.event ≡ Send x → ⊥
  none l x same is = never (subst IsSend (sym (ap (λ (z : Line). z.event) same ∙ is)) tt)

  within : (k : ℕ) (l : Line) (x : PartnerMessage) → slice_get (y ∷ ls) k ≡ Some l → l.event ≡ Send x
      → (low < x.serial) × (x.serial ≤ high)
  within zero l x at is = absurd (none l x (cc) is)
  within (suc k) l x at is = r.within k l x at is

  once : (j k : ℕ) (l m : Line) (x w : PartnerMessage) → slice_get (y ∷ ls) j ≡ Some l → l.event ≡ Send x
      → slice_get (y ∷ ls) k ≡ Some m → m.event ≡ Send w → x.serial ≡ w.serial → j ≡ k
  once zero k l m x w a b c d e = absurd (none l x (cc) b)
  once (suc j) zero l m x w a b c d e = absurd (none m w (cc) d)
  once (suc j) (suc k) l m x w a b c d e = ap suc (r.once j k l m x w a b c d e)

rise_send : (low high : ℕ) (y : Line) (z : PartnerMessage) (ls : List Line) → y.event ≡ Send z → low < z.serial
    → Rise z.serial ls high → Rise low (y ∷ ls) high
rise_send low high y z ls sends lt r = record { le = (let x = r.le in omega arith); within = within; once = once } where
  here : (l : Line) (x : PartnerMessage) → y ≡ l → l.event ≡ Send x → z ≡ x
  here l x same is = let e : Send z ≡ Send x = (sym sends ∙ ap (λ (w : Line). w.event) same) ∙ is in cc

  within : (k : ℕ) (l : Line) (x : PartnerMessage) → slice_get (y ∷ ls) k ≡ Some l → l.event ≡ Send x
      → (low < x.serial) × (x.serial ≤ high)
  within zero l x at is = let e = ap (λ (w : PartnerMessage). w.serial) (here l x (cc) is) in let le = r.le in
      (omega arith, omega arith)
  within (suc k) l x at is = let w = r.within k l x at is in let a = w.0 in let b = w.1 in (omega arith, b)

  once : (j k : ℕ) (l m : Line) (x w : PartnerMessage) → slice_get (y ∷ ls) j ≡ Some l → l.event ≡ Send x
      → slice_get (y ∷ ls) k ≡ Some m → m.event ≡ Send w → x.serial ≡ w.serial → j ≡ k
  once zero zero l m x w a b c d e = refl
  once zero (suc k) l m x w a b c d e = let f = ap (λ (v : PartnerMessage). v.serial) (here l x (cc) b) in
      let g = (r.within k m w c d).0 in absurd (omega arith)
  once (suc j) zero l m x w a b c d e = let f = ap (λ (v : PartnerMessage). v.serial) (here m w (cc) d) in
      let g = (r.within j l x a b).0 in absurd (omega arith)
  once (suc j) (suc k) l m x w a b c d e = ap suc (r.once j k l m x w a b c d e)

-- no base line comes: the volume is the first, or its base line has come
abbrev NoBase : BookState → Type 0
NoBase b = (b.volume ≤ 1) ⊎ (IsPastBase b.place × (0 < b.count))

-- past its base line a volume stays past it
past_stays : (b : BookState) (l : Line) (e : Event) → IsPastBase b.place → 0 < b.count → KeepsOpening b e
    → KeepsPools b e → KeepsTransit b e → IsPastBase (place_of e)
past_stays b l (Open x y z) past some two three nineteen = let c = two.0 in absurd (omega arith)
past_stays b l (Pool x y) past some two three nineteen = absurd (subst IsPastBase three.0 past)
past_stays b l (Transit d) past some two three nineteen = absurd (subst IsPastBase nineteen past)
past_stays b l _ past some two three nineteen = tt

no_base_stays : (b : BookState) (l : Line) → IsStep b l → NoBase b → NoBase (after b l)
no_base_stays b l step (inl one) = inl (let k = volume_kept b l.reading l.event in omega arith)
no_base_stays b l step (inr p) = inr (
  past_stays b l l.event p.0 p.1 (step Opening) (step Pools) (step TransitRule),
  next_number b l step,
)

abbrev pub IsBase : Event → Type 0
IsBase (Base n) = ⊤
IsBase _ = ⊥

before_not_past : (p : Place) → IsBeforeBase p → IsPastBase p → ⊥
before_not_past AtPools a b = b
before_not_past AtTransit a b = b
before_not_past AtBase a b = a
before_not_past (AtCarry c) a b = a
before_not_past (AtUnit p) a b = a
before_not_past PastHead a b = a

not_base : (b : BookState) (e : Event) → NoBase b → KeepsHead b e → IsBase e → ⊥
not_base b (Base n) (inl one) h is = let x = h.0 in absurd (omega arith)
not_base b (Base n) (inr past) h is = before_not_past b.place h.1 past.0
not_base b _ none h is = is

pub rises_by : (b : BookState) (now high : ℕ) (y : Line) (ls : List Line) (e : Event) → y.event ≡ e → KeepsSerial b e
    → (IsBase e → ⊥) → Rise (effect b now e).serial ls high → Rise b.serial (y ∷ ls) high
unfolding IsSend
rises_by b now high y ls (Base n) is twelve never r = absurd (never (omega arith))
rises_by b now high y ls (Send m) is twelve never r = rise_send b.serial high y m ls is (let x = twelve.0 in
    omega arith) r
rises_by b now high y ls (Take m) is twelve never r =
    rise_on b.serial high y ls (λ s. subst IsSend is s)
    (subst (λ n. Rise n ls high) (taking_leaves (λ x. x.serial) (λ x us t a w. refl) b now m) r)
rises_by b now high y ls (State Normal) is twelve never r = rise_on b.serial high y ls (λ s. subst IsSend is s) r
rises_by b now high y ls (State Interrupted) is twelve never r = rise_on b.serial high y ls (λ s. subst IsSend is s) r
rises_by b now high y ls (State Down) is twelve never r = rise_on b.serial high y ls (λ s. subst IsSend is s) r
rises_by b now high y ls _ is twelve never r = rise_on b.serial high y ls (λ s. subst IsSend is s) r

-- where no base line comes, serials rise from the book's
pub serials_rise : (ls : List Line) (b : BookState) → AreSteps b ls → NoBase b
    → Rise b.serial ls (book_after b ls).serial
serials_rise [] b steps none = rise_nil b.serial
serials_rise (y ∷ ys) b steps none =
    rises_by b y.reading (book_after b (y ∷ ys)).serial y ys y.event refl (steps.0 Serial)
    (not_base b y.event none (steps.0 Head))
    (serials_rise ys (after b y) steps.1 (no_base_stays b y steps.0 none))

pub no_base_in : (ls : List Line) (b : BookState) → AreSteps b ls → NoBase b → (k : ℕ) (l : Line)
    → slice_get ls k ≡ Some l → IsBase l.event → ⊥
no_base_in [] b steps none k l at is = absurd (cc)
no_base_in (y ∷ ys) b steps none zero l at is = let same : y ≡ l = cc in
    not_base b y.event none (steps.0 Head) (subst (λ (z : Line). IsBase z.event) (sym same) is)
no_base_in (y ∷ ys) b steps none (suc k) l at is =
    no_base_in ys (after b y) steps.1 (no_base_stays b y steps.0 none) k l at is

after_base : (b : BookState) (y : Line) (n : BookNumbers) → y.event ≡ Base n → IsStep b y → NoBase (after b y)
after_base b y n is step = inr (subst (λ e. IsPastBase (place_of e)) (sym is) tt, next_number b y step)

carry_not_before : (p : Place) (c : Carried) → IsBeforeBase p → CarryFollows p c → ⊥
carry_not_before AtPools c a b = b
carry_not_before AtTransit c a b = b
carry_not_before _ c a b = a

unit_not_before : (p : Place) (q : Prefix) → IsBeforeBase p → UnitFollows p q → ⊥
unit_not_before AtPools c a b = b
unit_not_before AtTransit c a b = b
unit_not_before _ c a b = a

-- before the base line nothing is sent
to_base : (b : BookState) (y : Line) (ys : List Line) (e : Event) (n : BookNumbers) (high j : ℕ) (l : Line)
    → y.event ≡ e → IsBeforeBase b.place → 1 < b.volume → IsStep b y → AreSteps (after b y) ys
    → KeepsHead b e → slice_get (y ∷ ys) j ≡ Some l → l.event ≡ Base n
    → (IsBeforeBase (place_of e) → (k : ℕ) → slice_get ys k ≡ Some l → Rise n.serial ys high)
    → (e ≡ Base n → Rise n.serial ys high)
    → Rise n.serial (y ∷ ys) high
unfolding IsSend
to_base b y ys (Open p q r) n high zero l is before over step steps h at base rest here = let same : y ≡ l = cc in
    let e = (sym is ∙ ap (λ (z : Line). z.event) same) ∙ base in absurd (cc)
to_base b y ys (Open p q r) n high (suc j) l is before over step steps h at base rest here =
    rise_on n.serial high y ys (λ s. subst IsSend is s) (rest tt j at)
to_base b y ys (Pool p q) n high zero l is before over step steps h at base rest here = let same : y ≡ l = cc in
    let e = (sym is ∙ ap (λ (z : Line). z.event) same) ∙ base in absurd (cc)
to_base b y ys (Pool p q) n high (suc j) l is before over step steps h at base rest here =
    rise_on n.serial high y ys (λ s. subst IsSend is s) (rest tt j at)
to_base b y ys (Transit d) n high zero l is before over step steps h at base rest here = let same : y ≡ l = cc in
    let e = (sym is ∙ ap (λ (z : Line). z.event) same) ∙ base in absurd (cc)
to_base b y ys (Transit d) n high (suc j) l is before over step steps h at base rest here =
    rise_on n.serial high y ys (λ s. subst IsSend is s) (rest tt j at)
to_base b y ys (Base m) n high zero l is before over step steps h at base rest here =
    let same : y ≡ l = cc in
    rise_on n.serial high y ys (λ s. subst IsSend is s) (here ((sym is ∙ ap (λ (z : Line). z.event) same) ∙ base))
to_base b y ys (Base m) n high (suc j) l is before over step steps h at base rest here =
    absurd (no_base_in ys (after b y) steps (after_base b y m is step) j l at (subst IsBase (sym base) tt))
to_base b y ys (Carry c) n high j l is before over step steps h at base rest here =
    absurd (carry_not_before b.place c before h.1)
to_base b y ys (UnitLine k) n high j l is before over step steps h at base rest here =
    absurd (unit_not_before b.place k.prefix before h.1)
to_base b y ys _ n high j l is before over step steps h at base rest here =
    absurd (before_not_past b.place before (h over))

-- in a volume over 1 serials rise from its base line's
pub base_rises : (ls : List Line) (b : BookState) → AreSteps b ls → IsBeforeBase b.place → 1 < b.volume
    → (j : ℕ) (l : Line) (n : BookNumbers) → slice_get ls j ≡ Some l → l.event ≡ Base n
    → Rise n.serial ls (book_after b ls).serial
base_rises [] b steps before over j l n at base = absurd (cc)
base_rises (y ∷ ys) b steps before over j l n at base =
    to_base b y ys y.event n (book_after b (y ∷ ys)).serial j l refl before over steps.0 steps.1 (steps.0 Head) at base
    (λ early k there. base_rises ys (after b y) steps.1 early (let v = volume_kept b y.reading y.event in
    omega arith) k l n there base)
    (λ is. (let e : (after b y).serial ≡ n.serial = ap (λ x. (effect b y.reading x).serial) is in
    subst (λ low. Rise low ys (book_after (after b y) ys).serial) e
    (serials_rise ys (after b y) steps.1 (after_base b y n is steps.0))))

-- in the first volume from 0
pub first_rises : (side : Role) (ls : List Line) → AreSteps (blank side 1) ls
    → Rise 0 ls (book_after (blank side 1) ls).serial
first_rises side ls steps = serials_rise ls (blank side 1) steps (inl (omega arith))
