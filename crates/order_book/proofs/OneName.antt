-- An order names one event, or made-up messages that break one rule.
use Rattle.std.proofs.Common.{◌≡◌, ℕ, ◌/◌, ◌<◌, ◌≤◌, ◌⊎◌, ◌||◌, Bool, true, false, List, [], ◌∷◌, length, ap, ap₂, sym}
use Rattle.std.proofs.Common.{◌∙◌, subst, arith, inl, inr, refl, Some, None}
use Rattle.std.specs.Prelude.{Contains as Has, suc}
use Rattle.std.proofs.lemmas.Bool.{cases_lt}
use Rattle.prefix_range.specs.Prefix.{Prefix, IsPrefix, Overlaps, size_of}
use Rattle.binding_rules.specs.declared.unit.Unit.{Unit as UnitValue}
use Rattle.binding_rules.specs.declared.update.Status.{Status}
use Rattle.binding_rules.specs.declared.update.Update.{Update as UpdateValue}
use Rattle.binding_rules.specs.declared.update.BindReply.{BindReply}
use Rattle.binding_rules.specs.declared.message.Body.{Body}
use Rattle.binding_rules.specs.declared.message.Body.TheVariants.{Update as UpdateBody, Reply as ReplyBody, Contact}
use Rattle.journal_lines.specs.declared.event.Event.{Event}
use Rattle.journal_lines.specs.declared.event.Event.TheVariants.{Open, Pool as PoolLine, Send, Grant as GrantLine}
use Rattle.journal_lines.specs.declared.event.Event.TheVariants.{Release as ReleaseLine}
use Rattle.journal_lines.specs.declared.line.Line.{Line}
use Rattle.journal_lines.specs.declared.line.Journal.{Journal}
use Rattle.book_state.specs.declared.pool.Pool.{Pool}
use Rattle.book_rules.specs.declared.rule.Rule.{Rule}
use Rattle.book_rules.specs.declared.rule.Rule.TheVariants.{Sequence, Opening, Pools, Unit as UnitRule, Waiting, Grant}
use Rattle.book_rules.specs.declared.rule.Rule.TheVariants.{Lifetime, Release, Expiry, Backup, Reclaim, Serial, Update}
use Rattle.book_rules.specs.declared.rule.Rule.TheVariants.{Reply}
use Rattle.journal_lines.specs.Head.{volume_number}
use Rattle.book_state.specs.Book.{BookState, blank, is_in, is_unit}
use Rattle.book_state.specs.Places.{AreDisjoint}
use Rattle.book_rules.specs.VolumeRules.{KeepsPools, KeepsSequence}
use Rattle.book_rules.specs.Rules.{Keeps, IsStep, IsLeastBroken, rule_number}
use Rattle.book_rules.specs.UnitRules.{NamesUnit}
use Rattle.book_rules.specs.MessageRules.{TellsChange, TellsUnit, IsContactAnswer, due_update, seized_update}
use Rattle.book_state.specs.Effects.{effect, after}
use Rattle.book_rules.specs.Volumes.{AreSteps, book_after}
use Rattle.book_rules.proofs.RuleNumbers.{one_number}
use Rattle.book_state.proofs.Ranges.{within}
use Rattle.book_rules.proofs.Settings.{Settings, IsSetting, settings_kept}
use Rattle.book_state.proofs.TableLaws.{disjoint_push}
use Rattle.order_book.specs.declared.order.LeaseRequest.{LeaseRequest}
use Rattle.order_book.specs.declared.order.Order.{Order}
use Rattle.order_book.specs.declared.order.Order.TheVariants.{Request, Renew, Release as ReleaseOrder, SendUpdate}
use Rattle.order_book.specs.declared.order.Order.TheVariants.{SendReply, SendContact}
use Rattle.unit_index.specs.Units.{IsUnitOf, IsUsable, IsBoundTo, IsLowest}
use Rattle.order_book.specs.Bindings.{IsBound, IsOffered}
use Rattle.order_book.specs.Named.{lease_of, message_of, IsUpdateOf, IsReplyOf, IsNamed}
use Rattle.order_book.specs.Answer.{next_line}
use Rattle.order_book.specs.Replayed.{state_of, IsLegal}

-- ---- units do not overlap

in_some : (pools : List Pool) (p : Prefix) → is_unit pools p ≡ true
    → (pool : Pool) × Has pools pool × (is_in pool p ≡ true)
in_some [] p e = absurd (cc)
in_some (pool ∷ pools) p e = by_test (is_in pool p) refl e (in_some pools p) where
  by_test : (t : Bool) → is_in pool p ≡ t → (t || is_unit pools p) ≡ true
      → (is_unit pools p ≡ true → (q : Pool) × Has pools q × (is_in q p ≡ true))
      → (q : Pool) × Has (pool ∷ pools) q × (is_in q p ≡ true)
  by_test true is e more = (pool, (0, omega arith, refl), is)
  by_test false is e more = let m = more e in (m.0, (suc m.1.0, (let l = m.1.1 in omega arith), m.1.2), m.2)

meets : (x y : Pool) (p q : Prefix) → IsPrefix p → is_in x p ≡ true → is_in y q ≡ true → p.address ≡ q.address
    → Overlaps x.prefix y.prefix
meets x y p q good ix iy e =
    let wy = within y q iy in (
      p.address,
      (good.address, (within x p ix).first),
      (good.address, ap (λ (n : ℕ). n / size_of y.prefix.length) e ∙ wy.first),
    )

abbrev prefix_at : ℕ → ℕ → Prefix
prefix_at address length = record { address = address; length = length }

one_unit : (pools : List Pool) (p q : Prefix) → AreDisjoint pools → IsPrefix p → IsPrefix q → is_unit pools p ≡ true
    → is_unit pools q ≡ true → p.address ≡ q.address → p ≡ q
one_unit [] p q d gp gq up uq e = absurd (cc)
one_unit (pool ∷ pools) p q d gp gq up uq e =
    by_tests (is_in pool p) (is_in pool q) refl refl up uq (one_unit pools p q d.1 gp gq) where
      by_tests : (s t : Bool) → is_in pool p ≡ s → is_in pool q ≡ t → (s || is_unit pools p) ≡ true
          → (t || is_unit pools q) ≡ true
          → (is_unit pools p ≡ true → is_unit pools q ≡ true → p.address ≡ q.address → p ≡ q) → p ≡ q
      by_tests true true ip iq up uq more = ap₂ prefix_at e ((within pool p ip).bits ∙ sym (within pool q iq).bits)
      by_tests true false ip iq up uq more = let o = in_some pools q uq in
          absurd (d.0 o.0 o.1 (meets pool o.0 p q gp ip o.2 e))
      by_tests false true ip iq up uq more = let o = in_some pools p up in
          absurd (d.0 o.0 o.1 (meets pool o.0 q p gq iq o.2 (sym e)))
      by_tests false false ip iq up uq more = more up uq e

disjoint_by : (b : BookState) (now : ℕ) (e : Event) → KeepsPools b e → AreDisjoint b.pools
    → AreDisjoint (effect b now e).pools
unfolding IsSetting
disjoint_by b now (Open x y z) three d = d
disjoint_by b now (PoolLine p u) three d = disjoint_push b.pools (record { prefix = p; unit_length = u }) d three.4
disjoint_by b now e three d = subst AreDisjoint (sym (ap (λ (s : Settings). s.pools) (settings_kept b now e (λ x. x))))
    d

disjoint_after : (ls : List Line) (b : BookState) → AreSteps b ls → AreDisjoint b.pools
    → AreDisjoint (book_after b ls).pools
disjoint_after [] b steps d = d
disjoint_after (l ∷ ls) b steps d = disjoint_after ls (after b l) steps.1
    (disjoint_by b l.reading l.event (steps.0 Pools) d)

pub legal_disjoint : (j : Journal) → IsLegal j → AreDisjoint (state_of j).pools
legal_disjoint j legal = disjoint_after j.lines (blank j.role (volume_number j.head)) legal tt

-- ---- messages that break one rule alike

pub alike : (b : BookState) (l k : Line) (n x y : Rule) → (Keeps b l n → ⊥) → (Keeps b k n → ⊥)
    → ((r : Rule) → rule_number r < rule_number n → Keeps b l r → Keeps b k r)
    → ((r : Rule) → rule_number r < rule_number n → Keeps b k r → Keeps b l r)
    → IsLeastBroken b l x → IsLeastBroken b k y → x ≡ y
alike b l k n x y nl nk to from bx by = elim (cases_lt (rule_number x) (rule_number y)) [
  | inl less ↦ absurd (elim (cases_lt (rule_number x) (rule_number n))
      [ inl early ↦ bx.broken (from x early (by.least x less)) | inr late ↦ (nk (by.least n (omega arith))) ])
  | inr le ↦ elim (cases_lt (rule_number y) (rule_number x)) [
    | inl less ↦ absurd (elim (cases_lt (rule_number y) (rule_number n))
        [ inl early ↦ by.broken (to y early (bx.least y less)) | inr late ↦ (nl (bx.least n (omega arith))) ])
    | inr ge ↦ one_number x y (omega arith)
  ]
]

-- two events of an order, of which neither is a step, and which break the same rule first
pub record AreAlike (b : BookState) (r : ℕ) (e f : Event) : Type 0 where
  pub first : IsStep b (next_line b r e) → ⊥
  pub second : IsStep b (next_line b r f) → ⊥
  pub same : (x y : Rule) → IsLeastBroken b (next_line b r e) x → IsLeastBroken b (next_line b r f) y → x ≡ y

in_sequence : (b : BookState) (r : ℕ) (e f : Event) → KeepsSequence b (next_line b r e)
    → KeepsSequence b (next_line b r f)
in_sequence b r e f h = record {
  number = h.number;
  few = h.few;
  later = h.later;
  reading = h.reading;
  is_open =
      h.is_open;
}

-- what a message keeps of the rules before one that looks at what it says, another of the same unit keeps
send_rules : (b : BookState) (r n : ℕ) (m k : Body) → n ≤ 14 → (NamesUnit b m → NamesUnit b k)
    → (13 < n → TellsChange b m → TellsChange b k) → (x : Rule) → rule_number x < n
    → Keeps b (next_line b r (Send (message_of b m))) x → Keeps b (next_line b r (Send (message_of b k))) x
send_rules b r n m k le unit tells Sequence lt h = in_sequence b r _ _ h
send_rules b r n m k le unit tells Opening lt h = h
send_rules b r n m k le unit tells Pools lt h = h
send_rules b r n m k le unit tells UnitRule lt h = unit h
send_rules b r n m k le unit tells Waiting lt h = h
send_rules b r n m k le unit tells Grant lt h = h
send_rules b r n m k le unit tells Lifetime lt h = h
send_rules b r n m k le unit tells Release lt h = h
send_rules b r n m k le unit tells Expiry lt h = h
send_rules b r n m k le unit tells Backup lt h = h
send_rules b r n m k le unit tells Reclaim lt h = h
send_rules b r n m k le unit tells Serial lt h = h
send_rules b r n m k le unit tells Update lt h = tells lt h
send_rules b r n m k le unit tells x lt h = absurd (omega (arith, lt, le))

update_rules : (b : BookState) (r : ℕ) (m k : UpdateValue) → m.prefix ≡ k.prefix → (x : Rule) → rule_number x < 13
    → Keeps b (next_line b r (Send (message_of b (UpdateBody m)))) x
    → Keeps b (next_line b r (Send (message_of b (UpdateBody k)))) x
update_rules b r m k same = send_rules b r 13 (UpdateBody m) (UpdateBody k) (omega arith)
    (subst (λ (p : Prefix). is_unit b.pools p ≡ true) same) (λ lt. absurd (omega (arith, lt)))

reply_rules : (b : BookState) (r : ℕ) (m k : BindReply) → m.prefix ≡ k.prefix → (x : Rule) → rule_number x < 14
    → Keeps b (next_line b r (Send (message_of b (ReplyBody m)))) x
    → Keeps b (next_line b r (Send (message_of b (ReplyBody k)))) x
reply_rules b r m k same = send_rules b r 14 (ReplyBody m) (ReplyBody k) (omega arith)
    (subst (λ (p : Prefix). is_unit b.pools p ≡ true) same) (λ lt h. h)

-- ---- one event

one_told : (u : UnitValue) (m k : UpdateValue) → m.prefix ≡ k.prefix → TellsUnit u m → TellsUnit u k → m ≡ k
one_told u m k same (inl x) (inl y) =
    let status : m.status ≡ k.status = cc (x.1, y.1) in
    x.2 ∙ (ap₂ (λ (p : Prefix) (s : Status). due_update p u s) same status ∙ sym y.2)
one_told u m k same (inl x) (inr y) = absurd (cc (x.0, y.0))
one_told u m k same (inr x) (inl y) = absurd (cc (x.0, y.0))
one_told u m k same (inr x) (inr y) = x.1 ∙ (ap (λ (p : Prefix). seized_update p u) same ∙ sym y.1)

told_not_none : (u : UnitValue) (m : UpdateValue) → u.marked ≡ false → u.due ≡ None → TellsUnit u m → ⊥
told_not_none u m un none (inl x) = cc (none, x.1)
told_not_none u m un none (inr x) = cc (un, x.0)

one_update : (b : BookState) (r : ℕ) (p : Prefix) (m k : UpdateValue) → IsUpdateOf (b.units p) p m
    → IsUpdateOf (b.units p) p k
    → (m ≡ k) ⊎ AreAlike b r (Send (message_of b (UpdateBody m))) (Send (message_of b (UpdateBody k)))
one_update b r p m k (pm, inl x) (pk, inl y) = inl (one_told (b.units p) m k (pm ∙ sym pk) x y)
one_update b r p m k (pm, inl x) (pk, inr y) = absurd (told_not_none (b.units p) m y.0 y.1 x)
one_update b r p m k (pm, inr x) (pk, inl y) = absurd (told_not_none (b.units p) k x.0 x.1 y)
one_update b r p m k (pm, inr x) (pk, inr y) =
    let nm : TellsUnit (b.units m.prefix) m → ⊥ =
    λ told. told_not_none (b.units p) m x.0 x.1 (subst (λ (q : Prefix). TellsUnit (b.units q) m) pm told) in
    let nk : TellsUnit (b.units k.prefix) k → ⊥ =
    λ told. told_not_none (b.units p) k y.0 y.1 (subst (λ (q : Prefix). TellsUnit (b.units q) k) pk told) in
    inr (record {
      first = λ step. nm (step Update);
      second = λ step. nk (step Update);
      same = λ u v. alike b (next_line b r (Send (message_of b (UpdateBody m))))
          (next_line b r (Send (message_of b (UpdateBody k)))) Update u v nm nk (update_rules b r m k (pm ∙ sym pk))
          (update_rules b r k m (pk ∙ sym pm));
    })

one_reply : (b : BookState) (r : ℕ) (p : Prefix) (m k : BindReply) → IsReplyOf (b.units p) p m
    → IsReplyOf (b.units p) p k
    → (m ≡ k) ⊎ AreAlike b r (Send (message_of b (ReplyBody m))) (Send (message_of b (ReplyBody k)))
one_reply b r p m k (inl x) (inl y) = inl (cc (x, y))
one_reply b r p m k (inl x) (inr y) = absurd (cc (x, y.0))
one_reply b r p m k (inr x) (inl y) = absurd (cc (x.0, y))
one_reply b r p m k (inr (x, pm)) (inr (y, pk)) =
    let nm : (b.units m.prefix).pending ≡ Some m → ⊥ =
    λ told. (let none = ap (λ (q : Prefix). (b.units q).pending) pm in cc (none, told, x)) in
    let nk : (b.units k.prefix).pending ≡ Some k → ⊥ =
    λ told. (let none = ap (λ (q : Prefix). (b.units q).pending) pk in cc (none, told, y)) in
    inr (record {
      first = λ step. nm (step Reply);
      second = λ step. nk (step Reply);
      same = λ u v. alike b (next_line b r (Send (message_of b (ReplyBody m))))
          (next_line b r (Send (message_of b (ReplyBody k)))) Reply u v nm nk (reply_rules b r m k (pm ∙ sym pk))
          (reply_rules b r k m (pk ∙ sym pm));
    })

one_lowest : (b : BookState) (P : Prefix → Type 0) (p q : Prefix) → AreDisjoint b.pools
    → ((x : Prefix) → P x → IsUnitOf b x) → IsLowest P p → IsLowest P q → p ≡ q
one_lowest b P p q d unit x y =
    let up = unit p x.0 in
    let uq = unit q y.0 in
    let le = x.1 q y.0 in
    let ge = y.1 p x.0 in
    one_unit b.pools p q d up.whole uq.whole up.unit uq.unit (omega arith)

one_bound : (b : BookState) (a : LeaseRequest) (p q : Prefix) → AreDisjoint b.pools → IsBound b a p → IsBound b a q → p ≡ q
one_bound b a p q d (inl x) (inl y) = cc (x.0, y.0)
one_bound b a p q d (inl x) (inr y) = absurd (y.0 p x)
one_bound b a p q d (inr x) (inl y) = absurd (x.0 q y)
one_bound b a p q d (inr x) (inr y) = one_lowest b (IsBoundTo b a.client a.iaid) p q d (λ z h. h.0) x.1 y.1

one_offered : (b : BookState) (a : LeaseRequest) (p q : Prefix) → AreDisjoint b.pools → IsOffered b a p → IsOffered b a q
    → p ≡ q
one_offered b a p q d (inl x) (inl y) = one_bound b a p q d x y
one_offered b a p q d (inl x) (inr y) = absurd (y.0 p x)
one_offered b a p q d (inr x) (inl y) = absurd (x.0 q y)
one_offered b a p q d (inr x) (inr y) = one_lowest b (IsUsable b) p q d (λ z h. h.0) x.1 y.1

one_number_answered : (b : BookState) (n m : ℕ) → IsContactAnswer b n → IsContactAnswer b m → n ≡ m
one_number_answered b n m (inl x) (inl y) = x.1 ∙ sym y.1
one_number_answered b n m (inl x) (inr y) = absurd (y.0 x.0)
one_number_answered b n m (inr x) (inl y) = absurd (x.0 y.0)
one_number_answered b n m (inr x) (inr y) = x.1 ∙ sym y.1

both : {X : Type 0} {x y z : X} → x ≡ z → y ≡ z → x ≡ y
both e f = e ∙ sym f

pub one_named : (b : BookState) (r : ℕ) (order : Order) (e f : Event) → AreDisjoint b.pools → IsNamed b r order e
    → IsNamed b r order f → (e ≡ f) ⊎ AreAlike b r e f
one_named b r (Request a) e f d x y =
    let same = one_offered b a x.0 y.0 d x.1 y.1 in
    inl (x.2 ∙ (ap (λ (p : Prefix). GrantLine (lease_of b r a p)) same ∙ sym y.2))
one_named b r (Renew a) e f d x y =
    let same = one_bound b a x.0 y.0 d x.1 y.1 in
    inl (x.2 ∙ (ap (λ (p : Prefix). GrantLine (lease_of b r a p)) same ∙ sym y.2))
one_named b r (ReleaseOrder a) e f d x y =
    let hx = x.1.0 in
    let hy = y.1.0 in
    let same : x.0 ≡ y.0 = cc (hx, hy) in
    inl (x.2 ∙ (ap (λ (p : Prefix). ReleaseLine a.client a.iaid p) same ∙ sym y.2))
one_named b r (SendUpdate p) e f d x y = elim (one_update b r p x.0 y.0 x.1 y.1) [
  | inl same ↦ inl (x.2 ∙ (ap (λ (m : UpdateValue). Send (message_of b (UpdateBody m))) same ∙ sym y.2))
  | inr like ↦ inr (subst (λ (v : Event). AreAlike b r v f) (sym x.2)
      (subst (λ (v : Event). AreAlike b r (Send (message_of b (UpdateBody x.0))) v) (sym y.2) like))
]
one_named b r (SendReply p) e f d x y = elim (one_reply b r p x.0 y.0 x.1 y.1) [
  | inl same ↦ inl (x.2 ∙ (ap (λ (m : BindReply). Send (message_of b (ReplyBody m))) same ∙ sym y.2))
  | inr like ↦ inr (subst (λ (v : Event). AreAlike b r v f) (sym x.2)
      (subst (λ (v : Event). AreAlike b r (Send (message_of b (ReplyBody x.0))) v) (sym y.2) like))
]
one_named b r SendContact e f d x y =
    let asks : x.0 ≡ y.0 = x.2.0 ∙ sym y.2.0 in
    let answers = one_number_answered b x.1 y.1 x.2.1 y.2.1 in
    inl (x.3 ∙ (ap₂ (λ (n m : ℕ). Send (message_of b (Contact n m))) asks answers ∙ sym y.3))
one_named b r _ e f d x y = inl (both x y)
