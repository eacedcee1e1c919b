-- The messages that one journal takes and the other doesn't send.
use Rattle.std.specs.Prelude.{◌≡◌, ℕ, ◌⊎◌, List, [], ◌∷◌, Some, slice_get}
use Rattle.std.proofs.Common.{zero, suc, arith, sym, ◌∙◌, ap, subst, inl, inr, refl}
use Rattle.std.proofs.lemmas.Bool.{cases_lt}
use Rattle.binding_rules.specs.declared.message.PartnerMessage.{PartnerMessage}
use Rattle.journal_lines.specs.declared.event.Event.{Event}
use Rattle.journal_lines.specs.declared.event.Event.TheVariants.{Send, Take}
use Rattle.journal_lines.specs.declared.line.Line.{Line}

same_number : (a b : ℕ) → (a ≡ b) ⊎ (a ≡ b → ⊥)
same_number a b = elim (cases_lt a b) [
  | inl lt ↦ inr (λ e. omega arith)
  | inr le ↦ elim (cases_lt b a) [ inl lt ↦ inr (λ e. omega arith) | inr ge ↦ inl (omega arith) ]
]

abbrev pub IsSent : List Line → ℕ → Type 0
IsSent ls serial = (k : ℕ) × (l : Line) × (x : PartnerMessage) × (slice_get ls k ≡ Some l) × (l.event ≡ Send x)
    × (x.serial ≡ serial)

abbrev pub NotSent : List Line → ℕ → Type 0
NotSent ls serial = (k : ℕ) (l : Line) (x : PartnerMessage) → slice_get ls k ≡ Some l → l.event ≡ Send x
    → x.serial ≡ serial → ⊥

sends_by : (e : Event) → ((m : PartnerMessage) × (e ≡ Send m)) ⊎ ((m : PartnerMessage) → e ≡ Send m → ⊥)
sends_by (Send m) = inl (m, refl)
sends_by _ = inr (λ m h. cc)

takes_by : (e : Event) → ((m : PartnerMessage) × (e ≡ Take m)) ⊎ ((m : PartnerMessage) → e ≡ Take m → ⊥)
takes_by (Take m) = inl (m, refl)
takes_by _ = inr (λ m h. cc)

one_message : (e : Event) (m x : PartnerMessage) → e ≡ Send m → e ≡ Send x → m ≡ x
one_message e m x a b = let f : Send m ≡ Send x = sym a ∙ b in cc

one_taken : (e : Event) (m x : PartnerMessage) → e ≡ Take m → e ≡ Take x → m ≡ x
one_taken e m x a b = let f : Take m ≡ Take x = sym a ∙ b in cc

not_here : (y : Line) (ls : List Line) (serial : ℕ) → ((x : PartnerMessage) → y.event ≡ Send x → x.serial ≡ serial → ⊥)
    → NotSent ls serial → NotSent (y ∷ ls) serial
not_here y ls serial differs none zero l x at is same = let e : y ≡ l = cc in
    differs x (ap (λ (z : Line). z.event) e ∙ is) same
not_here y ls serial differs none (suc k) l x at is same = none k l x at is same

sent_or_not : (ls : List Line) (serial : ℕ) → IsSent ls serial ⊎ NotSent ls serial
sent_or_not [] serial = inr (λ k l x at is same. cc)
sent_or_not (y ∷ ys) serial = elim (sent_or_not ys serial) [
  | inl h ↦ inl (suc h.0, h.1, h.2, h.3, h.4, h.5)
  | inr none ↦ elim (sends_by y.event) [
    | inl m ↦ elim (same_number m.0.serial serial) [
      | inl e ↦ inl (0, y, m.0, refl, m.1, e)
      | inr differs ↦
          inr (not_here y ys serial (λ x is same.
          differs (ap (λ (z : PartnerMessage). z.serial) (one_message y.event m.0 x m.1 is) ∙ same)) none)
    ]
    | inr never ↦ inr (not_here y ys serial (λ x is same. never x is) none)
  ]
]

abbrev pub HasMessage : List PartnerMessage → PartnerMessage → Type 0
HasMessage ms m = (k : ℕ) × (slice_get ms k ≡ Some m)

pub record Passed (taker sender : List Line) : Type 0 where
  pub messages : List PartnerMessage
  pub each : (k : ℕ) (l : Line) (m : PartnerMessage) → slice_get taker k ≡ Some l → l.event ≡ Take m
      → NotSent sender m.serial → HasMessage messages m
  pub unsent : (j : ℕ) (x : PartnerMessage) → slice_get messages j ≡ Some x → NotSent sender x.serial

skip : (t : Line) (ts sender : List Line) (p : Passed ts sender)
    → ((m : PartnerMessage) → t.event ≡ Take m → NotSent sender m.serial → HasMessage p.messages m)
    → Passed (t ∷ ts) sender
skip t ts sender p here = record { messages = p.messages; each = each; unsent = p.unsent } where
  each : (k : ℕ) (l : Line) (m : PartnerMessage) → slice_get (t ∷ ts) k ≡ Some l → l.event ≡ Take m
      → NotSent sender m.serial → HasMessage p.messages m
  each zero l m at is none = let e : t ≡ l = cc in here m (ap (λ (z : Line). z.event) e ∙ is) none
  each (suc k) l m at is none = p.each k l m at is none

add : (t : Line) (ts sender : List Line) (p : Passed ts sender) (n : PartnerMessage) → t.event ≡ Take n
    → NotSent sender n.serial → Passed (t ∷ ts) sender
add t ts sender p n takes not_sent = record { messages = n ∷ p.messages; each = each; unsent = unsent } where
  each : (k : ℕ) (l : Line) (m : PartnerMessage) → slice_get (t ∷ ts) k ≡ Some l → l.event ≡ Take m
      → NotSent sender m.serial → HasMessage (n ∷ p.messages) m
  each zero l m at is none =
      let e : t ≡ l = cc in
      (0, ap (λ (x : PartnerMessage). Some x) (one_taken t.event n m takes (ap (λ (z : Line). z.event) e ∙ is)))
  each (suc k) l m at is none = let r = p.each k l m at is none in (suc r.0, r.1)

  unsent : (j : ℕ) (x : PartnerMessage) → slice_get (n ∷ p.messages) j ≡ Some x → NotSent sender x.serial
  unsent zero x at = let e : n ≡ x = cc in subst (λ (z : PartnerMessage). NotSent sender z.serial) e not_sent
  unsent (suc j) x at = p.unsent j x at

pub passed : (taker sender : List Line) → Passed taker sender
passed [] sender = record { messages = []; each = λ k l m at is none. absurd (cc); unsent = λ j x at. absurd (cc) }
passed (t ∷ ts) sender =
    let p : Passed ts sender = passed ts sender in
    elim (takes_by t.event) [
      | inr never ↦ skip t ts sender p (λ m is none. absurd (never m is))
      | inl n ↦ elim (sent_or_not sender n.0.serial) [
        | inl s ↦ skip t ts sender p (λ m is none.
            absurd (none s.0 s.1 s.2 s.3 s.4 (s.5 ∙ ap (λ (z : PartnerMessage). z.serial)
            (one_taken t.event n.0 m n.1 is))))
        | inr not_sent ↦ add t ts sender p n.0 n.1 not_sent
      ]
    ]
