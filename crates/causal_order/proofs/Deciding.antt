-- The tests of chains and bounds decide their relations.
use Rattle.std.specs.Prelude.{◌≡◌, ℕ, ◌-◌, ◌+◌, ◌<◌, ◌≤◌, Bool, true, false, ◌&&◌, ◌↔◌, IsTrue, nat_le, nat_lt, List}
use Rattle.std.specs.Prelude.{[], ◌∷◌, length, Option, Some, None, slice_get, if◌then◌else◌}
use Rattle.std.specs.Bool.{Decides}
use Rattle.std.proofs.Common.{sym, ◌∙◌, ap, subst, refl}
use Rattle.std.proofs.lemmas.Bool.{le-leb, leb-true}
use Rattle.std.proofs.lemmas.Bool.Decides.{Decides-eqb, Decides-ltb, Decides-and, Decides-or, Decides-like}
use Rattle.binding_rules.specs.declared.role.Role.{Role}
use Rattle.binding_rules.specs.declared.role.Role.TheVariants.{Primary, Secondary}
use Rattle.binding_rules.specs.Role.{partner_of, is_side}
use Rattle.journal_lines.specs.declared.event.Event.{Event}
use Rattle.journal_lines.specs.declared.event.Event.TheVariants.{Send, Take}
use Rattle.binding_rules.specs.declared.message.PartnerMessage.{PartnerMessage}
use Rattle.journal_lines.specs.declared.line.Line.{Line}
use Rattle.causal_order.specs.declared.reference.Ref.{Ref}
use Rattle.causal_order.specs.declared.order.Precedes.{Precedes}
use Rattle.causal_order.specs.declared.order.Precedes.TheVariants.{Chain, Clock}
use Rattle.causal_order.specs.Journals.{Journals, journal_of, Names, line_of}
use Rattle.causal_order.specs.Order.{IsLater, IsTakeOf, IsChain, EndsWith, Leads, WrittenBy, WrittenFrom}
use Rattle.causal_order.specs.Order.{IsSurelyBefore}
use Rattle.causal_order.specs.Tests.{some_and, same_ref, is_line, is_later, same_message, sent_by, taken_by, sent_in}
use Rattle.causal_order.specs.Tests.{taken_in, same_messages, is_take_of, follows, is_chain, first_of_chain}
use Rattle.causal_order.specs.Tests.{last_of_chain, is_at, leads, reading_at, written_by, written_from, precedes}
use Rattle.causal_order.proofs.Sameness.{decides_message}

pub decides_le : (m n : ℕ) → Decides (nat_le m n) (m ≤ n)
decides_le m n = (leb-true m n, le-leb m n)

pub decides_lt : (m n : ℕ) → Decides (nat_lt m n) (m < n)
decides_lt m n = Decides-ltb m n

pub decides_side : (a b : Role) → Decides (is_side a b) (b ≡ a)
decides_side Primary Primary = (λ h. refl, λ h. refl)
decides_side Secondary Secondary = (λ h. refl, λ h. refl)
decides_side Primary Secondary = (λ h. cc, λ h. cc)
decides_side Secondary Primary = (λ h. cc, λ h. cc)

a_ref : Role → ℕ → Ref
a_ref a b = record { side = a; number = b }

ref_parts : (r s : Ref) → r.side ≡ s.side → r.number ≡ s.number → a_ref r.side r.number ≡ a_ref s.side s.number
ref_parts r s a b = cc

ref_same : (r s : Ref) → r.side ≡ s.side → r.number ≡ s.number → r ≡ s
unfolding a_ref
ref_same r s a b = ref_parts r s a b

pub decides_ref : (r s : Ref) → Decides (same_ref r s) (r ≡ s)
decides_ref r s = Decides-like (same_ref r s) (λ h. ref_same r s (sym h.0) h.1)
    (λ e. (sym (ap (λ (x : Ref). x.side) e), ap (λ (x : Ref). x.number) e))
    (Decides-and _ _ (decides_side r.side s.side) (Decides-eqb r.number s.number))

-- some value
pub decides_some : {X : Type 0} (o : Option X) (test : X → Bool) (P : X → Type 0) → ((x : X) → Decides (test x) (P x))
    → Decides (some_and o test) ((x : X) × (o ≡ Some x) × P x)
decides_some None test P d = (λ h. cc, λ h. let e = h.1 in cc)
decides_some (Some x) test P d = (
  λ h. (x, refl, (d x).0 h),
  λ h. (d x).1 (let e : h.0 ≡ x = (let f = h.1 in cc) in subst P e h.2),
)

-- the line that a reference names
line_by : (b : Bool) (r : Ref) (o : Option Line) (l : Line) → nat_lt 0 r.number ≡ b → (if b then o else None) ≡ Some l
    → (0 < r.number) × (o ≡ Some l)
line_by true r o l e h = ((decides_lt 0 r.number).0 e, h)
line_by false r o l e h = absurd (cc)

pub line_names : (js : Journals) (r : Ref) (l : Line) → line_of js r ≡ Some l → Names js r l
line_names js r l h = line_by (nat_lt 0 r.number) r (slice_get (journal_of js r.side) (r.number - 1)) l refl h

pub names_line : (js : Journals) (r : Ref) (l : Line) → Names js r l → line_of js r ≡ Some l
names_line js r l n = let e : nat_lt 0 r.number ≡ true = (decides_lt 0 r.number).1 n.0 in rw e n.1

pub decides_line : (js : Journals) (r : Ref) (test : Line → Bool) (P : Line → Type 0)
    → ((l : Line) → Decides (test l) (P l)) → Decides (some_and (line_of js r) test) ((l : Line) × Names js r l × P l)
decides_line js r test P each = Decides-like (some_and (line_of js r) test) (λ h. (h.0, line_names js r h.0 h.1, h.2))
    (λ h. (h.0, names_line js r h.0 h.1, h.2)) (decides_some (line_of js r) test P each)

-- Chains.
some_line : (o : Option Line) → some_and o (λ l. true) ≡ true → (l : Line) × (o ≡ Some l)
some_line None h = absurd (cc)
some_line (Some l) h = (l, refl)

pub decides_is_line : (js : Journals) (r : Ref) → Decides (is_line js r) ((l : Line) × Names js r l)
decides_is_line js r = (
  λ h. (let s = some_line (line_of js r) h in (s.0, line_names js r s.0 s.1)),
  λ h. ap (λ o. some_and o (λ l. true)) (names_line js r h.0 h.1),
)

pub decides_later : (r s : Ref) → Decides (is_later r s) (IsLater r s)
decides_later r s = Decides-and _ _ (decides_side r.side s.side) (decides_lt r.number s.number)

-- Sends and takes.
sent_is : (e : Event) (m : PartnerMessage) → sent_by e ≡ Some m → e ≡ Send m
sent_is (Send x) m h = cc
sent_is _ m h = cc

taken_is : (e : Event) (m : PartnerMessage) → taken_by e ≡ Some m → e ≡ Take m
taken_is (Take x) m h = cc
taken_is _ m h = cc

sent_line : (o : Option Line) (m : PartnerMessage) → sent_in o ≡ Some m → (l : Line) × (o ≡ Some l) × (l.event ≡ Send m)
sent_line None m h = absurd (cc)
sent_line (Some l) m h = (l, refl, sent_is l.event m h)

taken_line : (o : Option Line) (m : PartnerMessage) → taken_in o ≡ Some m
    → (l : Line) × (o ≡ Some l) × (l.event ≡ Take m)
taken_line None m h = absurd (cc)
taken_line (Some l) m h = (l, refl, taken_is l.event m h)

pub decides_take_of : (js : Journals) (r s : Ref) → Decides (is_take_of js r s) (IsTakeOf js r s)
decides_take_of js r s = Decides-like (is_take_of js r s)
    (λ h.
    let a = sent_line (line_of js r) h.1.0 h.1.1 in
    let b = taken_line (line_of js s) h.1.2.0 h.1.2.1 in (
      h.0,
      (
        h.1.0,
        a.0,
        b.0,
        line_names js r a.0 a.1,
        a.2,
        line_names js s b.0 b.1,
        b.2
            ∙ ap (λ m. Take m) (sym h.1.2.2),
      ),
    ))
    (λ h. (
      h.0,
      (
        h.1.0,
        ap sent_in (names_line js r h.1.1 h.1.3) ∙ ap sent_by h.1.4,
        (h.1.0, ap taken_in (names_line js s h.1.2 h.1.5) ∙ ap taken_by h.1.6, refl),
      ),
    ))
    (Decides-and _ _ (decides_side (partner_of r.side) s.side)
    (decides_some (sent_in (line_of js r)) _ (λ m. (n : PartnerMessage) × (taken_in (line_of js s) ≡ Some n) × (m ≡ n))
    (λ m. decides_some (taken_in (line_of js s)) _ (λ n. m ≡ n) (λ n. decides_message m n))))

pub decides_chain : (js : Journals) (chain : List Ref) → Decides (is_chain js chain) (IsChain js chain)
decides_chain js [] = (λ h. cc, λ h. absurd h)
decides_chain js (r ∷ []) = decides_is_line js r
decides_chain js (r ∷ s ∷ rs) = Decides-like (is_line js r && (follows js r s && is_chain js (s ∷ rs)))
    (λ h. (h.0, h.1.0, h.1.1)) (λ h. (h.0, (h.1, h.2)))
    (Decides-and _ _ (decides_is_line js r)
    (Decides-and _ _ (Decides-or _ _ (decides_later r s) (decides_take_of js r s)) (decides_chain js (s ∷ rs))))

pub decides_at : (o : Option Ref) (r : Ref) → Decides (is_at o r) (o ≡ Some r)
decides_at o r = Decides-like (is_at o r) (λ h. h.1 ∙ ap (λ x. Some x) h.2) (λ e. (r, e, refl))
    (decides_some o (λ s. same_ref s r) (λ s. s ≡ r) (λ s. decides_ref s r))

pub last_ends : (chain : List Ref) (r : Ref) → last_of_chain chain ≡ Some r → EndsWith chain r
last_ends [] r h = cc
last_ends (s ∷ []) r h = cc
last_ends (s ∷ t ∷ ts) r h = last_ends (t ∷ ts) r h

pub ends_last : (chain : List Ref) (r : Ref) → EndsWith chain r → last_of_chain chain ≡ Some r
ends_last [] r h = absurd h
ends_last (s ∷ []) r h = ap (λ x. Some x) h
ends_last (s ∷ t ∷ ts) r h = ends_last (t ∷ ts) r h

first_begins : (chain : List Ref) (r : Ref) → first_of_chain chain ≡ Some r → (rest : List Ref) × (chain ≡ r ∷ rest)
first_begins [] r h = absurd (cc)
first_begins (s ∷ rs) r h = (rs, cc)

pub leads_from : (js : Journals) (chain : List Ref) (r s : Ref) → IsChain js chain → first_of_chain chain ≡ Some r
    → last_of_chain chain ≡ Some s → Leads js chain r s
leads_from js chain r s c f l = record {
  rest = (first_begins chain r f).0;
  begins = (first_begins chain r f).1;
  ends =
      last_ends chain s l;
  links = c;
}

pub decides_leads : (js : Journals) (chain : List Ref) (r s : Ref) → Decides (leads js chain r s) (Leads js chain r s)
decides_leads js chain r s = Decides-like (leads js chain r s)
    (λ h. leads_from js chain r s h.0 h.1.0 h.1.1)
    (λ h. (h.links, (ap first_of_chain h.begins, ends_last chain s h.ends)))
    (Decides-and _ _ (decides_chain js chain)
    (Decides-and _ _ (decides_at (first_of_chain chain) r) (decides_at (last_of_chain chain) s)))

-- Bounds.
decides_reading : (js : Journals) (o : Option Ref) (test : ℕ → Bool) (P : ℕ → Type 0)
    → ((x : ℕ) → Decides (test x) (P x)) → Decides (reading_at js o test) ((r : Ref) × (o ≡ Some r)
    × ((l : Line) × Names js r l × P l.reading))
decides_reading js o test P each = decides_some o _ (λ r. (l : Line) × Names js r l × P l.reading)
    (λ r. decides_line js r (λ l. test l.reading) (λ l. P l.reading) (λ l. each l.reading))

pub decides_written_by : (js : Journals) (chain : List Ref) (r : Ref) (test : ℕ → Bool) (P : ℕ → Type 0)
    → ((x : ℕ) → Decides (test x) (P x)) → Decides (written_by js chain r test) ((x : ℕ) × WrittenBy js chain r x × P x)
decides_written_by js chain r test P each = Decides-like (written_by js chain r test)
    (λ h. (
      h.1.1.2.0.reading,
      record {
        end = h.1.1.0;
        line = h.1.1.2.0;
        leads =
            leads_from js chain r h.1.1.0 h.0 h.1.0 h.1.1.1;
        names = h.1.1.2.1;
        read = refl;
      },
      h.1.1.2.2,
    ))
    (λ h. (
      h.1.leads.links,
      (
        ap first_of_chain h.1.leads.begins,
        (h.1.end, ends_last chain h.1.end h.1.leads.ends, (h.1.line, h.1.names, subst P (sym h.1.read) h.2)),
      ),
    ))
    (Decides-and _ _ (decides_chain js chain)
    (Decides-and _ _ (decides_at (first_of_chain chain) r) (decides_reading js (last_of_chain chain) test P each)))

pub decides_written_from : (js : Journals) (chain : List Ref) (r : Ref) (test : ℕ → Bool) (P : ℕ → Type 0)
    → ((x : ℕ) → Decides (test x) (P x)) → Decides (written_from js chain r test) ((x : ℕ) × WrittenFrom js chain r x
    × P x)
decides_written_from js chain r test P each = Decides-like (written_from js chain r test)
    (λ h. (
      h.1.1.2.0.reading,
      record {
        begin = h.1.1.0;
        line = h.1.1.2.0;
        leads =
            leads_from js chain h.1.1.0 r h.0 h.1.1.1 h.1.0;
        names = h.1.1.2.1;
        read = refl;
      },
      h.1.1.2.2,
    ))
    (λ h. (
      h.1.leads.links,
      (
        ends_last chain r h.1.leads.ends,
        (h.1.begin, ap first_of_chain h.1.leads.begins, (h.1.line, h.1.names, subst P (sym h.1.read) h.2)),
      ),
    ))
    (Decides-and _ _ (decides_chain js chain)
    (Decides-and _ _ (decides_at (last_of_chain chain) r) (decides_reading js (first_of_chain chain) test P each)))

pub decides_precedes : (js : Journals) (skew : ℕ) (order : Precedes) (r s : Ref)
    → Decides (precedes js skew order r s) (IsSurelyBefore js skew order r s)
decides_precedes js skew (Chain chain) r s = Decides-and _ _ (decides_leads js chain r s) (decides_le 2 (length chain))
decides_precedes js skew (Clock first second) r s = Decides-like (precedes js skew (Clock first second) r s)
    (λ h. (h.0, h.2.0, h.1, h.2.1, h.2.2))
    (λ h. (h.0, h.2, (h.1, h.3, h.4)))
    (decides_written_by js first r _ (λ x. (y : ℕ) × WrittenFrom js second s y × (x + skew + skew < y))
    (λ x. decides_written_from js second s _ (λ y. x + skew + skew < y) (λ y. decides_lt (x + skew + skew) y)))

-- What meets the relation passes the test.
passes : (b t : Bool) (P : Type 0) → (IsTrue b ↔ P) → Decides t P → b ≡ t
passes true t P h d = sym (d.1 (h.0 refl))
passes false true P h d = h.1 (d.0 refl)
passes false false P h d = refl

pub both_pass : (o p : Option PartnerMessage) (m n : PartnerMessage) (b : Bool) → o ≡ Some m → p ≡ Some n
    → (IsTrue b ↔ (m ≡ n)) → b ≡ same_messages o p
both_pass o p m n b e f h = passes b (same_message m n) (m ≡ n) h (decides_message m n)
    ∙ (sym (ap (λ x. same_messages x (Some n)) e) ∙ sym (ap (same_messages o) f))

pub take_decided : (js : Journals) (r s : Ref) (b : Bool) → b ≡ is_take_of js r s → IsTrue b ↔ IsTakeOf js r s
take_decided js r s b e = let d = decides_take_of js r s in (λ h. d.0 (sym e ∙ h), λ h. e ∙ d.1 h)
