-- An order has one answer, or one first refusal, and not both.
use Rattle.std.proofs.Common.{◌≡◌, ℕ, ap, ap₂, sym, ◌∙◌, subst, arith, inl, inr, refl}
use Rattle.std.proofs.lemmas.Bool.{cases_lt}
use Rattle.journal_lines.specs.declared.event.Event.{Event}
use Rattle.journal_lines.specs.declared.line.Line.{Line}
use Rattle.book_rules.specs.declared.rule.Rule.{Rule as RuleName}
use Rattle.book_state.specs.Book.{BookState}
use Rattle.book_state.specs.Places.{AreDisjoint}
use Rattle.book_rules.specs.Rules.{IsStep, IsLeastBroken}
use Rattle.book_rules.proofs.OneVerdict.{one_rule}
use Rattle.order_book.specs.declared.order.Order.{Order}
use Rattle.order_book.specs.declared.error.BookError.{BookError}
use Rattle.order_book.specs.declared.error.BookError.TheVariants.{NotServing, Full, NoBinding, NoPrefix, Rule, Memory}
use Rattle.order_book.specs.Named.{IsNamed}
use Rattle.order_book.specs.Answer.{reading_of, next_line, reply_to, Applies, rank, IsServed}
use Rattle.order_book.specs.Replayed.{state_of}
use Rattle.order_book.specs.Laws.{OneAnswer, OneRefusal, NotBoth}
use Rattle.order_book.proofs.OneName.{legal_disjoint, one_named}
use Rattle.order_book.proofs.Refusals.{named_not_unbound, named_not_out}

abbrev line_at : ℕ → ℕ → Event → Line
line_at number reading event = record { number = number; reading = reading; event = event }

-- the line that is served, by its event
served_line : (b : BookState) (now : ℕ) (order : Order) (l : Line) → IsServed b now order l
    → l ≡ next_line b (reading_of b now) l.event
served_line b now order l s = ap₂ (λ (n r : ℕ). line_at n r l.event) s.number s.reading

served_named : (b : BookState) (now : ℕ) (order : Order) (l : Line) → IsServed b now order l
    → IsNamed b (reading_of b now) order l.event
served_named b now order l s = subst (λ (r : ℕ). IsNamed b r order l.event) s.reading s.named

served_step : (b : BookState) (now : ℕ) (order : Order) (l : Line) → IsServed b now order l
    → IsStep b (next_line b (reading_of b now) l.event)
served_step b now order l s = subst (λ (k : Line). IsStep b k) (served_line b now order l s) s.legal

one_line : (b : BookState) (now : ℕ) (order : Order) (l m : Line) → AreDisjoint b.pools → IsServed b now order l
    → IsServed b now order m → l ≡ m
one_line b now order l m d x y =
    elim (one_named b (reading_of b now) order l.event m.event d (served_named b now order l x)
    (served_named b now order m y)) [
      | inl same ↦ served_line b now order l x
          ∙ (ap (next_line b (reading_of b now)) same ∙ sym (served_line b now order m y))
      | inr like ↦ absurd (like.first (served_step b now order l x))
    ]

pub one_answer : OneAnswer
one_answer j now order l m x y legal a c =
    let same = one_line (state_of j) now order l m (legal_disjoint j legal) a.line c.line in
    (same, a.told ∙ (ap (λ (k : Line). reply_to (state_of j) k.reading k.event) same ∙ sym c.told))

one_broken : (b : BookState) (now : ℕ) (order : Order) (n m : ℕ) (x y : RuleName) → AreDisjoint b.pools
    → Applies b now order (Rule n x) → Applies b now order (Rule m y) → Rule n x ≡ Rule m y
one_broken b now order n m x y d (e, named, (number, broken)) (f, named2, (number2, broken2)) =
    let lines : n ≡ m = number ∙ sym number2 in
    let rules : x ≡ y = elim (one_named b (reading_of b now) order e f d named named2) [
      | inl same ↦ one_rule b (next_line b (reading_of b now) e) x y broken
          (subst (λ (v : Event). IsLeastBroken b (next_line b (reading_of b now) v) y) (sym same) broken2)
      | inr like ↦ like.same x y broken broken2
    ] in
    ap₂ Rule lines rules

one_of_rank : (b : BookState) (now : ℕ) (order : Order) (e f : BookError) → AreDisjoint b.pools → rank e ≡ rank f
    → Applies b now order e → Applies b now order f → e ≡ f
one_of_rank b now order NotServing NotServing d same x y = refl
one_of_rank b now order Full Full d same x y = refl
one_of_rank b now order NoBinding NoBinding d same x y = refl
one_of_rank b now order NoPrefix NoPrefix d same x y = refl
one_of_rank b now order (Rule n r) (Rule m s) d same x y = one_broken b now order n m r s d x y
one_of_rank b now order Memory f d same x y = absurd x
one_of_rank b now order e Memory d same x y = absurd y
one_of_rank b now order e f d same x y = absurd (omega (arith, same))

pub one_refusal : OneRefusal
one_refusal j now order e f legal x y = elim (cases_lt (rank e) (rank f)) [
  | inl less ↦ absurd (y.first e less x.applies)
  | inr le ↦ elim (cases_lt (rank f) (rank e)) [
    | inl less ↦ absurd (x.first f less y.applies)
    | inr ge ↦ one_of_rank (state_of j) now order e f (legal_disjoint j legal) (omega arith) x.applies y.applies
  ]
]

apart_by : (b : BookState) (now : ℕ) (order : Order) (l : Line) (e : BookError) → AreDisjoint b.pools
    → IsServed b now order l → Applies b now order e → ⊥
apart_by b now order l NotServing d s x = s.may.serves x
apart_by b now order l Full d s x = s.may.room x
apart_by b now order l NoBinding d s x =
    named_not_unbound b (reading_of b now) order l.event (served_named b now order l s) x
apart_by b now order l NoPrefix d s x =
    named_not_out b (reading_of b now) order l.event (served_named b now order l s) x
apart_by b now order l (Rule n r) d s (f, named, (number, broken)) =
    elim (one_named b (reading_of b now) order l.event f d (served_named b now order l s) named) [
      | inl same ↦ broken.broken (subst (λ (v : Event). IsStep b (next_line b (reading_of b now) v)) same
          (served_step b now order l s) r)
      | inr like ↦ like.first (served_step b now order l s)
    ]
apart_by b now order l Memory d s x = x

pub not_both : NotBoth
not_both j now order l e legal s x = apart_by (state_of j) now order l e (legal_disjoint j legal) s x.applies
