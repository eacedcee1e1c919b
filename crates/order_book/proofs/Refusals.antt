-- Which refusal comes first.
use Rattle.std.proofs.Common.{◌≡◌, ◌≢◌, ℕ, ◌<◌, arith, subst, inl, inr, Result, Ok, Err}
use Rattle.std.specs.Prelude.{IfErr}
use Rattle.journal_lines.specs.declared.event.Event.{Event}
use Rattle.journal_lines.specs.declared.line.Line.{Line}
use Rattle.book_state.specs.Book.{BookState}
use Rattle.order_book.specs.declared.order.Order.{Order}
use Rattle.order_book.specs.declared.order.Order.TheVariants.{Request, Renew, Release}
use Rattle.order_book.specs.declared.error.BookError.{BookError}
use Rattle.order_book.specs.declared.error.BookError.TheVariants.{NotServing, Full, NoBinding, NoPrefix, Rule, Memory}
use Rattle.order_book.specs.Named.{IsNamed}
use Rattle.order_book.specs.Answer.{reading_of, next_line, LacksBinding, LacksPrefix, IsLacking, BreaksFirst, Applies}
use Rattle.order_book.specs.Answer.{rank, MayServe, IsFirstRefusal}

one_lack : (b : BookState) (order : Order) → LacksBinding b order → LacksPrefix b order → ⊥
one_lack b (Request a) x y = x
one_lack b (Renew a) x y = y
one_lack b (Release a) x y = y
one_lack b _ x y = x

pub named_not_unbound : (b : BookState) (now : ℕ) (order : Order) (e : Event) → IsNamed b now order e
    → LacksBinding b order → ⊥
named_not_unbound b now (Request a) e named lack = lack
named_not_unbound b now (Renew a) e named lack = lack named.0 named.1
named_not_unbound b now (Release a) e named lack = lack named.0 named.1
named_not_unbound b now _ e named lack = lack

pub named_not_out : (b : BookState) (now : ℕ) (order : Order) (e : Event) → IsNamed b now order e → LacksPrefix b order
    → ⊥
named_not_out b now (Request a) e named lack =
    elim named.1 [ inl bound ↦ lack.0 named.0 bound | inr lowest ↦ lack.1 named.0 lowest.1.0 ]
named_not_out b now _ e named lack = lack

pub lacking_first : (b : BookState) (now : ℕ) (order : Order) (e : BookError) → MayServe b now order
    → IsLacking b order e → IsFirstRefusal b now order e
lacking_first b now order NoBinding may lack = record { applies = lack; first = before } where
  before : (x : BookError) → rank x < 3 → Applies b now order x → ⊥
  before NotServing lt applies = may.serves applies
  before Full lt applies = may.room applies
  before NoBinding lt applies = omega (arith, lt)
  before NoPrefix lt applies = omega (arith, lt)
  before (Rule line rule) lt applies = omega (arith, lt)
  before Memory lt applies = omega (arith, lt)
lacking_first b now order NoPrefix may lack = record { applies = lack; first = before } where
  before : (x : BookError) → rank x < 4 → Applies b now order x → ⊥
  before NotServing lt applies = may.serves applies
  before Full lt applies = may.room applies
  before NoBinding lt applies = one_lack b order applies lack
  before NoPrefix lt applies = omega (arith, lt)
  before (Rule line rule) lt applies = omega (arith, lt)
  before Memory lt applies = omega (arith, lt)
lacking_first b now order _ may lack = absurd lack

pub broken_first : (b : BookState) (now r : ℕ) (order : Order) (event : Event) (e : BookError) → r ≡ reading_of b now
    → MayServe b now order → IsNamed b r order event → BreaksFirst b (next_line b r event) e
    → IsFirstRefusal b now order e
broken_first b now r order event (Rule line rule) at may named broken =
    record {
      applies = (
        event,
        subst (λ (n : ℕ). IsNamed b n order event) at named,
        subst (λ (n : ℕ). BreaksFirst b (next_line b n event) (Rule line rule)) at broken,
      );
      first = before;
    } where
      before : (x : BookError) → rank x < 5 → Applies b now order x → ⊥
      before NotServing lt applies = may.serves applies
      before Full lt applies = may.room applies
      before NoBinding lt applies = named_not_unbound b r order event named applies
      before NoPrefix lt applies = named_not_out b r order event named applies
      before (Rule line rule) lt applies = omega (arith, lt)
      before Memory lt applies = omega (arith, lt)
broken_first b now r order event _ at may named broken = absurd broken

pub lacking_not_memory : (b : BookState) (order : Order) (e : BookError) → IsLacking b order e → e ≢ Memory
lacking_not_memory b order e lack is = subst (IsLacking b order) is lack

pub broken_not_memory : (b : BookState) (l : Line) (e : BookError) → BreaksFirst b l e → e ≢ Memory
broken_not_memory b l e broken is = subst (BreaksFirst b l) is broken

-- what a refusal means, means it of a result
pub err_map : {X E : Type 0} (r : Result X E) (P Q : E → Type 0) → ((e : E) → P e → Q e) → IfErr r P → IfErr r Q
err_map (Ok x) P Q f h = h
err_map (Err e) P Q f h = f e h
