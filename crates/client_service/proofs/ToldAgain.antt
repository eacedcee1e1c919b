-- What is told without a line.
use Rattle.std.specs.Prelude.{◌≡◌, ℕ, ◌+◌, List, [], ◌∷◌, ◌++◌, length, take, drop, slice_get, Option, Some, None}
use Rattle.std.specs.Prelude.{IfSome, Ok, Err}
use Rattle.std.proofs.Common.{refl, ap, sym, subst, ◌∙◌, add-one}
use Rattle.client_service.specs.declared.permit.Permit.{Permit}
use Rattle.dhcp6_pd.specs.declared.message.ClientMessage.{ClientMessage}
use Rattle.dhcp6_pd.specs.declared.message.IaPd.{IaPd}
use Rattle.journal_lines.specs.declared.line.Journal.{Journal}
use Rattle.order_book.specs.declared.order.Order.{Order}
use Rattle.order_book.specs.declared.error.BookError.{BookError}
use Rattle.order_book.specs.declared.error.BookError.TheVariants.{NoPrefix as NoPrefixLeft, NoBinding as NoSuchBinding}
use Rattle.order_book.specs.declared.error.BookError.TheVariants.{NotServing, Full, Rule, Memory as NoRoom}
use Rattle.order_book.specs.Answer.{IsFirstRefusal}
use Rattle.order_book.specs.Replayed.{IsLegal, state_of}
use Rattle.server_book.specs.declared.messages.IaAnswer.{IaAnswer}
use Rattle.locked_book.specs.declared.receipt.Receipt.{Receipt}
use Rattle.locked_book.specs.declared.error.ServeError.{ServeError}
use Rattle.locked_book.specs.declared.error.ServeError.TheVariants.{Book, Stranger, Memory}
use Rattle.locked_book.specs.Serving.{last_receipt, ReceiptStands}
use Rattle.client_service.specs.declared.reusable_lease.ReusableLease.{ReusableLease}
use Rattle.client_service.specs.declared.terms.ReuseTerms.{ReuseTerms}
use Rattle.client_service.specs.ReusableLeases.{IsReusable}
use Rattle.client_service.specs.declared.ia_outcome.IaOutcome.{IaOutcome}
use Rattle.client_service.specs.Serving.{IsRecalled}
use Rattle.client_service.specs.Answering.{order_for, permit_at}
use Rattle.client_service.specs.Reusing.{later, latest_with, IsReused, IsReusedBy, AreReused}
use Rattle.client_service.specs.Ending.{IsDenial, IsAgainAt, AreFirstAgain}
use Rattle.client_service.proofs.Messages.{take_next, take_count, permit_next}

module _ (MayHave : List Receipt → Journal → Type 0) (t : ReuseTerms) (now : ℕ) (had : List Receipt) (order : Order)
  where
    -- ---- at a book

    module _ (j : Journal) (legal : IsLegal j) (may : MayHave had j)
        (stands : ReceiptStands j.lines (last_receipt had)) where
      pub found_recalled : (found : Option ReusableLease) → IfSome found (IsReusable j t now order)
          → IsRecalled MayHave t now had order (Ok found)
      found_recalled None h = tt
      found_recalled (Some s) h = (j, legal, may, (stands, h))

      pub refused_recalled : (e : BookError) → IsFirstRefusal (state_of j) now order e
          → IsRecalled MayHave t now had order (Err (Book e))
      refused_recalled e h = (j, legal, may, (stands, h))

    -- ---- one order

    pub denied_again : (e : ServeError) (answer : IaAnswer) → IsRecalled MayHave t now had order (Err e)
        → IsDenial e answer → IsReused MayHave t now had order answer None
    denied_again (Book NoSuchBinding) answer h d =
        subst (λ a. IsReused MayHave t now had order a None) (sym d) (refl, h)
    denied_again (Book NoPrefixLeft) answer h d =
        subst (λ a. IsReused MayHave t now had order a None) (sym d) (refl, h)
    denied_again (Book NotServing) answer h d = absurd d
    denied_again (Book Full) answer h d = absurd d
    denied_again (Book (Rule line rule)) answer h d = absurd d
    denied_again (Book NoRoom) answer h d = absurd d
    denied_again (Stranger n l) answer h d = absurd d
    denied_again Memory answer h d = absurd d

pub ruleset again = (denied_again)

-- ---- one IA_PD more

latest_more : (number : Option ℕ) (ns : List (Option ℕ)) (n : Option ℕ)
    → latest_with number (ns ++ n ∷ []) ≡ later (latest_with number ns) n
latest_more number [] n = refl
latest_more number (x ∷ ns) n = latest_more (later number x) ns n

module _ (MayHave : List Receipt → Journal → Type 0) (t : ReuseTerms) (m : ClientMessage) (now : ℕ)
    (had : List Receipt) where
  again_more : (permits : List Permit) (ias : List IaPd) (answers : List IaAnswer) (numbers : List (Option ℕ))
      (ia : IaPd) (answer : IaAnswer) (number : Option ℕ) → AreReused MayHave t m permits now had ias answers numbers
      → IsReusedBy MayHave (permit_at permits (length ias)) t now had (order_for m ia) answer number
      → AreReused MayHave t m permits now had (ias ++ ia ∷ []) (answers ++ answer ∷ []) (numbers ++ number ∷ [])
  again_more permits [] [] [] ia answer number h one = (one, tt)
  again_more permits [] [] (n ∷ ns) ia answer number h one = absurd h
  again_more permits [] (a ∷ answers) ns ia answer number h one = absurd h
  again_more permits (x ∷ ias) [] ns ia answer number h one = absurd h
  again_more permits (x ∷ ias) (a ∷ answers) [] ia answer number h one = absurd h
  again_more permits (x ∷ ias) (a ∷ answers) (n ∷ ns) ia answer number h one = (
    h.0,
    again_more (drop 1 permits) ias answers ns ia answer number h.1
        (subst (λ l. IsReusedBy MayHave l t now had (order_for m ia) answer number)
        (permit_next permits (length ias)) one),
  )

  module _ (permits : List Permit) where
    pub again_there : (place : ℕ) (permit : Permit) (order : Order) → permit ≡ permit_at permits place
        → (ia : IaPd) × (slice_get m.ias place ≡ Some ia) × (order ≡ order_for m ia) → (found : Option IaOutcome)
        → IfSome found (λ x. IsReusedBy MayHave permit t now had order x.answer x.line)
        → IfSome found (λ x. IsAgainAt MayHave t m permits now place had x.answer x.line)
    again_there place permit order by at None h = tt
    again_there place permit order by at (Some x) h = (
      at.0,
      at.1,
      subst (λ (y : Permit × Order). IsReusedBy MayHave y.0 t now had y.1 x.answer x.line)
          (λ i. (by i, at.2 i)) h,
    )

    pub first_again : (count : ℕ) (answers : List IaAnswer) (line : Option ℕ) (answer : IaAnswer) (number : Option ℕ)
        (pushed : List IaAnswer) (last : Option ℕ) → AreFirstAgain MayHave t m permits now count had answers line
        → IsAgainAt MayHave t m permits now count had answer number → pushed ≡ answers ++ answer ∷ []
        → last ≡ later line number → AreFirstAgain MayHave t m permits now (count + 1) had pushed last
    first_again count answers line answer number pushed last first at more greatest =
        let ias : take (count + 1) m.ias ≡ take count m.ias ++ at.0 ∷ [] =
        rw add-one (take_next m.ias count at.0 at.1) in
        let one = subst (λ n. IsReusedBy MayHave (permit_at permits n) t now had (order_for m at.0) answer number)
        (sym (take_count m.ias count at.0 at.1)) at.2 in
        let all = again_more permits (take count m.ias) answers first.0 at.0 answer number first.1 one in (
          first.0 ++ number ∷ [],
          subst (λ (x : List IaPd × List IaAnswer). AreReused MayHave t m permits now had x.0 x.1
              (first.0 ++ number ∷ []))
              (λ i. (sym ias i, sym more i)) all,
          greatest ∙ (ap (λ n. later n number) first.2 ∙ sym (latest_more None first.0 number)),
        )
