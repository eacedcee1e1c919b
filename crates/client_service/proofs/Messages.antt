-- What a message's IA_PDs are told, one after the other.
use Rattle.std.specs.Prelude.{◌≡◌, ℕ, zero, suc, ◌+◌, List, [], ◌∷◌, ◌++◌, length, take, drop, slice_get}
use Rattle.std.specs.Prelude.{Option, Some, None, option_map, Ok}
use Rattle.std.proofs.Common.{refl, ap, sym, subst, ◌∙◌, append_assoc, append-nil, add-one}
use Rattle.client_service.specs.declared.permit.Permit.{Permit}
use Rattle.dhcp6_pd.specs.declared.message.ClientMessage.{ClientMessage}
use Rattle.dhcp6_pd.specs.declared.message.IaPd.{IaPd}
use Rattle.journal_lines.specs.declared.line.Journal.{Journal}
use Rattle.server_book.specs.declared.messages.IaAnswer.{IaAnswer}
use Rattle.server_book.specs.Messages.{asked_in, order_by}
use Rattle.order_book.specs.declared.order.Order.{Order}
use Rattle.locked_book.specs.declared.receipt.Receipt.{Receipt}
use Rattle.client_service.specs.declared.partner_availability.PartnerAvailability.{PartnerAvailability}
use Rattle.client_service.specs.declared.no_reply_reason.NoReplyReason.TheVariants.{Memory}
use Rattle.client_service.specs.declared.ia_outcome.IaOutcome.{IaOutcome}
use Rattle.client_service.specs.Lines.{or_earlier, last_number}
use Rattle.client_service.specs.Telling.{EndsBy}
use Rattle.client_service.specs.Answering.{order_for, permit_at, AreTold}
use Rattle.client_service.specs.Ending.{EndsAt, AreFirstServed, IsCutShort}
use Rattle.client_service.proofs.Orders.{last_number-append}

pub take_next : {X : Type 0} (xs : List X) (i : ℕ) (x : X) → slice_get xs i ≡ Some x
    → take (suc i) xs ≡ take i xs ++ x ∷ []
take_next [] i x h = absurd cc
take_next (y ∷ xs) zero x h = let same : y ≡ x = cc in ap (λ z. z ∷ []) same
take_next (y ∷ xs) (suc i) x h = ap (λ zs. y ∷ zs) (take_next xs i x h)

pub take_count : {X : Type 0} (xs : List X) (i : ℕ) (x : X) → slice_get xs i ≡ Some x → length (take i xs) ≡ i
take_count [] i x h = absurd cc
take_count (y ∷ xs) zero x h = refl
take_count (y ∷ xs) (suc i) x h = ap (λ n. suc n) (take_count xs i x h)

-- behind the first permit the others count from 0
pub permit_next : (permits : List Permit) (n : ℕ) → permit_at permits (suc n) ≡ permit_at (drop 1 permits) n
permit_next [] n = refl
permit_next (permit ∷ permits) n = refl

-- the order at a place is that of the IA_PD there
pub order_there : (m : ClientMessage) (found : Option IaPd) (o : Order)
    → Some o ≡ option_map (λ ia. order_by m.kind (asked_in m.client ia)) found
    → (ia : IaPd) × (found ≡ Some ia) × (o ≡ order_for m ia)
order_there m None o is = absurd cc
order_there m (Some ia) o is = (ia, refl, let same : o ≡ order_for m ia = cc in same)

module _ (MayHave : List Receipt → Journal → Type 0) (partner : PartnerAvailability) (m : ClientMessage) (now : ℕ) where
  told_more : (permits : List Permit) (ias : List IaPd) (answers : List IaAnswer) (added had : List Receipt) (ia : IaPd)
      (answer : IaAnswer) (own : List Receipt) → AreTold MayHave partner m permits now had ias answers added
      → EndsBy MayHave (permit_at permits (length ias)) partner m.kind now (had ++ added) (order_for m ia) own
      (Ok answer)
      → AreTold MayHave partner m permits now had (ias ++ ia ∷ []) (answers ++ answer ∷ []) (added ++ own)
  told_more permits [] [] added had ia answer own h ends =
      let at : had ++ added ≡ had = ap (λ rs. had ++ rs) h ∙ append-nil had in (
        own,
        [],
        ap (λ rs. rs ++ own) h ∙ sym (append-nil own),
        subst (λ rs. EndsBy MayHave (permit_at permits 0) partner m.kind now rs (order_for m ia) own (Ok answer)) at
            ends,
        refl,
      )
  told_more permits [] (a ∷ answers) added had ia answer own h ends = absurd h
  told_more permits (x ∷ ias) [] added had ia answer own h ends = absurd h
  told_more permits (x ∷ ias) (a ∷ answers) added had ia answer own h ends =
      let at : had ++ added ≡ (had ++ h.0) ++ h.1 = ap (λ rs. had ++ rs) h.2 ∙ sym (append_assoc had h.0 h.1) in
      let by = subst (λ l. EndsBy MayHave l partner m.kind now (had ++ added) (order_for m ia) own (Ok answer))
      (permit_next permits (length ias)) ends in (
        h.0,
        h.1 ++ own,
        ap (λ rs. rs ++ own) h.2 ∙ append_assoc h.0 h.1 own,
        h.3,
        told_more (drop 1 permits) ias answers h.1 (had ++ h.0) ia answer own h.4
            (subst (λ rs. EndsBy MayHave (permit_at (drop 1 permits) (length ias)) partner m.kind now rs
            (order_for m ia) own (Ok answer)) at by),
      )

  module _ (permits : List Permit) (had mid has : List Receipt) (count : ℕ) (answers : List IaAnswer) (line : Option ℕ)
      (first : AreFirstServed MayHave partner m permits now count had mid answers line) where
    pub first_more : (t : IaOutcome) → EndsAt MayHave partner m permits now count mid has (Ok t)
        → AreFirstServed MayHave partner m permits now (count + 1) had has (answers ++ t.answer ∷ [])
        (or_earlier t.line line)
    first_more t h =
        let there : EndsBy MayHave (permit_at permits count) partner m.kind now (had ++ first.0) (order_for m h.0) h.2.0
        (Ok t.answer) =
        subst (λ rs. EndsBy MayHave (permit_at permits count) partner m.kind now rs (order_for m h.0) h.2.0
        (Ok t.answer)) first.1 h.2.2 in
        let ends = subst (λ n. EndsBy MayHave (permit_at permits n) partner m.kind now (had ++ first.0)
        (order_for m h.0) h.2.0 (Ok t.answer)) (sym (take_count m.ias count h.0 h.1)) there in
        let more : take (count + 1) m.ias ≡ take count m.ias ++ h.0 ∷ [] = rw add-one (take_next m.ias count h.0 h.1) in
        let told = told_more permits (take count m.ias) answers first.0 had h.0 t.answer h.2.0 first.2 ends in (
          first.0 ++ h.2.0,
          h.2.1 ∙ (ap (λ rs. rs ++ h.2.0) first.1 ∙ append_assoc had first.0 h.2.0),
          subst (λ ias. AreTold MayHave partner m permits now had ias (answers ++ t.answer ∷ []) (first.0 ++ h.2.0))
              (sym more) told,
          ap (λ o. or_earlier o line) h.2.3 ∙ (ap (λ o. or_earlier (last_number h.2.0) o) first.3
              ∙ sym (last_number-append first.0 h.2.0)),
        )

    pub first_pushed : (t : IaOutcome) (told : List IaAnswer) (last : Option ℕ)
        → EndsAt MayHave partner m permits now count mid has (Ok t)
        → told ≡ answers ++ t.answer ∷ [] → last ≡ or_earlier t.line line
        → AreFirstServed MayHave partner m permits now (count + 1) had has told last
    first_pushed t told last h pushed later =
        subst (λ (x : List IaAnswer × Option ℕ). AreFirstServed MayHave partner m permits now (count + 1) had has x.0 x.1)
        (λ i. (sym pushed i, sym later i)) (first_more t h)

    pub first_cut : IsCutShort MayHave partner m permits now had mid Memory
    first_cut = (first.0, first.1, (count, answers, first.2))
