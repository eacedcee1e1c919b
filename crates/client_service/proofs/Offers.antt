-- A SOLICIT writes no line, takeovers apart.
use Rattle.std.specs.Prelude.{◌≡◌, ℕ, List, [], ◌∷◌, ◌++◌, take, drop, Option, Some, None, Result, Ok, Err}
use Rattle.std.specs.Prelude.{if◌then◌else◌}
use Rattle.std.proofs.Common.{ap, subst, ◌∙◌, append-nil, inl, inr}
use Rattle.client_service.specs.declared.permit.Permit.{Permit}
use Rattle.client_service.specs.declared.permit.Permit.TheVariants.{Allowed, Anew, Denied, Unbound, Omitted}
use Rattle.dhcp6_pd.specs.declared.message.ClientKind.TheVariants.{Solicit}
use Rattle.dhcp6_pd.specs.declared.message.ClientMessage.{ClientMessage}
use Rattle.dhcp6_pd.specs.declared.message.IaPd.{IaPd}
use Rattle.journal_lines.specs.declared.line.Journal.{Journal}
use Rattle.order_book.specs.declared.order.Order.{Order}
use Rattle.server_book.specs.declared.messages.IaAnswer.{IaAnswer}
use Rattle.server_book.specs.declared.messages.IaAnswer.TheVariants.{Given, NoPrefix, NoBinding, Released}
use Rattle.locked_book.specs.declared.receipt.Receipt.{Receipt}
use Rattle.locked_book.specs.declared.error.ServeError.{ServeError}
use Rattle.client_service.specs.declared.partner_availability.PartnerAvailability.{PartnerAvailability}
use Rattle.client_service.specs.declared.partner_availability.PartnerAvailability.TheVariants.{Up, Down}
use Rattle.client_service.specs.declared.no_reply_reason.NoReplyReason.{NoReplyReason}
use Rattle.client_service.specs.declared.no_reply_reason.NoReplyReason.TheVariants.{NothingRequested, UnknownBinding, Refused, TooLong, Memory}
use Rattle.client_service.specs.Lines.{is_takeover, number_of, or_earlier, last_number}
use Rattle.client_service.specs.Telling.{IsOfferedAs, EndsAtOnce, EndsWithSeize, EndsBy, IsSeizeServed}
use Rattle.server_book.specs.ReplyPolicy.{plain}
use Rattle.client_service.specs.Answering.{order_for, permit_at, AreTold, HasNoReply}
use Rattle.client_service.specs.Ending.{AreAllServed, IsCutShort}
use Rattle.client_service.proofs.Orders.{last_number-append}

module _ (MayHave : List Receipt → Journal → Type 0) (now : ℕ) where
  offers_nothing : (had : List Receipt) (order : Order) (added : List Receipt) (answer : IaAnswer)
      → IsOfferedAs MayHave now had order added answer → added ≡ []
  offers_nothing had order added (Given p v) h = h.0
  offers_nothing had order added NoPrefix h = h.0
  offers_nothing had order added NoBinding h = absurd h
  offers_nothing had order added Released h = absurd h

  at_once_nothing : (had : List Receipt) (order : Order) (added : List Receipt) (result : Result IaAnswer ServeError)
      → EndsAtOnce MayHave Solicit now had order added result → added ≡ []
  at_once_nothing had order added (Ok answer) h = offers_nothing had order added answer h
  at_once_nothing had order added (Err e) h = h.0

  takeover : (had : List Receipt) (r : Receipt) → IsSeizeServed MayHave now had (Ok r) → number_of r ≡ None
  takeover had r h = ap (λ e. if is_takeover e then None else Some r.number) h.2.3.1.line.named

  numbers_nothing : (partner : PartnerAvailability) (had : List Receipt) (order : Order) (added : List Receipt)
      (result : Result IaAnswer ServeError) → EndsWithSeize MayHave partner Solicit now had order added result
      → last_number added ≡ None
  numbers_nothing Up had order added result h = ap (λ rs. last_number rs) (at_once_nothing had order added result h)
  numbers_nothing Down had order added result (inl h) =
      ap (λ rs. last_number rs) (at_once_nothing had order added result h.1)
  numbers_nothing Down had order added result (inr more) =
      elim more.goes_on [
        | inl h ↦
            ap (λ rs. last_number rs) (h.2 ∙ ap (λ rs. h.0 ∷ rs)
            (at_once_nothing (had ++ h.0 ∷ []) order h.1 result h.4))
            ∙ takeover had h.0 h.3
        | inr h ↦ ap (λ rs. last_number rs) h.0
      ]

  module _ (m : ClientMessage) (solicit : m.kind ≡ Solicit) where
    of_solicit : (partner : PartnerAvailability) (had : List Receipt) (ia : IaPd) (added : List Receipt)
        (result : Result IaAnswer ServeError)
        → EndsWithSeize MayHave partner m.kind now had (order_for m ia) added result
        → EndsWithSeize MayHave partner Solicit now had (order_for m ia) added result
    of_solicit partner had ia added result h =
        subst (λ kind. EndsWithSeize MayHave partner kind now had (order_for m ia) added result) solicit h

    advertises_by : (permit : Permit) (partner : PartnerAvailability) (had : List Receipt) (ia : IaPd) (added : List Receipt)
        (result : Result IaAnswer ServeError)
        → EndsBy MayHave permit partner m.kind now had (order_for m ia) added result → last_number added ≡ None
    advertises_by Allowed partner had ia added result h =
        numbers_nothing partner had (order_for m ia) added result (of_solicit partner had ia added result h)
    advertises_by Anew partner had ia added result h =
        numbers_nothing partner had (order_for m ia) added result (of_solicit partner had ia added result h)
    advertises_by Denied partner had ia added result h = ap (λ rs. last_number rs) h.0
    advertises_by Unbound partner had ia added result h = ap (λ rs. last_number rs) h.0
    advertises_by Omitted partner had ia added result h = ap (λ rs. last_number rs) h.0

    advertises : (permits : List Permit) (partner : PartnerAvailability) (had : List Receipt) (ias : List IaPd)
        (answers : List IaAnswer) (added : List Receipt)
        → AreTold MayHave partner m permits now had ias answers added → last_number added ≡ None
    advertises permits partner had [] [] added h = ap (λ rs. last_number rs) h
    advertises permits partner had [] (a ∷ answers) added h = absurd h
    advertises permits partner had (ia ∷ ias) [] added h = absurd h
    advertises permits partner had (ia ∷ ias) (a ∷ answers) added h =
        let own = advertises_by (permit_at permits 0) partner had ia h.0 (Ok a) h.3 in
        let rest = advertises (drop 1 permits) partner (had ++ h.0) ias answers h.1 h.4 in
        ap (λ rs. last_number rs) h.2 ∙ (last_number-append h.0 h.1
        ∙ (ap (λ o. or_earlier o (last_number h.0)) rest ∙ own))

    -- of a partner that is up nothing is taken over
    adds_none_by : (permit : Permit) (had : List Receipt) (ia : IaPd) (added : List Receipt)
        (result : Result IaAnswer ServeError)
        → EndsBy MayHave permit Up m.kind now had (order_for m ia) added result → added ≡ []
    adds_none_by Allowed had ia added result h =
        at_once_nothing had (order_for m ia) added result (of_solicit Up had ia added result h)
    adds_none_by Anew had ia added result h =
        at_once_nothing had (order_for m ia) added result (of_solicit Up had ia added result h)
    adds_none_by Denied had ia added result h = h.0
    adds_none_by Unbound had ia added result h = h.0
    adds_none_by Omitted had ia added result h = h.0

    adds_nothing : (permits : List Permit) (had : List Receipt) (ias : List IaPd) (answers : List IaAnswer)
        (added : List Receipt) → AreTold MayHave Up m permits now had ias answers added → added ≡ []
    adds_nothing permits had [] [] added h = h
    adds_nothing permits had [] (a ∷ answers) added h = absurd h
    adds_nothing permits had (ia ∷ ias) [] added h = absurd h
    adds_nothing permits had (ia ∷ ias) (a ∷ answers) added h =
        let own = adds_none_by (permit_at permits 0) had ia h.0 (Ok a) h.3 in
        h.2 ∙ (ap (λ rs. rs ++ h.1) own ∙ adds_nothing (drop 1 permits) (had ++ h.0) ias answers h.1 h.4)

    refused_nothing : (permits : List Permit) (had has : List Receipt) (e : ServeError)
        → HasNoReply MayHave Up [] plain m permits now had has (Refused e) → has ≡ had
    refused_nothing permits had has e h =
        let t = h.2 in
        let before = adds_nothing permits had (take t.0 m.ias) t.2 t.3 t.7 in
        let last = adds_none_by (permit_at permits t.0) (had ++ t.3) t.1 t.4 (Err e) t.8 in
        let none = t.6 ∙ (ap (λ rs. rs ++ t.4) before ∙ last) in
        h.1 ∙ (ap (λ rs. had ++ rs) none ∙ append-nil had)

    cut_nothing : (permits : List Permit) (had has : List Receipt) → HasNoReply MayHave Up [] plain m permits now had has Memory
        → has ≡ had
    cut_nothing permits had has h =
        h.1 ∙ (ap (λ rs. had ++ rs) (adds_nothing permits had (take h.2.0 m.ias) h.2.1 h.0 h.2.2) ∙ append-nil had)

-- what is told of a SOLICIT is told of no line
pub tells_of_none : (MayHave : List Receipt → Journal → Type 0) (partner : PartnerAvailability) (m : ClientMessage)
    (permits : List Permit) (now : ℕ) (had has : List Receipt) (answers : List IaAnswer) (line : Option ℕ)
    → AreAllServed MayHave partner m permits now had has answers line → m.kind ≡ Solicit → line ≡ None
tells_of_none MayHave partner m permits now had has answers line h solicit =
    h.1.3 ∙ advertises MayHave now m solicit permits partner had m.ias answers h.1.0 h.1.2

-- and while the partner is up nothing is written
pub told_writes_none : (MayHave : List Receipt → Journal → Type 0) (partner : PartnerAvailability) (m : ClientMessage)
    (permits : List Permit) (now : ℕ) (had has : List Receipt) (answers : List IaAnswer) (line : Option ℕ)
    → AreAllServed MayHave partner m permits now had has answers line → m.kind ≡ Solicit → partner ≡ Up → has ≡ had
told_writes_none MayHave Up m permits now had has answers line h solicit up =
    h.1.1 ∙ (ap (λ rs. had ++ rs) (adds_nothing MayHave now m solicit permits had m.ias answers h.1.0 h.1.2)
    ∙ append-nil had)
told_writes_none MayHave Down m permits now had has answers line h solicit up = absurd cc

pub cut_writes_none : (MayHave : List Receipt → Journal → Type 0) (partner : PartnerAvailability) (m : ClientMessage)
    (permits : List Permit) (now : ℕ) (had has : List Receipt) (why : NoReplyReason)
    → IsCutShort MayHave partner m permits now had has why → m.kind ≡ Solicit → partner ≡ Up → has ≡ had
cut_writes_none MayHave Up m permits now had has (Refused e) h solicit up =
    refused_nothing MayHave now m solicit permits had has e h
cut_writes_none MayHave Up m permits now had has Memory h solicit up =
    cut_nothing MayHave now m solicit permits had has h
cut_writes_none MayHave Up m permits now had has NothingRequested h solicit up = absurd h
cut_writes_none MayHave Up m permits now had has UnknownBinding h solicit up = absurd h
cut_writes_none MayHave Up m permits now had has TooLong h solicit up = absurd h
cut_writes_none MayHave Down m permits now had has why h solicit up = absurd cc
