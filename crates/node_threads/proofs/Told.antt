-- What clients' messages order adds receipts, and takes no message of the partner's.
use Rattle.std.specs.Prelude.{◌≡◌, ℕ, List, [], ◌∷◌, ◌++◌, take, Option, Result, Ok, Err}
use Rattle.std.proofs.Common.{refl, ap, sym, subst, ◌∙◌, append_assoc, append-nil, inl, inr}
use Rattle.dhcp6_pd.specs.declared.message.ClientKind.{ClientKind}
use Rattle.dhcp6_pd.specs.declared.message.ClientKind.TheVariants.{Solicit, Request as RequestKind, Renew as RenewKind}
use Rattle.dhcp6_pd.specs.declared.message.ClientKind.TheVariants.{Rebind}
use Rattle.dhcp6_pd.specs.declared.message.ClientKind.TheVariants.{Release as ReleaseKind}
use Rattle.dhcp6_pd.specs.declared.message.ClientMessage.{ClientMessage}
use Rattle.dhcp6_pd.specs.declared.message.IaPd.{IaPd}
use Rattle.journal_lines.specs.declared.line.Journal.{Journal}
use Rattle.order_book.specs.declared.order.Order.{Order}
use Rattle.order_book.specs.declared.order.Order.TheVariants.{Seize}
use Rattle.order_book.specs.declared.reply.Reply.{Reply}
use Rattle.order_book.specs.declared.reply.Reply.TheVariants.{Granted, Released as ReleasedReply}
use Rattle.order_book.specs.Replayed.{state_of}
use Rattle.server_book.specs.declared.messages.IaAnswer.{IaAnswer}
use Rattle.server_book.specs.declared.messages.IaAnswer.TheVariants.{Given, NoPrefix, NoBinding, Released}
use Rattle.server_book.specs.declared.reply_policy.ReplyPolicy.{ReplyPolicy}
use Rattle.server_book.specs.Messages.{asked_in}
use Rattle.locked_book.specs.declared.error.ServeError.{ServeError}
use Rattle.locked_book.specs.declared.receipt.Receipt.{Receipt}
use Rattle.client_service.specs.declared.partner_availability.PartnerAvailability.{PartnerAvailability}
use Rattle.client_service.specs.declared.partner_availability.PartnerAvailability.TheVariants.{Up, Down}
use Rattle.client_service.specs.declared.no_reply_reason.NoReplyReason.{NoReplyReason}
use Rattle.client_service.specs.declared.no_reply_reason.NoReplyReason.TheVariants.{NothingRequested, Refused, UnknownBinding, TooLong, Memory}
use Rattle.client_service.specs.Serving.{IsOrderServed}
use Rattle.client_service.specs.Telling.{ByLine, IsServedAs, IsOfferedAs, EndsAtOnce, EndsWithSeize}
use Rattle.client_service.specs.Answering.{order_for, AreTold, IsTold, HasNoReply}
use Rattle.failover_session.specs.Receipts.{last_taken, Goes, IsOther}
use Rattle.node_threads.proofs.Going.{named_next, one_goes, goes_nowhere, goes_on, by_kind}

-- no receipt more
none_more : (had added : List Receipt) → added ≡ [] → Goes had (had ++ added)
none_more had added none = goes_nowhere had (had ++ added) (ap (λ rs. had ++ rs) none ∙ append-nil had)

module _ (MayHave : List Receipt → Journal → Type 0) (now : ℕ) where
  -- one receipt more
  one_served : (had : List Receipt) (order : Order) (r : Receipt) → IsOther order
      → IsOrderServed MayHave now had order (Ok r) → Goes had (had ++ r ∷ [])
  one_served had order r other served =
      one_goes had (had ++ r ∷ []) r refl
      (named_next (state_of served.0) r.line.reading order r.line.event (last_taken had) other served.3.1.line.named)

  by_line : (had : List Receipt) (order : Order) (added : List Receipt) (reply : Reply) → IsOther order
      → ByLine MayHave now had order added reply → Goes had (had ++ added)
  by_line had order added reply other h =
      subst (λ rs. Goes had (had ++ rs)) (sym h.1) (one_served had order h.0 other h.3)

  served_goes : (had : List Receipt) (order : Order) (added : List Receipt) (answer : IaAnswer) → IsOther order
      → IsServedAs MayHave now had order added answer → Goes had (had ++ added)
  served_goes had order added (Given p valid) other h = by_line had order added (Granted p valid) other h
  served_goes had order added Released other h = by_line had order added ReleasedReply other h
  served_goes had order added NoPrefix other h = none_more had added h.0
  served_goes had order added NoBinding other h = none_more had added h.0

  offered_goes : (had : List Receipt) (order : Order) (added : List Receipt) (answer : IaAnswer)
      → IsOfferedAs MayHave now had order added answer → Goes had (had ++ added)
  offered_goes had order added (Given p valid) h = none_more had added h.0
  offered_goes had order added NoPrefix h = none_more had added h.0
  offered_goes had order added NoBinding h = absurd h
  offered_goes had order added Released h = absurd h

  at_once_goes : (kind : ClientKind) (had : List Receipt) (order : Order) (added : List Receipt)
      (result : Result IaAnswer ServeError) → IsOther order → EndsAtOnce MayHave kind now had order added result
      → Goes had (had ++ added)
  at_once_goes Solicit had order added (Ok answer) other h = offered_goes had order added answer h
  at_once_goes RequestKind had order added (Ok answer) other h = served_goes had order added answer other h
  at_once_goes RenewKind had order added (Ok answer) other h = served_goes had order added answer other h
  at_once_goes Rebind had order added (Ok answer) other h = served_goes had order added answer other h
  at_once_goes ReleaseKind had order added (Ok answer) other h = served_goes had order added answer other h
  at_once_goes kind had order added (Err e) other h = none_more had added h.0

  ends_goes : (partner : PartnerAvailability) (kind : ClientKind) (had : List Receipt) (order : Order) (added : List Receipt)
      (result : Result IaAnswer ServeError) → IsOther order → EndsWithSeize MayHave partner kind now had order added result
      → Goes had (had ++ added)
  ends_goes Up kind had order added result other h = at_once_goes kind had order added result other h
  ends_goes Down kind had order added result other (inl h) = at_once_goes kind had order added result other h.1
  ends_goes Down kind had order added result other (inr more) =
      elim more.goes_on [
        | inl h ↦
            let first = one_served had (Seize h.3.0) h.0 tt h.3.2 in
            let then = at_once_goes kind (had ++ h.0 ∷ []) order h.1 result other h.4 in
            subst (λ rs. Goes had rs) (append_assoc had (h.0 ∷ []) h.1 ∙ ap (λ rs. had ++ rs) (sym h.2))
            (goes_on had (had ++ h.0 ∷ []) ((had ++ h.0 ∷ []) ++ h.1) first then)
        | inr h ↦ none_more had added h.0
      ]

  module _ (partner : PartnerAvailability) (m : ClientMessage) where
    all_go : (had : List Receipt) (ias : List IaPd) (answers : List IaAnswer) (added : List Receipt)
        → AreTold MayHave partner m [] now had ias answers added → Goes had (had ++ added)
    all_go had [] [] added h = none_more had added h
    all_go had [] (a ∷ answers) added h = absurd h
    all_go had (ia ∷ ias) [] added h = absurd h
    all_go had (ia ∷ ias) (a ∷ answers) added h =
        let first = ends_goes partner m.kind had (order_for m ia) h.0 (Ok a)
        (by_kind m.kind (asked_in m.client ia)) h.3 in
        let then = all_go (had ++ h.0) ias answers h.1 h.4 in
        subst (λ rs. Goes had rs) (append_assoc had h.0 h.1 ∙ ap (λ rs. had ++ rs) (sym h.2))
        (goes_on had (had ++ h.0) ((had ++ h.0) ++ h.1) first then)

    -- what is told of a message
    pub told_goes : (own : List ℕ) (manner : ReplyPolicy) (had has : List Receipt) (octets : List ℕ) (line : Option ℕ)
        → IsTold MayHave partner own manner m [] now had has octets line → Goes had has
    told_goes own manner had has octets line h =
        subst (λ rs. Goes had rs) (sym h.all) (all_go had m.ias h.answers h.added h.told)

    -- why it is told nothing
    pub silent_goes : (own : List ℕ) (manner : ReplyPolicy) (had has : List Receipt) (why : NoReplyReason)
        → HasNoReply MayHave partner own manner m [] now had has why → Goes had has
    silent_goes own manner had has NothingRequested h =
        subst (λ rs. Goes had rs) (sym h.1) (none_more had h.0 h.2.1)
    silent_goes own manner had has (Refused e) h =
        let t = h.2 in
        let first = all_go had (take t.0 m.ias) t.2 t.3 t.7 in
        let then = ends_goes partner m.kind (had ++ t.3) (order_for m t.1) t.4 (Err e)
        (by_kind m.kind (asked_in m.client t.1)) t.8 in
        subst (λ rs. Goes had rs)
        (append_assoc had t.3 t.4 ∙ (ap (λ rs. had ++ rs) (sym t.6) ∙ sym h.1))
        (goes_on had (had ++ t.3) ((had ++ t.3) ++ t.4) first then)
    silent_goes own manner had has UnknownBinding h =
        subst (λ rs. Goes had rs) (sym h.1) (all_go had m.ias h.2.0 h.0 h.2.1)
    silent_goes own manner had has TooLong h =
        subst (λ rs. Goes had rs) (sym h.1) (all_go had m.ias h.2.0 h.0 h.2.1)
    silent_goes own manner had has Memory h =
        subst (λ rs. Goes had rs) (sym h.1) (all_go had (take h.2.0 m.ias) h.2.1 h.0 h.2.2)
