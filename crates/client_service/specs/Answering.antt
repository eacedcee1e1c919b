-- What a client is told of its whole message, or why it is told nothing.
use Rattle.std.specs.Prelude.{◌≡◌, ⊤, Bool, true, false, ℕ, ◌<◌, List, [], ◌∷◌, ◌++◌, length, take, drop, slice_get, Option}
use Rattle.std.specs.Prelude.{Some, None}
use Rattle.std.specs.Prelude.{Ok, Err}
use Rattle.client_service.specs.declared.permit.Permit.{Permit}
use Rattle.client_service.specs.declared.permit.Permit.TheVariants.{Allowed, Anew, Denied, Unbound, Omitted}
use Rattle.dhcp6_pd.specs.declared.message.ClientMessage.{ClientMessage}
use Rattle.dhcp6_pd.specs.declared.message.IaPd.{IaPd}
use Rattle.dhcp6_pd.specs.declared.numbers.TheConstants.{MAX_OCTETS}
use Rattle.dhcp6_pd.specs.Layout.{message_octets}
use Rattle.journal_lines.specs.declared.line.Journal.{Journal}
use Rattle.order_book.specs.declared.order.Order.{Order}
use Rattle.server_book.specs.declared.messages.IaAnswer.{IaAnswer}
use Rattle.server_book.specs.declared.reply_policy.ReplyPolicy.{ReplyPolicy}
use Rattle.server_book.specs.Messages.{asked_in, order_by, answer_of, is_elsewhere, information_answer}
use Rattle.dhcp6_pd.specs.declared.message.InformationRequest.{InformationRequest}
use Rattle.locked_book.specs.declared.receipt.Receipt.{Receipt}
use Rattle.client_service.specs.declared.partner_availability.PartnerAvailability.{PartnerAvailability}
use Rattle.client_service.specs.declared.no_reply_reason.NoReplyReason.{NoReplyReason}
use Rattle.client_service.specs.declared.no_reply_reason.NoReplyReason.TheVariants.{NothingRequested, Refused, UnknownBinding, TooLong, Memory}
use Rattle.client_service.specs.Lines.{last_number}
use Rattle.client_service.specs.Telling.{EndsBy}

-- the order of an IA_PD of the message
abbrev pub order_for : ClientMessage → IaPd → Order
order_for m ia = order_by m.kind (asked_in m.client ia)

-- whether the IA_PD at a place may be ordered: behind the end of the list all may
abbrev pub permit_of : Option Permit → Permit
permit_of None = Allowed
permit_of (Some permit) = permit

abbrev pub permit_at : List Permit → ℕ → Permit
permit_at permits place = permit_of (slice_get permits place)

-- whether an IA_PD of this permit is ordered
abbrev pub is_ordered : Permit → Bool
is_ordered Allowed = true
is_ordered Anew = true
is_ordered Denied = false
is_ordered Unbound = false
is_ordered Omitted = false

-- each IA_PD in its order is told this, by its permit and the receipts that its own order added
abbrev pub AreTold : (List Receipt → Journal → Type 0) → PartnerAvailability → ClientMessage → List Permit → ℕ → List Receipt
    → List IaPd → List IaAnswer → List Receipt → Type 0
AreTold MayHave partner m permits now had [] [] added = added ≡ []
AreTold MayHave partner m permits now had (ia ∷ ias) (answer ∷ answers) added =
    (own : List Receipt) × (rest : List Receipt) × (added ≡ own ++ rest)
    × EndsBy MayHave (permit_at permits 0) partner m.kind now had (order_for m ia) own (Ok answer)
    × AreTold MayHave partner m (drop 1 permits) now (had ++ own) ias answers rest
AreTold MayHave partner m permits now had _ _ added = ⊥

-- The octets are those of the server's answer to the message: it tells each IA_PD what the receipts say that were
-- added. The number is that of the last line that it tells of.
pub record IsTold (MayHave : List Receipt → Journal → Type 0) (partner : PartnerAvailability) (own : List ℕ) (manner : ReplyPolicy)
    (m : ClientMessage) (permits : List Permit) (now : ℕ) (had has : List Receipt) (octets : List ℕ)
    (line : Option ℕ) : Type 0 where
  pub answers : List IaAnswer
  pub added : List Receipt
  pub all : has ≡ had ++ added
  pub told : AreTold MayHave partner m permits now had m.ias answers added
  pub spelled : octets ≡ message_octets (answer_of m own manner answers)
  pub known : is_elsewhere m manner answers ≡ false
  pub last : line ≡ last_number added

-- ---- no answer

-- why there is none, where so many receipts were added: those of the IA_PDs that were served before stand
abbrev pub IsNoReplyReason : (List Receipt → Journal → Type 0) → PartnerAvailability → List ℕ → ReplyPolicy → ClientMessage → List Permit → ℕ
    → List Receipt → List Receipt → NoReplyReason → Type 0
IsNoReplyReason MayHave partner own manner m permits now had added NothingRequested = (m.ias ≡ []) × (added ≡ [])
IsNoReplyReason MayHave partner own manner m permits now had added (Refused e) =
    (place : ℕ) × (ia : IaPd) × (answers : List IaAnswer) × (earlier : List Receipt) × (last : List Receipt)
    × (slice_get m.ias place ≡ Some ia) × (added ≡ earlier ++ last)
    × AreTold MayHave partner m permits now had (take place m.ias) answers earlier
    × EndsBy MayHave (permit_at permits place) partner m.kind now (had ++ earlier) (order_for m ia) last (Err e)
IsNoReplyReason MayHave partner own manner m permits now had added UnknownBinding =
    (answers : List IaAnswer) × AreTold MayHave partner m permits now had m.ias answers added
    × (is_elsewhere m manner answers ≡ true)
IsNoReplyReason MayHave partner own manner m permits now had added TooLong =
    (answers : List IaAnswer) × AreTold MayHave partner m permits now had m.ias answers added
    × (MAX_OCTETS < length (message_octets (answer_of m own manner answers)))
IsNoReplyReason MayHave partner own manner m permits now had added Memory =
    (count : ℕ) × (answers : List IaAnswer) × AreTold MayHave partner m permits now had (take count m.ias) answers added

-- receipts were added, and no other changed
abbrev pub HasNoReply : (List Receipt → Journal → Type 0) → PartnerAvailability → List ℕ → ReplyPolicy → ClientMessage → List Permit → ℕ
    → List Receipt → List Receipt → NoReplyReason → Type 0
HasNoReply MayHave partner own manner m permits now had has why =
    (added : List Receipt) × (has ≡ had ++ added) × IsNoReplyReason MayHave partner own manner m permits now had added why

-- an answer: what is sent, to whom, and the number of the last line that it tells of
pub record AnswerTo (P : Type 0) : Type 0 where
  pub octets : List ℕ
  pub peer : P
  pub line : Option ℕ

-- ---- requests for options alone

-- why such a request has no answer
abbrev pub IsUninformed : List ℕ → ReplyPolicy → InformationRequest → NoReplyReason → Type 0
IsUninformed own manner i TooLong = MAX_OCTETS < length (message_octets (information_answer i own manner))
IsUninformed own manner i Memory = ⊤
IsUninformed own manner i why = ⊥
