-- For bodies only: what functions answer of an IA_PD, with the number of the line that it is told by.
use Rattle.std.specs.Prelude.{◌≡◌, ℕ, ⊤, Bool, true, false, List, [], ◌∷◌, ◌++◌, Option, Some, None, Result, Ok, Err}
use Rattle.std.specs.Prelude.{◌<◌, length, take, slice_get}
use Rattle.client_service.specs.declared.permit.Permit.{Permit}
use Rattle.dhcp6_pd.specs.declared.message.ClientKind.{ClientKind}
use Rattle.dhcp6_pd.specs.declared.message.ClientKind.TheVariants.{Solicit, Request as RequestKind}
use Rattle.journal_lines.specs.declared.line.Journal.{Journal}
use Rattle.order_book.specs.declared.order.Order.{Order}
use Rattle.order_book.specs.declared.reply.Reply.{Reply}
use Rattle.order_book.specs.declared.reply.Reply.TheVariants.{Granted, Released as ReleasedReply}
use Rattle.order_book.specs.declared.error.BookError.TheVariants.{NoPrefix as NoPrefixLeft, NoBinding as NoSuchBinding}
use Rattle.order_book.specs.Answer.{IsRequest}
use Rattle.server_book.specs.declared.messages.IaAnswer.{IaAnswer}
use Rattle.server_book.specs.declared.messages.IaAnswer.TheVariants.{Given, NoPrefix, NoBinding, Released}
use Rattle.locked_book.specs.declared.receipt.Receipt.{Receipt}
use Rattle.locked_book.specs.declared.error.ServeError.{ServeError}
use Rattle.locked_book.specs.declared.error.ServeError.TheVariants.{Book}
use Rattle.dhcp6_pd.specs.declared.message.ClientMessage.{ClientMessage}
use Rattle.dhcp6_pd.specs.declared.message.IaPd.{IaPd}
use Rattle.dhcp6_pd.specs.declared.message.ServerMessage.{ServerMessage}
use Rattle.dhcp6_pd.specs.declared.numbers.TheConstants.{MAX_OCTETS}
use Rattle.dhcp6_pd.specs.Layout.{message_octets}
use Rattle.server_book.specs.declared.reply_policy.ReplyPolicy.{ReplyPolicy}
use Rattle.server_book.specs.ReplyPolicy.{plain}
use Rattle.server_book.specs.Messages.{answer_of, is_elsewhere}
use Rattle.client_service.specs.declared.no_reply_reason.NoReplyReason.{NoReplyReason}
use Rattle.client_service.specs.declared.no_reply_reason.NoReplyReason.TheVariants.{Refused, UnknownBinding, TooLong, Memory}
use Rattle.client_service.specs.Answering.{order_for, permit_at, AreTold, HasNoReply}
use Rattle.client_service.specs.declared.terms.ReuseTerms.{ReuseTerms}
use Rattle.client_service.specs.Reusing.{IsReusedBy, AreReused, latest}
use Rattle.client_service.specs.declared.partner_availability.PartnerAvailability.{PartnerAvailability}
use Rattle.client_service.specs.declared.ia_outcome.IaOutcome.{IaOutcome}
use Rattle.client_service.specs.Lines.{last_number}
use Rattle.client_service.specs.Telling.{IsClients, EndsAtOnce, EndsBy, IsSeizeServed, NoneTakenOver, IsStrangeTo}

-- told of no line
abbrev pub without_line : IaAnswer → IaOutcome
without_line answer = record { answer = answer; line = None }

-- what a client is told of a refusal
abbrev pub refusal_outcome : ServeError → Result IaOutcome ServeError
refusal_outcome (Book NoPrefixLeft) = Ok (without_line NoPrefix)
refusal_outcome (Book NoSuchBinding) = Ok (without_line NoBinding)
refusal_outcome e = Err e

-- what a client is told of a reply
abbrev pub answer_by : Reply → Option IaAnswer
answer_by (Granted prefix valid) = Some (Given prefix valid)
answer_by ReleasedReply = Some Released
answer_by _ = None

abbrev pub by_line : ℕ → Option IaAnswer → Option IaOutcome
by_line number None = None
by_line number (Some answer) = Some (record { answer = answer; line = Some number })

abbrev pub receipt_outcome : Receipt → Option IaOutcome
receipt_outcome r = by_line r.number (answer_by r.reply)

-- the order of a message of this type
abbrev pub IsOrderOf : ClientKind → Order → Type 0
IsOrderOf Solicit order = IsRequest order
IsOrderOf RequestKind order = IsRequest order
IsOrderOf kind order = IsClients order

abbrev pub answer_in : Result IaOutcome ServeError → Result IaAnswer ServeError
answer_in (Ok t) = Ok t.answer
answer_in (Err e) = Err e

-- the number is that of the last line that was added, takeovers apart
abbrev pub IsNumbered : List Receipt → Result IaOutcome ServeError → Type 0
IsNumbered added (Ok t) = t.line ≡ last_number added
IsNumbered added (Err e) = ⊤

-- what an order ends in at once, where these receipts became those
abbrev pub EndsIn : (List Receipt → Journal → Type 0) → ClientKind → ℕ → Order → List Receipt → List Receipt
    → Result IaOutcome ServeError → Type 0
EndsIn MayHave kind now order had has result =
    (added : List Receipt) × (has ≡ had ++ added) × EndsAtOnce MayHave kind now had order added (answer_in result)
    × IsNumbered added result

-- whether a unit was taken over
abbrev pub Seizes : (List Receipt → Journal → Type 0) → ℕ → List Receipt → List Receipt → Result Bool ServeError
    → Type 0
Seizes MayHave now had has (Ok true) = (r : Receipt) × (has ≡ had ++ r ∷ []) × IsSeizeServed MayHave now had (Ok r)
Seizes MayHave now had has (Ok false) = (has ≡ had) × NoneTakenOver MayHave now had
Seizes MayHave now had has (Err e) = (has ≡ had) × IsStrangeTo MayHave now had e

-- what an IA_PD ends in, where these receipts became those
abbrev pub EndsAs : (List Receipt → Journal → Type 0) → Permit → PartnerAvailability → ClientKind → ℕ → Order → List Receipt
    → List Receipt → Result IaOutcome ServeError → Type 0
EndsAs MayHave permit partner kind now order had has result =
    (added : List Receipt) × (has ≡ had ++ added)
    × EndsBy MayHave permit partner kind now had order added (answer_in result) × IsNumbered added result

-- ---- all of a message

-- what the IA_PD at a place ends in
abbrev pub EndsAt : (List Receipt → Journal → Type 0) → PartnerAvailability → ClientMessage → List Permit → ℕ → ℕ → List Receipt
    → List Receipt → Result IaOutcome ServeError → Type 0
EndsAt MayHave partner m permits now place had has result =
    (ia : IaPd) × (slice_get m.ias place ≡ Some ia)
    × EndsAs MayHave (permit_at permits place) partner m.kind now (order_for m ia) had has result

-- the first so many IA_PDs are told this, and the number is that of the last line that they are told by
abbrev pub AreFirstServed : (List Receipt → Journal → Type 0) → PartnerAvailability → ClientMessage → List Permit → ℕ → ℕ
    → List Receipt → List Receipt → List IaAnswer → Option ℕ → Type 0
AreFirstServed MayHave partner m permits now count had has answers line =
    (added : List Receipt) × (has ≡ had ++ added)
    × AreTold MayHave partner m permits now had (take count m.ias) answers added × (line ≡ last_number added)

-- all of them
abbrev pub AreAllServed : (List Receipt → Journal → Type 0) → PartnerAvailability → ClientMessage → List Permit → ℕ → List Receipt
    → List Receipt → List IaAnswer → Option ℕ → Type 0
AreAllServed MayHave partner m permits now had has answers line =
    (length answers ≡ length m.ias) × ((added : List Receipt) × (has ≡ had ++ added)
    × AreTold MayHave partner m permits now had m.ias answers added × (line ≡ last_number added))

-- a refusal, or memory, came between
abbrev pub IsCutShort : (List Receipt → Journal → Type 0) → PartnerAvailability → ClientMessage → List Permit → ℕ → List Receipt
    → List Receipt → NoReplyReason → Type 0
IsCutShort MayHave partner m permits now had has (Refused e) =
    HasNoReply MayHave partner [] plain m permits now had has (Refused e)
IsCutShort MayHave partner m permits now had has Memory = HasNoReply MayHave partner [] plain m permits now had has Memory
IsCutShort MayHave partner m permits now had has why = ⊥

-- why a message is not encoded
abbrev pub IsUnencoded : ServerMessage → NoReplyReason → Type 0
IsUnencoded s TooLong = MAX_OCTETS < length (message_octets s)
IsUnencoded s Memory = ⊤
IsUnencoded s why = ⊥

-- why nothing is written
abbrev pub IsUnwritten : List ℕ → ReplyPolicy → ClientMessage → List IaAnswer → NoReplyReason → Type 0
IsUnwritten own manner m answers UnknownBinding = is_elsewhere m manner answers ≡ true
IsUnwritten own manner m answers TooLong = MAX_OCTETS < length (message_octets (answer_of m own manner answers))
IsUnwritten own manner m answers Memory = ⊤
IsUnwritten own manner m answers why = ⊥

-- ---- without a line

-- what is told of a refusal
abbrev pub IsDenial : ServeError → IaAnswer → Type 0
IsDenial (Book NoSuchBinding) answer = answer ≡ NoBinding
IsDenial (Book NoPrefixLeft) answer = answer ≡ NoPrefix
IsDenial _ answer = ⊥

-- the IA_PD at a place is told this again
abbrev pub IsAgainAt : (List Receipt → Journal → Type 0) → ReuseTerms → ClientMessage → List Permit → ℕ → ℕ
    → List Receipt → IaAnswer → Option ℕ → Type 0
IsAgainAt MayHave t m permits now place had answer number =
    (ia : IaPd) × (slice_get m.ias place ≡ Some ia)
    × IsReusedBy MayHave (permit_at permits place) t now had (order_for m ia) answer number

-- the first so many IA_PDs are told this again, and the number is that of the last line that they are told by
abbrev pub AreFirstAgain : (List Receipt → Journal → Type 0) → ReuseTerms → ClientMessage → List Permit → ℕ → ℕ
    → List Receipt → List IaAnswer → Option ℕ → Type 0
AreFirstAgain MayHave t m permits now count had answers line =
    (numbers : List (Option ℕ)) × AreReused MayHave t m permits now had (take count m.ias) answers numbers
    × (line ≡ latest numbers)

-- all of them
abbrev pub AreAllAgain : (List Receipt → Journal → Type 0) → ReuseTerms → ClientMessage → List Permit → ℕ
    → List Receipt → List IaAnswer → Option ℕ → Type 0
AreAllAgain MayHave t m permits now had answers line =
    (length answers ≡ length m.ias) × ((numbers : List (Option ℕ))
    × AreReused MayHave t m permits now had m.ias answers numbers × (line ≡ latest numbers))
