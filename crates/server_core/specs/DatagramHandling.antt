-- What becomes of a datagram.
use Rattle.std.specs.Prelude.{◌≡◌, ◌⊎◌, ℕ, true, List, [], ◌∷◌, ◌++◌, Option, Some, None, Err}
use Rattle.client_service.specs.declared.permit.Permit.{Permit}
use Rattle.client_service.specs.declared.permit.DropReason.{DropReason}
use Rattle.client_service.specs.declared.permit.DropReason.TheVariants.{TooMany as SentTooMany, LeftToPartner as IsLeft}
use Rattle.dhcp6_pd.specs.declared.message.ClientMessage.{ClientMessage}
use Rattle.dhcp6_pd.specs.declared.message.InformationRequest.{InformationRequest}
use Rattle.dhcp6_pd.specs.declared.error.PdError.{PdError}
use Rattle.dhcp6_pd.specs.declared.error.PdFault.TheVariants.{Ignored}
use Rattle.dhcp6_pd.specs.Associations.{by_prefix}
use Rattle.dhcp6_pd.specs.Grammar.{Spells, SpellsInformation}
use Rattle.server_book.specs.declared.reply_policy.ReplyPolicy.{ReplyPolicy}
use Rattle.server_book.specs.ReplyPolicy.{has_options}
use Rattle.dhcp6_pd.specs.Answers.{Gives}
use Rattle.dhcp6_pd.specs.Faults.{message_of, information_of}
use Rattle.journal_lines.specs.declared.line.Journal.{Journal}
use Rattle.order_book.specs.Replayed.{state_of}
use Rattle.server_core.specs.Served.{receipts_in}
use Rattle.client_service.specs.Answering.{AnswerTo, HasNoReply, IsUninformed}
use Rattle.client_service.specs.declared.no_reply_reason.NoReplyReason.{NoReplyReason}
use Rattle.client_service.specs.declared.no_reply_reason.NoReplyReason.TheVariants.{Memory}
use Rattle.client_service.specs.declared.partner_availability.PartnerAvailability.{PartnerAvailability}
use Rattle.client_service.specs.declared.partner_availability.PartnerAvailability.TheVariants.{Up, Down}
use Rattle.server_core.specs.declared.datagram_outcome.DatagramOutcome.{DatagramOutcome}
use Rattle.server_core.specs.declared.datagram_outcome.DatagramOutcome.TheVariants.{Answered, Unanswered, AnsweredInformation, UnansweredInformation, TooMany}
use Rattle.server_core.specs.declared.datagram_outcome.DatagramOutcome.TheVariants.{LeftToPartner, EarlyRelease, Malformed}
use Rattle.server_core.specs.declared.committed_output.HeldAnswer.{HeldAnswer}
use Rattle.server_core.specs.VolumeWriters.{WriterState}
use Rattle.client_service.specs.declared.terms.ReuseTerms.{ReuseTerms}
use Rattle.client_service.specs.EarlyReleases.{HasEarlyRelease}
use Rattle.server_core.specs.Owing.{HasReceipts, IsReplyOfReceipts, Informs}

-- what a server takes its partner for, by the reading since which it is down
abbrev pub partner_by : Option ℕ → PartnerAvailability
partner_by (Some since) = Down
partner_by None = Up

abbrev pub partner_of : Journal → PartnerAvailability
partner_of j = partner_by (state_of j).down

-- why a message has no answer: for want of memory nothing was done, or its orders, by the permits that it was given,
-- ended so
abbrev pub IsUnanswered : (Journal → ℕ → ClientMessage → List Permit → Type 0) → (own : List ℕ) → ReplyPolicy
    → ReuseTerms → ClientMessage → (read : ℕ) → WriterState → WriterState → NoReplyReason → Type 0
IsUnanswered Lets own manner t m read old new why =
    ((why ≡ Memory) × (new ≡ old))
    ⊎ ((permits : List Permit) × (HasEarlyRelease old.served.journal t read m permits → ⊥)
    × Lets old.served.journal read m permits
    × HasNoReply HasReceipts (partner_of old.served.journal) own manner m permits read (receipts_in old.served)
    (receipts_in new.served) why)

-- Where a server hands out nothing beside prefixes, a request for options alone is none that it reads.
abbrev pub HandsOut : ReplyPolicy → Type 0
HandsOut manner = has_options manner.options ≡ true

-- why a datagram is no message: as one about prefixes, or as a request for options alone, where its type isn't one of
-- the former
abbrev pub IsUnread : (own : List ℕ) → ReplyPolicy → (datagram : List ℕ) → PdError → Type 0
IsUnread own manner datagram e =
    Gives (λ (m : ClientMessage). m) (Err e) (message_of own datagram)
    ⊎ ((message_of own datagram ≡ Err Ignored) × HandsOut manner
    × Gives (λ (i : InformationRequest). i) (Err e) (information_of own datagram))

-- what becomes of a datagram of another type than those about prefixes: one answer more is held back, or none
abbrev pub IsInformed : {P : Type 0} → (own : List ℕ) → ReplyPolicy → (peer : P) → (datagram : List ℕ) → (read : ℕ)
    → List (HeldAnswer P) → List (HeldAnswer P) → DatagramOutcome → Type 0
IsInformed {P} own manner peer datagram read was held AnsweredInformation =
    (i : InformationRequest) × (a : AnswerTo P) × HandsOut manner × SpellsInformation own datagram i × (a.peer ≡ peer)
    × Informs own manner i a × (held ≡ was ++ record { answer = a; read = read } ∷ [])
IsInformed own manner peer datagram read was held (UnansweredInformation why) =
    (i : InformationRequest) × HandsOut manner × SpellsInformation own datagram i × IsUninformed own manner i why
    × (held ≡ was)
IsInformed own manner peer datagram read was held (Malformed e) = IsUnread own manner datagram e × (held ≡ was)
IsInformed own manner peer datagram read was held other = ⊥

-- the datagram is this message; of a RELEASE its IA_PDs stand once for each of their prefixes
pub record Brings (own datagram : List ℕ) (m : ClientMessage) : Type 0 where
  pub message : ClientMessage
  pub spelled : Spells own datagram message
  pub each : m ≡ by_prefix message

-- One answer more is held back: to the peer, at this reading, and it tells the message, by the permits that it was
-- given, what the receipts say that its orders added, or again what stands. Or there is none, for a reason, and none
-- more is held back. Of a message that isn't heard, and of a RELEASE that comes too early where it may be ordered,
-- nothing is done.
abbrev pub IsHandled : {P : Type 0} → (Journal → ℕ → ClientMessage → List Permit → Type 0)
    → (Journal → ℕ → ClientMessage → DropReason → Type 0) → (own : List ℕ) → ReplyPolicy
    → ReuseTerms → (peer : P) → (datagram : List ℕ) → (read : ℕ) → WriterState → WriterState → List (HeldAnswer P)
    → List (HeldAnswer P) → DatagramOutcome → Type 0
IsHandled {P} Lets Drops own manner t peer datagram read old new was held (Answered kind) =
    (m : ClientMessage) × (permits : List Permit) × (a : AnswerTo P) × Brings own datagram m
    × (HasEarlyRelease old.served.journal t read m permits → ⊥) × Lets old.served.journal read m permits
    × (kind ≡ m.kind) × (a.peer ≡ peer)
    × IsReplyOfReceipts (partner_of old.served.journal) t own manner m permits read (receipts_in old.served)
    (receipts_in new.served) a.octets a.line
    × (held ≡ was ++ record { answer = a; read = read } ∷ [])
IsHandled Lets Drops own manner t peer datagram read old new was held (Unanswered why) =
    (m : ClientMessage) × Brings own datagram m × IsUnanswered Lets own manner t m read old new why × (held ≡ was)
IsHandled Lets Drops own manner t peer datagram read old new was held TooMany =
    (m : ClientMessage) × Brings own datagram m × Drops old.served.journal read m SentTooMany × (new ≡ old)
    × (held ≡ was)
IsHandled Lets Drops own manner t peer datagram read old new was held LeftToPartner =
    (m : ClientMessage) × Brings own datagram m × Drops old.served.journal read m IsLeft × (new ≡ old)
    × (held ≡ was)
IsHandled Lets Drops own manner t peer datagram read old new was held EarlyRelease =
    (m : ClientMessage) × (permits : List Permit) × Brings own datagram m × Lets old.served.journal read m permits
    × HasEarlyRelease old.served.journal t read m permits × (new ≡ old) × (held ≡ was)
IsHandled Lets Drops own manner t peer datagram read old new was held other =
    (new ≡ old) × IsInformed own manner peer datagram read was held other
