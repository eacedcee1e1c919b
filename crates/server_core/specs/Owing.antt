-- An answer that a server owes: it is held back until the lines that it tells of are on the disk.
use Rattle.std.specs.Prelude.{◌≡◌, ◌⊎◌, ℕ, List, ◌++◌, Option, None}
use Rattle.client_service.specs.declared.permit.Permit.{Permit}
use Rattle.journal_lines.specs.declared.line.Journal.{Journal}
use Rattle.dhcp6_pd.specs.declared.message.ClientMessage.{ClientMessage}
use Rattle.dhcp6_pd.specs.declared.message.InformationRequest.{InformationRequest}
use Rattle.dhcp6_pd.specs.Layout.{message_octets}
use Rattle.server_book.specs.declared.reply_policy.ReplyPolicy.{ReplyPolicy}
use Rattle.server_book.specs.Messages.{information_answer}
use Rattle.locked_book.specs.declared.receipt.Receipt.{Receipt}
use Rattle.client_service.specs.Lines.{receipts_of}
use Rattle.client_service.specs.Answering.{IsTold, AnswerTo}
use Rattle.client_service.specs.Reusing.{IsResent}
use Rattle.client_service.specs.declared.partner_availability.PartnerAvailability.{PartnerAvailability}
use Rattle.client_service.specs.declared.terms.ReuseTerms.{ReuseTerms}

-- the journals that a book may have of which these are the receipts, those of older volumes in front
abbrev pub HasReceipts : List Receipt → Journal → Type 0
HasReceipts receipts j = (older : List Receipt) × (receipts ≡ older ++ receipts_of j)

-- An answer tells a client's message, by its permits and in the server's manner, what the receipts say that its orders
-- added; or none was added, and it tells again what the client has by lines that stand.
abbrev pub IsReplyOfReceipts : PartnerAvailability → ReuseTerms → (own : List ℕ) → ReplyPolicy → ClientMessage → List Permit → (read : ℕ)
    → (had has : List Receipt) → (octets : List ℕ) → (line : Option ℕ) → Type 0
IsReplyOfReceipts partner t own manner m permits read had has octets line =
    IsTold HasReceipts partner own manner m permits read had has octets line
    ⊎ ((has ≡ had) × IsResent HasReceipts t own manner m permits read had octets line)

-- The answer tells a client's message to the server `own` what receipts say, which are the first of these.
pub record OwesLease {P : Type 0} (own : List ℕ) (t : ReuseTerms) (receipts : List Receipt) (a : AnswerTo P)
    : Type 0 where
  pub partner : PartnerAvailability
  pub manner : ReplyPolicy
  pub message : ClientMessage
  pub permits : List Permit
  pub read : ℕ
  pub had : List Receipt
  pub has : List Receipt
  pub later : List Receipt
  pub told : IsReplyOfReceipts partner t own manner message permits read had has a.octets a.line
  pub first : receipts ≡ has ++ later

-- The answer gives options alone, and tells of no line.
abbrev pub Informs : {P : Type 0} → (own : List ℕ) → ReplyPolicy → InformationRequest → AnswerTo P → Type 0
Informs own manner i a = (a.octets ≡ message_octets (information_answer i own manner)) × (a.line ≡ None)

-- what an answer of the server `own` says that is held back
abbrev pub IsOwed : {P : Type 0} → (own : List ℕ) → ReuseTerms → List Receipt → AnswerTo P → Type 0
IsOwed own t receipts a =
    OwesLease own t receipts a ⊎ ((manner : ReplyPolicy) × (i : InformationRequest) × Informs own manner i a)
