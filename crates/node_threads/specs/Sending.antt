-- What a worker sends: for each datagram that came at most one, its answer, to whom it came from.
use Rattle.std.specs.Prelude.{◌≡◌, ◌⊎◌, ℕ, ⊤, List, [], ◌∷◌, length, Option, Result, Ok, Err}
use Rattle.dhcp6_pd.specs.declared.message.ClientMessage.{ClientMessage}
use Rattle.dhcp6_pd.specs.Grammar.{Spells}
use Rattle.dhcp6_pd.specs.Answers.{Gives}
use Rattle.dhcp6_pd.specs.Faults.{message_of}
use Rattle.journal_lines.specs.declared.line.Journal.{Journal}
use Rattle.locked_book.specs.declared.receipt.Receipt.{Receipt}
use Rattle.server_book.specs.ReplyPolicy.{plain}
use Rattle.client_service.specs.declared.partner_availability.PartnerAvailability.{PartnerAvailability}
use Rattle.client_service.specs.declared.no_reply_reason.NoReplyReason.{NoReplyReason}
use Rattle.client_service.specs.declared.no_reply_reason.NoReplyReason.TheVariants.{Refused}
use Rattle.client_service.specs.Telling.{IsStranger}
use Rattle.client_service.specs.Answering.{IsTold, HasNoReply}
use Rattle.node_threads.specs.declared.error.NodeError.{NodeError}
use Rattle.node_threads.specs.declared.error.NodeError.TheVariants.{Net, Serve, Memory}
use Rattle.node_threads.specs.declared.worker_outcome.WorkerOutcome.{WorkerOutcome}
use Rattle.node_threads.specs.declared.worker_outcome.WorkerOutcome.TheVariants.{Answered, Unanswered, Unread}

-- a book that others share may have any journal that has the pass's last line
abbrev pub AnyJournal : List Receipt → Journal → Type 0
AnyJournal receipts j = ⊤

-- The datagram is a message to the server, and these octets are its answer: they tell it what the receipts say that
-- were added.
pub record IsReplyTo (partner : PartnerAvailability) (own datagram : List ℕ) (had has : List Receipt) (octets : List ℕ) : Type 0 where
  pub message : ClientMessage
  pub now : ℕ
  pub line : Option ℕ
  pub spelled : Spells own datagram message
  pub told : IsTold AnyJournal partner own plain message [] now had has octets line

-- the datagram is a message to the server, and this is why it has no answer
pub record Lacks (partner : PartnerAvailability) (own datagram : List ℕ) (had has : List Receipt) (why : NoReplyReason) : Type 0 where
  pub message : ClientMessage
  pub now : ℕ
  pub spelled : Spells own datagram message
  pub silent : HasNoReply AnyJournal partner own plain message [] now had has why

-- a pass that the book doesn't know ends the worker
abbrev pub MayGoOn : NoReplyReason → Type 0
MayGoOn (Refused e) = IsStranger e → ⊥
MayGoOn why = ⊤

-- Receives, Sends and Fails say of a mailbox before and behind a call what came, what was sent, and that it failed

-- what becomes of a datagram that came from a peer, where old and new are the mailbox, had and has the receipts
module _ {Mail Peer : Type 0} (Sends : Mail → Peer → List ℕ → Mail → Type 0) (Fails : Mail → Mail → Type 0)
    (partner : PartnerAvailability) (own : List ℕ) where
  abbrev pub IsHeard : Peer → List ℕ → Mail → Mail → List Receipt → List Receipt → Result WorkerOutcome NodeError → Type 0
  IsHeard peer datagram old new had has (Ok Answered) =
      (octets : List ℕ) × IsReplyTo partner own datagram had has octets × Sends old peer octets new
  IsHeard peer datagram old new had has (Ok (Unanswered why)) =
      (new ≡ old) × MayGoOn why × Lacks partner own datagram had has why
  IsHeard peer datagram old new had has (Ok (Unread e)) =
      (new ≡ old) × (has ≡ had) × Gives (λ (m : ClientMessage). m) (Err e) (message_of own datagram)
  -- the clock failed, or the answer's sending
  IsHeard peer datagram old new had has (Err Net) =
      ((new ≡ old) × (has ≡ had))
      ⊎ ((octets : List ℕ) × IsReplyTo partner own datagram had has octets × Fails old new)
  IsHeard peer datagram old new had has (Err (Serve e)) =
      (new ≡ old) × IsStranger e × Lacks partner own datagram had has (Refused e)
  IsHeard peer datagram old new had has (Err e) = ⊥

module _ {Mail Peer : Type 0} (Receives Sends : Mail → Peer → List ℕ → Mail → Type 0) (Fails : Mail → Mail → Type 0)
    (partner : PartnerAvailability) (own : List ℕ) where
  -- a turn: a datagram came, or none did, since the mailbox failed
  abbrev pub IsTurn : Mail → Mail → List Receipt → List Receipt → Result WorkerOutcome NodeError → Type 0
  IsTurn old new had has result =
      ((peer : Peer) × (datagram : List ℕ) × (mid : Mail) × Receives old peer datagram mid
      × IsHeard Sends Fails partner own peer datagram mid new had has result)
      ⊎ ((result ≡ Err Net) × (has ≡ had) × Fails old new)

  -- turns one after the other, with what became of the datagram of each
  abbrev pub AreTurns : List WorkerOutcome → Mail → Mail → List Receipt → List Receipt → Type 0
  AreTurns [] old new had has = (new ≡ old) × (has ≡ had)
  AreTurns (heard ∷ more) old new had has =
      (mid : Mail) × (between : List Receipt) × IsTurn old mid had between (Ok heard)
      × AreTurns more mid new between has

  -- All that a worker did: so many turns, or turns up to the one in which it ended. Memory ends it before the first.
  abbrev pub IsServed : Mail → Mail → List Receipt → List Receipt → Result ℕ NodeError → Type 0
  IsServed old new had has (Ok received) =
      (turns : List WorkerOutcome) × (length turns ≡ received) × AreTurns turns old new had has
  IsServed old new had has (Err Memory) = (new ≡ old) × (has ≡ had)
  IsServed old new had has (Err why) =
      (turns : List WorkerOutcome) × (mid : Mail) × (between : List Receipt) × AreTurns turns old mid had between
      × IsTurn mid new between has (Err why)
