-- For bodies only: what comes of a message, before it is known which datagram spells it.
use Rattle.std.specs.Prelude.{◌≡◌, ℕ, List, [], Option, Result, Ok, Err}
use Rattle.dhcp6_pd.specs.declared.message.ClientMessage.{ClientMessage}
use Rattle.locked_book.specs.declared.receipt.Receipt.{Receipt}
use Rattle.locked_book.specs.declared.error.ServeError.{ServeError}
use Rattle.locked_book.specs.declared.error.ServeError.TheVariants.{Book, Stranger, Memory as NoRoom}
use Rattle.server_book.specs.ReplyPolicy.{plain}
use Rattle.client_service.specs.declared.partner_availability.PartnerAvailability.{PartnerAvailability}
use Rattle.client_service.specs.declared.no_reply_reason.NoReplyReason.{NoReplyReason}
use Rattle.client_service.specs.declared.no_reply_reason.NoReplyReason.TheVariants.{NothingRequested, Refused, UnknownBinding, TooLong, Memory}
use Rattle.client_service.specs.Telling.{IsStranger}
use Rattle.client_service.specs.Answering.{AnswerTo, IsTold, HasNoReply}
use Rattle.node_threads.specs.declared.error.NodeError.{NodeError}
use Rattle.node_threads.specs.declared.error.NodeError.TheVariants.{Net, Serve}
use Rattle.node_threads.specs.declared.worker_outcome.WorkerOutcome.{WorkerOutcome}
use Rattle.node_threads.specs.declared.worker_outcome.WorkerOutcome.TheVariants.{Answered, Unanswered}
use Rattle.node_threads.specs.Sending.{AnyJournal, MayGoOn}

-- what comes of a refusal that no client is told of
abbrev pub refused : ServeError → Result WorkerOutcome NodeError
refused (Stranger number line) = Err (Serve (Stranger number line))
refused (Book e) = Ok (Unanswered (Refused (Book e)))
refused NoRoom = Ok (Unanswered (Refused NoRoom))

-- what comes of a message that has no answer
abbrev pub unanswered : NoReplyReason → Result WorkerOutcome NodeError
unanswered (Refused e) = refused e
unanswered NothingRequested = Ok (Unanswered NothingRequested)
unanswered UnknownBinding = Ok (Unanswered UnknownBinding)
unanswered TooLong = Ok (Unanswered TooLong)
unanswered Memory = Ok (Unanswered Memory)

module _ {Mail Peer : Type 0} (Sends : Mail → Peer → List ℕ → Mail → Type 0) (Fails : Mail → Mail → Type 0) where
  -- what comes of an answer's sending
  abbrev pub IsSent : AnswerTo Peer → Mail → Mail → Result WorkerOutcome NodeError → Type 0
  IsSent answer old new (Ok Answered) = Sends old answer.peer answer.octets new
  IsSent answer old new (Err Net) = Fails old new
  IsSent answer old new result = ⊥

  -- what comes of a message that came from a peer
  abbrev pub IsReplied : PartnerAvailability → List ℕ → Peer → ℕ → ClientMessage → Mail → Mail → List Receipt → List Receipt
      → Result WorkerOutcome NodeError → Type 0
  IsReplied partner own peer now m old new had has (Ok Answered) =
      (octets : List ℕ) × (line : Option ℕ) × IsTold AnyJournal partner own plain m [] now had has octets line
      × Sends old peer octets new
  IsReplied partner own peer now m old new had has (Ok (Unanswered why)) =
      (new ≡ old) × MayGoOn why × HasNoReply AnyJournal partner own plain m [] now had has why
  IsReplied partner own peer now m old new had has (Err Net) =
      (octets : List ℕ) × (line : Option ℕ) × IsTold AnyJournal partner own plain m [] now had has octets line
      × Fails old new
  IsReplied partner own peer now m old new had has (Err (Serve e)) =
      (new ≡ old) × IsStranger e × HasNoReply AnyJournal partner own plain m [] now had has (Refused e)
  IsReplied partner own peer now m old new had has result = ⊥
