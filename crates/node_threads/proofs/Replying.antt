-- What comes of a message, and of the datagram that spells it.
use Rattle.std.specs.Prelude.{◌≡◌, ℕ, List, [], Result, Ok, Err}
use Rattle.std.proofs.Common.{subst, sym, inr}
use Rattle.dhcp6_pd.specs.declared.message.ClientMessage.{ClientMessage}
use Rattle.dhcp6_pd.specs.Grammar.{Spells}
use Rattle.locked_book.specs.declared.receipt.Receipt.{Receipt}
use Rattle.locked_book.specs.declared.error.ServeError.TheVariants.{Book, Stranger, Memory as NoRoom}
use Rattle.server_book.specs.ReplyPolicy.{plain}
use Rattle.client_service.specs.declared.partner_availability.PartnerAvailability.{PartnerAvailability}
use Rattle.client_service.specs.declared.no_reply_reason.NoReplyReason.{NoReplyReason}
use Rattle.client_service.specs.declared.no_reply_reason.NoReplyReason.TheVariants.{NothingRequested, Refused, UnknownBinding, TooLong, Memory}
use Rattle.client_service.specs.Answering.{AnswerTo, IsTold, HasNoReply}
use Rattle.node_threads.specs.declared.error.NodeError.{NodeError}
use Rattle.node_threads.specs.declared.error.NodeError.TheVariants.{Net, Read, Write, Serve, Memory as NoMemory}
use Rattle.node_threads.specs.declared.worker_outcome.WorkerOutcome.{WorkerOutcome}
use Rattle.node_threads.specs.declared.worker_outcome.WorkerOutcome.TheVariants.{Answered, Unanswered, Unread}
use Rattle.node_threads.specs.Sending.{AnyJournal, IsHeard}
use Rattle.node_threads.specs.Answered.{unanswered, IsSent, IsReplied}

module _ {Mail Peer : Type 0} (Sends : Mail → Peer → List ℕ → Mail → Type 0) (Fails : Mail → Mail → Type 0)
    (partner : PartnerAvailability) (own : List ℕ) (peer : Peer) (now : ℕ) (m : ClientMessage) (old new : Mail)
    (had has : List Receipt) where
  sent_so : (a : AnswerTo Peer) (result : Result WorkerOutcome NodeError)
      → IsTold AnyJournal partner own plain m [] now had has a.octets a.line → IsSent Sends Fails a old new result
      → IsReplied Sends Fails partner own a.peer now m old new had has result
  sent_so a (Ok Answered) told sent = (a.octets, a.line, told, sent)
  sent_so a (Ok (Unanswered why)) told sent = absurd sent
  sent_so a (Ok (Unread e)) told sent = absurd sent
  sent_so a (Err Net) told sent = (a.octets, a.line, told, sent)
  sent_so a (Err Read) told sent = absurd sent
  sent_so a (Err Write) told sent = absurd sent
  sent_so a (Err NoMemory) told sent = absurd sent
  sent_so a (Err (Serve e)) told sent = absurd sent

  pub replied : (a : AnswerTo Peer) (result : Result WorkerOutcome NodeError)
      → IsTold AnyJournal partner own plain m [] now had has a.octets a.line → a.peer ≡ peer
      → IsSent Sends Fails a old new result → IsReplied Sends Fails partner own peer now m old new had has result
  replied a result told back sent =
      subst (λ p. IsReplied Sends Fails partner own p now m old new had has result) back (sent_so a result told sent)

  none_so : (why : NoReplyReason) → HasNoReply AnyJournal partner own plain m [] now had has why → new ≡ old
      → IsReplied Sends Fails partner own peer now m old new had has (unanswered why)
  none_so NothingRequested silent same = (same, tt, silent)
  none_so UnknownBinding silent same = (same, tt, silent)
  none_so TooLong silent same = (same, tt, silent)
  none_so Memory silent same = (same, tt, silent)
  none_so (Refused (Stranger number line)) silent same = (same, tt, silent)
  none_so (Refused (Book e)) silent same = (same, (λ is. is), silent)
  none_so (Refused NoRoom) silent same = (same, (λ is. is), silent)

  pub none_replied : (why : NoReplyReason) (result : Result WorkerOutcome NodeError) → result ≡ unanswered why
      → HasNoReply AnyJournal partner own plain m [] now had has why → new ≡ old
      → IsReplied Sends Fails partner own peer now m old new had has result
  none_replied why result is silent same =
      subst (λ r. IsReplied Sends Fails partner own peer now m old new had has r) (sym is) (none_so why silent same)

  pub heard : (datagram : List ℕ) (result : Result WorkerOutcome NodeError) → Spells own datagram m
      → IsReplied Sends Fails partner own peer now m old new had has result
      → IsHeard Sends Fails partner own peer datagram old new had has result
  heard datagram (Ok Answered) spelled h =
      (h.0, record { message = m; now = now; line = h.1; spelled = spelled; told = h.2 }, h.3)
  heard datagram (Ok (Unanswered why)) spelled h =
      (h.0, h.1, record { message = m; now = now; spelled = spelled; silent = h.2 })
  heard datagram (Ok (Unread e)) spelled h = absurd h
  heard datagram (Err Net) spelled h =
      inr (h.0, record { message = m; now = now; line = h.1; spelled = spelled; told = h.2 }, h.3)
  heard datagram (Err (Serve e)) spelled h =
      (h.0, h.1, record { message = m; now = now; spelled = spelled; silent = h.2 })
  heard datagram (Err Read) spelled h = absurd h
  heard datagram (Err Write) spelled h = absurd h
  heard datagram (Err NoMemory) spelled h = absurd h
