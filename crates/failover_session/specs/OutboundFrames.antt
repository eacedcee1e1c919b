-- What the frames that an end hands out say, and what its receipts say was sent.
use Rattle.std.specs.Prelude.{◌≡◌, nat_lt, ℕ, Bool, false, Option, Some, None, option_map, List, [], ◌∷◌, filter}
use Rattle.std.specs.List.{filter_map}
use Rattle.binding_rules.specs.declared.message.PartnerMessage.{PartnerMessage}
use Rattle.binding_rules.specs.declared.role.Role.{Role}
use Rattle.binding_rules.specs.declared.role.Role.TheVariants.{Primary, Secondary}
use Rattle.failover_message.specs.declared.frame.FrameKind.{FrameKind}
use Rattle.failover_message.specs.declared.frame.FrameKind.TheVariants.{Connect, ConnectReply}
use Rattle.journal_lines.specs.declared.event.Event.{Event}
use Rattle.journal_lines.specs.declared.event.Event.TheVariants.{Send}
use Rattle.locked_book.specs.declared.receipt.Receipt.{Receipt}
use Rattle.failover_session.specs.declared.outbox.OutboundFrame.{OutboundFrame}
use Rattle.failover_session.specs.Messages.{body_in, message_in}
use Rattle.failover_session.specs.Receipts.{last_taken}

-- what a frame says of a journal: which message was taken last (CONNECT and CONNECTREPLY), or a message to the partner,
-- and the number of the line that sends it
pub data FrameMeaning : Type 0 where
  Greets : FrameKind → FrameMeaning
  Sends : Option ℕ → PartnerMessage → FrameMeaning

-- RFC 8156, section 5: the first frame of the server that connected, and the answer to it
abbrev pub greeting_in : FrameKind → Option FrameKind
greeting_in (Connect role last) = Some (Connect role last)
greeting_in (ConnectReply role last) = Some (ConnectReply role last)
greeting_in _ = None

-- the frame says nothing of a journal
abbrev pub IsWord : FrameKind → Type 0
IsWord kind = (body_in kind ≡ None) × (greeting_in kind ≡ None)

-- what a frame that is handed out says
abbrev pub meaning_as : OutboundFrame → Option PartnerMessage → Option FrameMeaning
meaning_as h (Some message) = Some (Sends h.number message)
meaning_as h None = option_map Greets (greeting_in h.frame.kind)

abbrev pub meaning_in : OutboundFrame → Option FrameMeaning
meaning_in h = meaning_as h (message_in h.frame)

abbrev pub meanings_of : List OutboundFrame → List FrameMeaning
meanings_of frames = filter_map meaning_in frames

-- what a receipt says was sent, by its line's number
abbrev pub sent_in : Event → Option PartnerMessage
sent_in (Send message) = Some message
sent_in _ = None

abbrev pub meaning_of_receipt : Receipt → Option FrameMeaning
meaning_of_receipt r = option_map (λ m. Sends (Some r.number) m) (sent_in r.line.event)

abbrev pub sends_of : List Receipt → List FrameMeaning
sends_of receipts = filter_map meaning_of_receipt receipts

-- those above a serial
abbrev pub is_above : ℕ → FrameMeaning → Bool
is_above last (Sends number message) = nat_lt last message.serial
is_above last (Greets kind) = false

abbrev pub sends_above : ℕ → List Receipt → List FrameMeaning
sends_above last receipts = filter (is_above last) (sends_of receipts)

-- ---- greetings

-- the primary connects, the secondary answers; each names the message that it took last
abbrev pub greeting_kind : Role → ℕ → FrameKind
greeting_kind Primary last = Connect Primary last
greeting_kind Secondary last = ConnectReply Secondary last

abbrev pub greeting : Role → List Receipt → FrameMeaning
greeting role had = Greets (greeting_kind role (last_taken had))

-- what a server says before it has heard of the other
abbrev pub opening : Role → List Receipt → List FrameMeaning
opening Primary had = greeting Primary had ∷ []
opening Secondary had = []

-- what it says once it has
abbrev pub answer : Role → List Receipt → List FrameMeaning
answer Primary had = []
answer Secondary had = greeting Secondary had ∷ []
