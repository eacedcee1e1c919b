-- What the receipts of an end tell: the messages of the partner's that were taken, none twice and none left out.
use Rattle.std.specs.Prelude.{◌≡◌, ◌+◌, nat_lt, ℕ, ⊤, Option, Some, None, List, [], ◌∷◌, ◌++◌, if◌then◌else◌}
use Rattle.std.specs.List.{filter_map}
use Rattle.binding_rules.specs.declared.message.PartnerMessage.{PartnerMessage}
use Rattle.journal_lines.specs.declared.event.Event.{Event}
use Rattle.journal_lines.specs.declared.event.Event.TheVariants.{Base, Send, Take}
use Rattle.journal_lines.specs.declared.line.Line.{Line}
use Rattle.book_state.specs.Book.{BookState}
use Rattle.locked_book.specs.declared.receipt.Receipt.{Receipt}
use Rattle.order_book.specs.declared.order.Order.{Order}
use Rattle.order_book.specs.declared.order.Order.TheVariants.{Take as TakeOrder, Expire as ExpireOrder}
use Rattle.order_book.specs.Named.{IsNamed}

-- the serial of the last message that was taken, where before the event it was `last`
abbrev pub taken_by : ℕ → Event → ℕ
taken_by last (Take message) = message.serial
taken_by last _ = last

abbrev pub taken_after : ℕ → List Receipt → ℕ
taken_after last [] = last
taken_after last (r ∷ rs) = taken_after (taken_by last r.line.event) rs

-- 0 where none was taken: serials are counted from 1
abbrev pub last_taken : List Receipt → ℕ
last_taken receipts = taken_after 0 receipts

-- the serial of the last message that was sent, where before the event it was `last`: a line sends one, and the base line
-- of a volume tells it
abbrev pub sent_by : ℕ → Event → ℕ
sent_by last (Send message) = message.serial
sent_by last (Base numbers) = numbers.serial
sent_by last _ = last

abbrev pub sent_after : ℕ → List Receipt → ℕ
sent_after last [] = last
sent_after last (r ∷ rs) = sent_after (sent_by last r.line.event) rs

-- 0 where none was sent
abbrev pub last_sent : List Receipt → ℕ
last_sent receipts = sent_after 0 receipts

-- if the event takes a message, its serial is the next behind the last one's
abbrev pub IsNext : ℕ → Event → Type 0
IsNext last (Take message) = message.serial ≡ last + 1
IsNext last _ = ⊤

abbrev pub AreNext : ℕ → List Receipt → Type 0
AreNext last [] = ⊤
AreNext last (r ∷ rs) = IsNext last r.line.event × AreNext (taken_by last r.line.event) rs

-- receipts were added and no other changed, and the serial of each message that was taken is the next
pub record Goes (old new : List Receipt) : Type 0 where
  pub added : List Receipt
  pub all : new ≡ old ++ added
  pub next : AreNext (last_taken old) added

-- any order but that a message is taken
abbrev pub IsOther : Order → Type 0
IsOther (TakeOrder message) = ⊥
IsOther _ = ⊤

-- any order but that a lease is ended
abbrev pub IsLasting : Order → Type 0
IsLasting (ExpireOrder prefix) = ⊥
IsLasting _ = ⊤

-- the line is one that the order names at some state of a book
abbrev pub IsNamedBy : Order → Line → Type 0
IsNamedBy order l = (b : BookState) × IsNamed b l.reading order l.event

-- ---- the messages that were taken

abbrev pub take_in : Event → Option PartnerMessage
take_in (Take message) = Some message
take_in _ = None

abbrev pub taken_in : Receipt → Option PartnerMessage
taken_in r = take_in r.line.event

abbrev pub takes_of : List Receipt → List PartnerMessage
takes_of receipts = filter_map taken_in receipts

-- of messages that come, in their order, those that are newer than all before
abbrev pub newer_from : ℕ → List PartnerMessage → List PartnerMessage
newer_from last [] = []
newer_from last (m ∷ ms) = if nat_lt last m.serial then m ∷ newer_from m.serial ms else newer_from last ms
