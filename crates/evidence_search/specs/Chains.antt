-- For bodies only: what messages show of the lines of two journals.
use Rattle.std.specs.Prelude.{◌≢◌, ◌≤◌, ◌<◌, ℕ, List, All, Option, Some, None, Contains as Has}
use Rattle.binding_rules.specs.declared.role.Role.{Role}
use Rattle.binding_rules.specs.declared.role.Role.TheVariants.{Primary, Secondary}
use Rattle.binding_rules.specs.Role.{partner_of}
use Rattle.causal_order.specs.declared.reference.Ref.{Ref}
use Rattle.causal_order.specs.Journals.{Journals}
use Rattle.evidence_search.specs.declared.messages.DeliveredMessage.{DeliveredMessage}
use Rattle.evidence_search.specs.declared.messages.DeliveredMessages.{DeliveredMessages}
use Rattle.evidence_search.specs.declared.bounds.ChainBound.{ChainBound}
use Rattle.plain_search.specs.Search.{IsReadAt}
use Rattle.evidence_search.specs.DeliveredMessages.{send_of, take_of, IsDeliveredMessage}

-- those that a server sent
abbrev pub messages_of : DeliveredMessages → Role → List DeliveredMessage
messages_of m Primary = m.primary.items
messages_of m Secondary = m.secondary.items

-- each of them was sent by a line of the one journal, and taken by a line of the other
abbrev pub AreMessages : Journals → DeliveredMessages → Type 0
AreMessages js m = All (IsDeliveredMessage js Primary) m.primary.items × All (IsDeliveredMessage js Secondary) m.secondary.items

-- where a chain from the line ends that goes over this message, or over none
abbrev pub end_over : Ref → Option DeliveredMessage → Ref
end_over at None = at
end_over at (Some p) = take_of at.side p

-- where one to the line begins
abbrev pub begin_over : Ref → Option DeliveredMessage → Ref
begin_over at None = at
begin_over at (Some p) = send_of (partner_of at.side) p

-- the clock showed the bound's reading where the chain ends, or begins
abbrev pub IsReadAtEnd : Journals → Ref → ChainBound → Type 0
IsReadAtEnd js at b = IsReadAt js (end_over at b.over) b.reading

abbrev pub IsReadAtBeginning : Journals → Ref → ChainBound → Type 0
IsReadAtBeginning js at b = IsReadAt js (begin_over at b.over) b.reading

-- no message was taken at the line or before it
abbrev pub IsBeforeTakes : DeliveredMessages → Ref → Type 0
IsBeforeTakes m at = All (λ p. at.number < p.take) (messages_of m (partner_of at.side))

-- a bound of the line that is no worse than its own reading: where a chain from it ends, or one to it begins
abbrev pub IsEndBound : Journals → Ref → ChainBound → Type 0
IsEndBound js at b = IsReadAtEnd js at b × ((own : ℕ) → IsReadAt js at own → b.reading ≤ own)

abbrev pub IsBeginBound : Journals → Ref → ChainBound → Type 0
IsBeginBound js at b = IsReadAtBeginning js at b × ((own : ℕ) → IsReadAt js at own → own ≤ b.reading)

-- it was sent at the one line or behind it, and taken at the other or before it, in the partner's journal
abbrev pub IsLinking : DeliveredMessages → (first second : Ref) → DeliveredMessage → Type 0
IsLinking m first second p =
    (first.side ≢ second.side) × Has (messages_of m first.side) p × (first.number ≤ p.send) × (p.take ≤ second.number)
