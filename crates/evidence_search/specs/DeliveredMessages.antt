-- For bodies only: messages, as ways from one journal to the other.
use Rattle.std.specs.Prelude.{List, [], ◌∷◌}
use Rattle.std.specs.List.Sorted.{IsNonDecreasingBy}
use Rattle.binding_rules.specs.declared.role.Role.{Role}
use Rattle.binding_rules.specs.Role.{partner_of}
use Rattle.causal_order.specs.declared.reference.Ref.{Ref}
use Rattle.causal_order.specs.Journals.{Journals}
use Rattle.causal_order.specs.Order.{IsChain}
use Rattle.evidence_search.specs.declared.messages.DeliveredMessage.{DeliveredMessage}

-- the line of this server's that sends the message, and its partner's that takes it
abbrev pub send_of : Role → DeliveredMessage → Ref
send_of side p = record { side = side; number = p.send }

abbrev pub take_of : Role → DeliveredMessage → Ref
take_of side p = record { side = partner_of side; number = p.take }

-- a message that this server sent and its partner took
abbrev pub IsDeliveredMessage : Journals → Role → DeliveredMessage → Type 0
IsDeliveredMessage js side p = IsChain js (send_of side p ∷ take_of side p ∷ [])

-- each next one was sent no earlier and taken no earlier
abbrev pub AreRising : List DeliveredMessage → Type 0
AreRising ps = IsNonDecreasingBy (λ (p : DeliveredMessage). p.send) ps × IsNonDecreasingBy (λ (p : DeliveredMessage). p.take) ps
