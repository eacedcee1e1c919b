-- Which messages were heard, of octets one behind another.
use Rattle.std.specs.Prelude.{◌≡◌, ◌⊎◌, ℕ, List, [], ◌∷◌, ◌++◌, refl}
use Rattle.std.proofs.Common.{ap, sym, ◌∙◌, subst, append_assoc, append-nil, inl, inr}
use Rattle.binding_rules.specs.declared.message.PartnerMessage.{PartnerMessage}
use Rattle.binding_rules.specs.declared.role.Role.{Role}
use Rattle.locked_book.specs.declared.receipt.Receipt.{Receipt}
use Rattle.failover_session.specs.declared.link_input.LinkInput.{LinkInput}
use Rattle.failover_session.specs.declared.link_input.LinkInput.TheVariants.{Octets, Idle, HeartbeatDue, Closed}
use Rattle.failover_session.specs.declared.outbox.OutboundFrame.{OutboundFrame}
use Rattle.failover_session.specs.Sessions.{Met}
use Rattle.failover_session.specs.Polling.{Carries, AreMessages, octets_of, IsPoll}
use Rattle.failover_session.proofs.Streams.{nothing_carries, carries_on}
use Rattle.node_threads.specs.Reading.{HeardAll, HeardOn, HeardFront, HeardTill}

front_empty : (heard left : List PartnerMessage) → heard ++ left ≡ [] → heard ≡ []
front_empty [] left none = refl
front_empty (m ∷ ms) left none = absurd cc

-- ---- one turn

front_by : (it : LinkInput) (held rest : List ℕ) (messages heard left : List PartnerMessage)
    → AreMessages it held rest messages → messages ≡ heard ++ left → HeardFront held (octets_of it) heard
front_by (Octets octets) held rest messages heard left are all =
    inr (record {
      front = octets.now;
      more = [];
      rest = rest;
      left = left;
      all = sym (append-nil octets.now);
      carries = subst (λ ms. Carries held octets.now rest ms) all are;
    })
front_by Idle held rest messages heard left are all = inl (front_empty heard left (sym all ∙ are.0))
front_by HeartbeatDue held rest messages heard left are all = inl (front_empty heard left (sym all ∙ are.0))
front_by Closed held rest messages heard left are all = inl (front_empty heard left (sym all ∙ are.0))

pub front_heard : (role : Role) (it : LinkInput) (held : List ℕ) (x y : Met) (a b : List Receipt) (o p : List OutboundFrame)
    → (turn : IsPoll role it held x y a b o p) → HeardFront held (octets_of it) turn.2.0
front_heard role it held x y a b o p turn = by turn.1
  where
    by : (turn.0 ≡ []) ⊎ ((rest : List ℕ) × AreMessages it held rest turn.0)
        → HeardFront held (octets_of it) turn.2.0
    by (inl none) = inl (front_empty turn.2.0 turn.2.1 (sym turn.2.2 ∙ none))
    by (inr are) = front_by it held are.0 turn.0 turn.2.0 turn.2.1 are.1 turn.2.2

pub heard_on : (it : LinkInput) (held rest : List ℕ) (messages : List PartnerMessage) → AreMessages it held rest messages
    → HeardOn held rest (octets_of it) messages
heard_on (Octets octets) held rest messages are = inl are
heard_on Idle held rest messages are = inr (refl, are.1, are.0)
heard_on HeartbeatDue held rest messages are = inr (refl, are.1, are.0)
heard_on Closed held rest messages are = inr (refl, are.1, are.0)

-- ---- turns one behind another

pub all_on : (middle rest first second : List ℕ) (heard more : List PartnerMessage) → HeardAll middle first heard
    → HeardOn middle rest second more → HeardAll rest (first ++ second) (heard ++ more)
all_on middle rest first second heard more h (inl k) = carries_on [] first second middle rest heard more h k
all_on middle rest first second heard more h (inr k) =
    let octets : first ++ second ≡ first = ap (λ os. first ++ os) k.0 ∙ append-nil first in
    let messages : heard ++ more ≡ heard = ap (λ ms. heard ++ ms) k.2 ∙ append-nil heard in
    subst (λ os. HeardAll rest os (heard ++ more)) (sym octets)
    (subst (λ ms. HeardAll rest first ms) (sym messages) (subst (λ r. HeardAll r first heard) (sym k.1) h))

pub till_front : (rest first second : List ℕ) (heard more : List PartnerMessage) → HeardAll rest first heard
    → HeardFront rest second more → HeardTill (first ++ second) (heard ++ more)
till_front rest first second heard more h k =
    record {
      before = first;
      last = second;
      rest = rest;
      whole = heard;
      front = more;
      came = refl;
      all = refl;
      carries = h;
      then = k;
    }

pub nothing_heard : HeardAll [] [] []
nothing_heard = nothing_carries

-- octets that came and weren't listened to
pub front_more : (held octets more : List ℕ) (heard : List PartnerMessage) → HeardFront held octets heard
    → HeardFront held (octets ++ more) heard
front_more held octets more heard (inl none) = inl none
front_more held octets more heard (inr h) =
    inr (record {
      front = h.front;
      more = h.more ++ more;
      rest = h.rest;
      left = h.left;
      all = ap (λ os. os ++ more) h.all ∙ append_assoc h.front h.more more;
      carries = h.carries;
    })
