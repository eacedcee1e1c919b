-- Which messages one end of the link has heard, of the octets that came.
use Rattle.std.specs.Prelude.{◌≡◌, ◌⊎◌, ℕ, List, [], ◌++◌, take}
use Rattle.binding_rules.specs.declared.message.PartnerMessage.{PartnerMessage}
use Rattle.failover_session.specs.Polling.{Carries}
use Rattle.node_threads.specs.declared.wire.Got.{Got}
use Rattle.node_threads.specs.declared.wire.Got.TheVariants.{Octets}

-- the octets that a read brought, which it put at the front of the buffer
abbrev pub octets_in : Got → List ℕ → List ℕ
octets_in (Octets count) buffer = take count buffer
octets_in _ buffer = []

-- all messages that the octets carry were heard, behind which less than a frame is held
abbrev pub HeardAll : List ℕ → List ℕ → List PartnerMessage → Type 0
HeardAll rest octets heard = Carries [] octets rest heard

-- the same of octets that came behind those that were held
abbrev pub HeardOn : List ℕ → List ℕ → List ℕ → List PartnerMessage → Type 0
HeardOn held rest octets heard =
    Carries held octets rest heard ⊎ ((octets ≡ []) × (rest ≡ held) × (heard ≡ []))

abbrev pub AllBehind : List ℕ → List ℕ → List ℕ → List ℕ → List PartnerMessage → Type 0
AllBehind held rest before octets heard = HeardOn held rest (before ++ octets) heard

-- the first of the messages were heard that a front of the octets carries, behind those that were held
pub record HeardSome (held octets : List ℕ) (heard : List PartnerMessage) : Type 0 where
  pub front : List ℕ
  pub more : List ℕ
  pub rest : List ℕ
  pub left : List PartnerMessage
  pub all : octets ≡ front ++ more
  pub carries : Carries held front rest (heard ++ left)

abbrev pub HeardFront : List ℕ → List ℕ → List PartnerMessage → Type 0
HeardFront held octets heard = (heard ≡ []) ⊎ HeardSome held octets heard

abbrev pub FrontBehind : List ℕ → List ℕ → List ℕ → List PartnerMessage → Type 0
FrontBehind held before octets heard = HeardFront held (before ++ octets) heard

-- all messages were heard that came before the last read, and of those that came by that a front
pub record HeardTill (octets : List ℕ) (heard : List PartnerMessage) : Type 0 where
  pub before : List ℕ
  pub last : List ℕ
  pub rest : List ℕ
  pub whole : List PartnerMessage
  pub front : List PartnerMessage
  pub came : octets ≡ before ++ last
  pub all : heard ≡ whole ++ front
  pub carries : HeardAll rest before whole
  pub then : HeardFront rest last front
