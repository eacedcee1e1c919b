-- What one turn of a talk does.
use Rattle.std.specs.Prelude.{◌≡◌, ◌⊎◌, ℕ, Bool, List, [], ◌++◌}
use Rattle.binding_rules.specs.declared.message.PartnerMessage.{PartnerMessage}
use Rattle.binding_rules.specs.declared.role.Role.{Role}
use Rattle.failover_message.specs.declared.frame.Frame.{Frame}
use Rattle.failover_message.specs.Stream.{Splits}
use Rattle.locked_book.specs.declared.receipt.Receipt.{Receipt}
use Rattle.failover_session.specs.declared.outbox.OutboundFrame.{OutboundFrame}
use Rattle.failover_session.specs.declared.policy.SessionPolicy.{SessionPolicy}
use Rattle.failover_session.specs.declared.stage.SessionStage.{SessionStage}
use Rattle.failover_session.specs.declared.link_input.LinkInput.{LinkInput}
use Rattle.failover_session.specs.declared.link_input.LinkInput.TheVariants.{Octets, Idle, HeartbeatDue, Closed}
use Rattle.failover_session.specs.Sessions.{messages_in, Met, Handles, HandlesFront}

-- a talk as its callers see it: by which policy it judges, the octets of a frame that hasn't come whole, how far the two ends have come,
-- whether the partner has said that it told all (UPDDONE), and the frames that are to be written
pub record SessionModel : Type 0 where
  pub policy : SessionPolicy
  pub held : List ℕ
  pub stage : SessionStage
  pub told_all : Bool
  pub handed : List OutboundFrame

-- what came is what was held and these octets: frames with these messages, and then less than a whole one
pub record Carries (held octets rest : List ℕ) (messages : List PartnerMessage) : Type 0 where
  pub frames : List Frame
  pub split : Splits (held ++ octets) frames rest
  pub carried : messages ≡ messages_in frames

-- the messages that came, where octets did
abbrev pub AreMessages : LinkInput → List ℕ → List ℕ → List PartnerMessage → Type 0
AreMessages (Octets octets) held rest messages = Carries held octets.now rest messages
AreMessages Idle held rest messages = (messages ≡ []) × (rest ≡ held)
AreMessages HeartbeatDue held rest messages = (messages ≡ []) × (rest ≡ held)
AreMessages Closed held rest messages = (messages ≡ []) × (rest ≡ held)

-- A front of the messages that came was heard. Where what came is no frame, nothing was.
abbrev pub IsPoll : Role → LinkInput → List ℕ → Met → Met → List Receipt → List Receipt → List OutboundFrame → List OutboundFrame
    → Type 0
IsPoll role came held before after had has was is =
    (messages : List PartnerMessage)
    × ((messages ≡ []) ⊎ ((rest : List ℕ) × AreMessages came held rest messages))
    × HandlesFront role messages before after had has was is

-- the octets of what came
abbrev pub octets_of : LinkInput → List ℕ
octets_of (Octets octets) = octets.now
octets_of _ = []

-- all of the messages that came were heard
abbrev pub IsWholePoll : Role → LinkInput → List ℕ → List ℕ → Met → Met → List Receipt → List Receipt → List OutboundFrame
    → List OutboundFrame → Type 0
IsWholePoll role came held rest before after had has was is =
    (messages : List PartnerMessage) × AreMessages came held rest messages
    × Handles role messages before after had has was is
