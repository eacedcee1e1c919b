-- What an end's talk does: which lines it adds to the book, and which frames it hands out for them.
use Rattle.std.specs.Prelude.{◌≡◌, ◌≤◌, ⊤, ℕ, Option, Some, None, List, [], ◌++◌}
use Rattle.std.specs.List.{filter_map}
use Rattle.binding_rules.specs.declared.message.PartnerMessage.{PartnerMessage}
use Rattle.binding_rules.specs.declared.role.Role.{Role}
use Rattle.failover_message.specs.declared.frame.Frame.{Frame}
use Rattle.locked_book.specs.declared.receipt.Receipt.{Receipt}
use Rattle.failover_session.specs.declared.outbox.OutboundFrame.{OutboundFrame}
use Rattle.failover_session.specs.declared.stage.SessionStage.{SessionStage}
use Rattle.failover_session.specs.declared.stage.SessionStage.TheVariants.{Greeting, Refused as IsRefused, Joined, Ended, Short}
use Rattle.failover_session.specs.Receipts.{last_taken, last_sent, AreNext, takes_of, newer_from}
use Rattle.failover_session.specs.OutboundFrames.{FrameMeaning, meanings_of, sends_of, sends_above, answer}
use Rattle.failover_session.specs.Messages.{message_in}

-- Lines were added. Of the messages that were heard they take those that are newer than all before, each the next by
-- its serial; and what they send was handed out, in their order, and no other message.
pub record Takes (heard : List PartnerMessage) (had has : List Receipt) (was is : List OutboundFrame) : Type 0 where
  pub added : List Receipt
  pub all : has ≡ had ++ added
  pub takes : takes_of added ≡ newer_from (last_taken had) heard
  pub next : AreNext (last_taken had) added
  pub sends : meanings_of is ≡ meanings_of was ++ sends_of added

-- the same, but that no message was heard
abbrev pub SendsLines : List Receipt → List Receipt → List OutboundFrame → List OutboundFrame → Type 0
SendsLines had has was is = Takes [] had has was is

-- how far the partner was met: not yet; it named a serial that can't be; or it named that of the last message that it
-- took
pub data Met : Type 0 where
  Unmet : Met
  Refused : Met
  Named : ℕ → Met

abbrev pub met_by : Option ℕ → Met
met_by None = Unmet
met_by (Some last) = Named last

-- whose journal is short: by the serial that the partner named, or by what came behind it
abbrev pub met_short : Option ℕ → Met
met_short None = Refused
met_short (Some last) = Named last

abbrev pub met_at : SessionStage → Met
met_at Greeting = Unmet
met_at IsRefused = Refused
met_at (Joined last) = Named last
met_at (Ended named) = met_by named
met_at (Short named shortage) = met_short named

-- the talk goes on
abbrev pub IsGoing : SessionStage → Type 0
IsGoing (Ended named) = ⊥
IsGoing (Short named shortage) = ⊥
IsGoing IsRefused = ⊥
IsGoing _ = ⊤

-- a front of the messages was heard
abbrev pub TakesFront : List PartnerMessage → List Receipt → List Receipt → List OutboundFrame → List OutboundFrame → Type 0
TakesFront came had has was is =
    (heard : List PartnerMessage) × (rest : List PartnerMessage) × (came ≡ heard ++ rest)
    × Takes heard had has was is

-- what is said first where the partner is met: the answer to its greeting, and all that was sent above the serial that
-- it named
abbrev pub first_meanings : Role → Met → Met → List Receipt → List FrameMeaning
first_meanings role Unmet Refused had = answer role had
first_meanings role Unmet (Named last) had = answer role had ++ sends_above last had
first_meanings role _ _ had = []

-- who was met stays so
abbrev pub Stays : Met → Met → Type 0
Stays Unmet after = ⊤
Stays before after = after ≡ before

-- a partner that is met has taken no message that was never sent
abbrev pub HasSentNamed : Met → Met → List Receipt → Type 0
HasSentNamed Unmet (Named last) had = last ≤ last_sent had
HasSentNamed before after had = ⊤

-- the partner named no serial that can be
abbrev pub IsUnnamed : Met → Type 0
IsUnnamed (Named last) = ⊥
IsUnnamed _ = ⊤

-- Lines were added. Of the messages that were heard they take those that are newer than all before, each the next by
-- its serial. Where the partner was met, its answer and what was sent above the serial that it named was handed out
-- first; then what the lines send, in their order; and no other greeting and no other message. Before it named a
-- serial, no line was added; and what it named was sent.
pub record Handles (role : Role) (heard : List PartnerMessage) (before after : Met) (had has : List Receipt)
    (was is : List OutboundFrame) : Type 0 where
  pub added : List Receipt
  pub all : has ≡ had ++ added
  pub takes : takes_of added ≡ newer_from (last_taken had) heard
  pub next : AreNext (last_taken had) added
  pub sends : meanings_of is ≡ meanings_of was ++ first_meanings role before after had ++ sends_of added
  pub stays : Stays before after
  pub sent : HasSentNamed before after had
  pub silent : IsUnnamed after → added ≡ []

-- the messages that frames carry
abbrev pub messages_in : List Frame → List PartnerMessage
messages_in frames = filter_map message_in frames

-- a front of the messages was heard, and did that
abbrev pub HandlesFront : Role → List PartnerMessage → Met → Met → List Receipt → List Receipt → List OutboundFrame
    → List OutboundFrame → Type 0
HandlesFront role came before after had has was is =
    (heard : List PartnerMessage) × (rest : List PartnerMessage) × (came ≡ heard ++ rest)
    × Handles role heard before after had has was is
