-- A front of the messages that came, and frames one behind another.
use Rattle.std.specs.Prelude.{◌≡◌, ℕ, ◌<◌, Some, None, option_map, List, [], ◌∷◌, ◌++◌, refl, length}
use Rattle.std.specs.List.{cons_option}
use Rattle.std.proofs.Common.{ap, sym, ◌∙◌, subst, append_assoc, append-nil, take, drop, get_or, suc}
use Rattle.std.proofs.Math.Seq.{take-suc}
use Rattle.std.proofs.lemmas.List.{take-append-drop}
use Rattle.std.proofs.lemmas.List.Elements.{filter_map-append}
use Rattle.binding_rules.specs.declared.message.PartnerMessage.{PartnerMessage}
use Rattle.binding_rules.specs.declared.role.Role.{Role}
use Rattle.failover_message.specs.declared.frame.Frame.{Frame}
use Rattle.locked_book.specs.declared.receipt.Receipt.{Receipt}
use Rattle.failover_session.specs.declared.outbox.OutboundFrame.{OutboundFrame}
use Rattle.failover_session.specs.OutboundFrames.{meanings_of}
use Rattle.failover_session.specs.Messages.{body_in, message_in}
use Rattle.failover_session.specs.declared.stage.SessionStage.{SessionStage}
use Rattle.failover_session.specs.declared.stage.SessionStage.TheVariants.{Greeting, Refused as IsRefused, Joined, Ended, Short}
use Rattle.failover_session.specs.Sessions.{Takes, SendsLines, TakesFront, Handles, HandlesFront, IsGoing, messages_in, Met, Named}
use Rattle.failover_session.specs.declared.policy.SessionPolicy.{SessionPolicy}
use Rattle.failover_session.specs.Shortage.{SaysWhyShort}
use Rattle.failover_session.proofs.Saying.{says_nothing, passed_over, taken_then_says}
use Rattle.failover_session.proofs.Hearing.{hears_of, hears_on, hears_nothing}

module _ (role : Role) (x y : Met) (a b : List Receipt) (o p : List OutboundFrame) where
  pub front_of : (heard : List PartnerMessage) → Handles role heard x y a b o p → HandlesFront role heard x y a b o p
  front_of heard h = (heard, [], sym (append-nil heard), h)

  pub none_of : (came : List PartnerMessage) → Handles role [] x y a b o p → HandlesFront role came x y a b o p
  none_of came h = ([], came, refl, h)

  pub front_more : (came more : List PartnerMessage) → HandlesFront role came x y a b o p
      → HandlesFront role (came ++ more) x y a b o p
  front_more came more h =
      (h.0, h.1 ++ more, ap (λ ms. ms ++ more) h.2 ∙ append_assoc h.0 h.1 more, h.3)

pub front_on : (role : Role) (x y z : Met) (a b c : List Receipt) (o p q : List OutboundFrame)
    (heard came : List PartnerMessage) → Handles role heard x y a b o p → HandlesFront role came y z b c p q
    → HandlesFront role (heard ++ came) x z a c o q
front_on role x y z a b c o p q heard came h k = (
  heard ++ k.0,
  k.1,
  ap (λ ms. heard ++ ms) k.2 ∙ sym (append_assoc heard k.0 k.1),
  hears_on role x y z a b c o p q heard k.0 h k.3,
)

-- an end that has joined the other
pub front_joined : (role : Role) (last : ℕ) (came : List PartnerMessage) (a b : List Receipt) (o p : List OutboundFrame)
    → TakesFront came a b o p → HandlesFront role came (Named last) (Named last) a b o p
front_joined role last came a b o p h = (h.0, h.1, h.2, hears_of role last h.0 a b o p h.3)

pub takes_front : (came : List PartnerMessage) (a b : List Receipt) (o p : List OutboundFrame) → Takes came a b o p
    → TakesFront came a b o p
takes_front came a b o p h = (came, [], sym (append-nil came), h)

pub takes_no_front : (came : List PartnerMessage) (a b : List Receipt) (o p : List OutboundFrame) → Takes [] a b o p
    → TakesFront came a b o p
takes_no_front came a b o p h = ([], came, refl, h)

pub refused_front : (came : List PartnerMessage) (a b : List Receipt) (o p : List OutboundFrame) → b ≡ a → p ≡ o
    → TakesFront came a b o p
refused_front came a b o p same out =
    takes_no_front came a b o p (says_nothing a b o p same (ap (λ fs. meanings_of fs) out))

-- ---- one frame

module _ (f : Frame) (a b : List Receipt) (o p : List OutboundFrame) where
  -- it carries no message
  pub word_takes : message_in f ≡ None → SendsLines a b o p → Takes (messages_in (f ∷ [])) a b o p
  word_takes none h = subst (λ x. Takes (cons_option x []) a b o p) (sym none) h

  pub word_front : message_in f ≡ None → SendsLines a b o p → TakesFront (messages_in (f ∷ [])) a b o p
  word_front none h = takes_no_front (messages_in (f ∷ [])) a b o p h

  pub word_heard : (role : Role) (x y : Met) → body_in f.kind ≡ None → Handles role [] x y a b o p
      → Handles role (messages_in (f ∷ [])) x y a b o p
  word_heard role x y none h =
      let empty : messages_in (f ∷ []) ≡ [] =
      ap (λ k. cons_option (option_map (λ body. record { term = f.term; serial = f.serial; body = body }) k) []) none in
      subst (λ ms. Handles role ms x y a b o p) (sym empty) h

  module _ (m : PartnerMessage) (its : message_in f ≡ Some m) where
    pub its_takes : Takes (m ∷ []) a b o p → Takes (messages_in (f ∷ [])) a b o p
    its_takes h = subst (λ x. Takes (cons_option x []) a b o p) (sym its) h

    pub its_front : TakesFront (m ∷ []) a b o p → TakesFront (messages_in (f ∷ [])) a b o p
    its_front h = subst (λ x. TakesFront (cons_option x []) a b o p) (sym its) h

-- ---- frames one behind another

module _ (fs : List Frame) (i : ℕ) (f : Frame) (within : i < length fs) (its : f ≡ get_or fs i f) where
  one_frame_more : messages_in (take i fs) ++ messages_in (f ∷ []) ≡ messages_in (take (suc i) fs)
  one_frame_more =
      sym (filter_map-append message_in (take i fs) (f ∷ []))
      ∙ ap messages_in (ap (λ g. take i fs ++ g ∷ []) its ∙ sym (take-suc fs i f within))

  module _ (role : Role) (x y z : Met) (a b c : List Receipt) (o p q : List OutboundFrame)
      (h : Handles role (messages_in (take i fs)) x y a b o p) where
    -- the frame there was heard
    pub frame_heard : Handles role (messages_in (f ∷ [])) y z b c p q
        → Handles role (messages_in (take (suc i) fs)) x z a c o q
    frame_heard k =
        subst (λ ms. Handles role ms x z a c o q) one_frame_more
        (hears_on role x y z a b c o p q (messages_in (take i fs)) (messages_in (f ∷ [])) h k)

    -- no frame behind it was
    pub frame_begun : HandlesFront role (messages_in (f ∷ [])) y z b c p q
        → HandlesFront role (messages_in fs) x z a c o q
    frame_begun k =
        let here : HandlesFront role (messages_in (take (suc i) fs)) x z a c o q =
        subst (λ ms. HandlesFront role ms x z a c o q) one_frame_more
        (front_on role x y z a b c o p q (messages_in (take i fs)) (messages_in (f ∷ [])) h k) in
        let all : messages_in (take (suc i) fs) ++ messages_in (drop (suc i) fs) ≡ messages_in fs =
        sym (filter_map-append message_in (take (suc i) fs) (drop (suc i) fs))
        ∙ ap messages_in (take-append-drop (suc i) fs) in
        subst (λ ms. HandlesFront role ms x z a c o q) all
        (front_more role x z a c o q (messages_in (take (suc i) fs)) (messages_in (drop (suc i) fs)) here)

-- it goes on where it hasn't ended
pub goes_on : (s : SessionStage) → ((IsGoing s → ⊥) → ⊥) → IsGoing s
goes_on Greeting h = tt
goes_on (Joined last) h = tt
goes_on IsRefused h = absurd (h (λ x. x))
goes_on (Ended named) h = absurd (h (λ x. x))
goes_on (Short named shortage) h = absurd (h (λ x. x))

-- a talk that goes on doesn't say that the journal is short
pub going_says : (policy : SessionPolicy) (has : List Receipt) (s : SessionStage) → IsGoing s
    → SaysWhyShort policy has s
going_says policy has Greeting going = tt
going_says policy has (Joined last) going = tt
going_says policy has IsRefused going = absurd going
going_says policy has (Ended named) going = absurd going
going_says policy has (Short named shortage) going = absurd going

-- ---- for the functions that hear

pub ruleset one_message = (passed_over, taken_then_says, takes_front, refused_front)

pub ruleset one_joined = (word_front, word_takes, its_front, its_takes)

pub ruleset one_frame = (hears_nothing, hears_of, none_of, front_joined, word_heard)

pub ruleset frames = (hears_nothing, frame_heard, frame_begun, front_of)
