-- What one turn of a talk does, out of what its parts do.
use Rattle.std.specs.Prelude.{◌≡◌, ℕ, Result, Ok, Err, OnOk, List, [], ◌++◌, refl}
use Rattle.std.proofs.Common.{ap, sym, subst, append-nil, inl, inr, Bor}
use Rattle.binding_rules.specs.declared.message.PartnerMessage.{PartnerMessage}
use Rattle.binding_rules.specs.declared.role.Role.{Role}
use Rattle.failover_message.specs.declared.frame.Frame.{Frame}
use Rattle.failover_message.specs.Stream.{Splits}
use Rattle.locked_book.specs.declared.receipt.Receipt.{Receipt}
use Rattle.failover_session.specs.declared.link_input.LinkInput.{LinkInput}
use Rattle.failover_session.specs.declared.link_input.LinkInput.TheVariants.{Octets, Idle, HeartbeatDue}
use Rattle.failover_session.specs.declared.outbox.OutboundFrame.{OutboundFrame}
use Rattle.failover_session.specs.Receipts.{Goes}
use Rattle.failover_session.specs.OutboundFrames.{meanings_of}
use Rattle.failover_session.specs.Sessions.{SendsLines, Handles, HandlesFront, messages_in, Met, Named}
use Rattle.failover_session.specs.Polling.{Carries, AreMessages, IsPoll, IsWholePoll}
use Rattle.failover_session.proofs.Hearing.{hears_of, hears_on, hears_nothing}
use Rattle.failover_session.proofs.Front.{none_of}

module _ (role : Role) (came : LinkInput) (held : List ℕ) (x y : Met) (a b : List Receipt) (o p : List OutboundFrame) where
  -- no message was heard
  pub turn_silent : Handles role [] x y a b o p → IsPoll role came held x y a b o p
  turn_silent h = ([], inl refl, none_of role x y a b o p [] h)

  pub whole_silent : AreMessages came held held [] → Handles role [] x y a b o p
      → IsWholePoll role came held held x y a b o p
  whole_silent none h = ([], none, h)

-- what was refused
pub turn_refused : (role : Role) (came : LinkInput) (held : List ℕ) (x : Met) (a b : List Receipt) (o p : List OutboundFrame)
    → b ≡ a → p ≡ o → IsPoll role came held x x a b o p
turn_refused role came held x a b o p same out =
    turn_silent role came held x x a b o p (hears_nothing role x a b o p same (ap (λ fs. meanings_of fs) out))

-- frames came, and a front of them was heard, or all
module _ (role : Role) (came : LinkInput) (held rest : List ℕ) (frames : List Frame) (x y : Met) (a b : List Receipt)
    (o p : List OutboundFrame) (are : AreMessages came held rest (messages_in frames)) where
  pub turn_heard : HandlesFront role (messages_in frames) x y a b o p → IsPoll role came held x y a b o p
  turn_heard h = (messages_in frames, inr (rest, are), h)

  pub whole_heard : Handles role (messages_in frames) x y a b o p → IsWholePoll role came held rest x y a b o p
  whole_heard h = (messages_in frames, are, h)

pub octets_carry : (held octets rest : List ℕ) (frames : List Frame) → Splits (held ++ octets) frames rest
    → Carries held octets rest (messages_in frames)
octets_carry held octets rest frames split = record { frames = frames; split = split; carried = refl }

-- the messages that came, by what came
pub octets_are : (came : LinkInput) (octets : Bor (List ℕ)) (held rest : List ℕ) (frames : List Frame)
    → came ≡ Octets octets → Splits (held ++ octets.now) frames rest
    → AreMessages came held rest (messages_in frames)
octets_are came octets held rest frames is split =
    subst (λ c. AreMessages c held rest (messages_in frames)) (sym is)
    (octets_carry held octets.now rest frames split)

pub nothing_are : (came : LinkInput) (held : List ℕ) → came ≡ Idle → AreMessages came held held []
nothing_are came held is = subst (λ c. AreMessages c held held []) (sym is) (refl, refl)

pub beat_are : (came : LinkInput) (held : List ℕ) → came ≡ HeartbeatDue → AreMessages came held held []
beat_are came held is = subst (λ c. AreMessages c held held []) (sym is) (refl, refl)

-- a promise of what is done holds where it is done
pub if_done : {T E P : Type 0} (result : Result T E) → P → OnOk result P
if_done (Ok v) its = its
if_done (Err e) its = tt

-- ---- and then something was said

module _ (role : Role) (came : LinkInput) (held : List ℕ) (x y : Met) (last : ℕ) (named : y ≡ Named last)
    (a b c : List Receipt) (o p q : List OutboundFrame) (says : SendsLines b c p q) where
  then_says : (heard : List PartnerMessage) → Handles role heard x y a b o p → Handles role heard x y a c o q
  then_says heard h =
      let more : Handles role [] y y b c p q =
      subst (λ z. Handles role [] z z b c p q) (sym named) (hears_of role last [] b c p q says) in
      subst (λ ms. Handles role ms x y a c o q) (append-nil heard) (hears_on role x y y a b c o p q heard [] h more)

  pub turn_on : IsPoll role came held x y a b o p → IsPoll role came held x y a c o q
  turn_on h =
      let front = h.2 in
      (h.0, h.1, (front.0, front.1, front.2, then_says front.0 front.3))

  pub whole_on : (rest : List ℕ) → IsWholePoll role came held rest x y a b o p
      → IsWholePoll role came held rest x y a c o q
  whole_on rest h = (h.0, h.1, then_says h.0 h.2)

-- ---- no message was taken twice, or left out

pub turn_goes : (role : Role) (came : LinkInput) (held : List ℕ) (x y : Met) (a b : List Receipt) (o p : List OutboundFrame)
    → IsPoll role came held x y a b o p → Goes a b
turn_goes role came held x y a b o p turn =
    let heard = turn.2.3 in
    record { added = heard.added; all = heard.all; next = heard.next }

pub ruleset parts = (turn_refused, turn_silent, turn_heard, whole_silent, whole_heard, hears_nothing)

pub ruleset then = (turn_on, whole_on)
