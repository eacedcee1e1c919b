-- Messages that are heard, and what is handed out where the partner is met.
use Rattle.std.specs.Prelude.{◌≡◌, ◌≤◌, ℕ, List, [], ◌++◌, refl}
use Rattle.std.proofs.Common.{ap, sym, ◌∙◌, subst, append_assoc, append-nil}
use Rattle.std.proofs.lemmas.List.Elements.{filter_map-append}
use Rattle.binding_rules.specs.declared.message.PartnerMessage.{PartnerMessage}
use Rattle.binding_rules.specs.declared.role.Role.{Role}
use Rattle.locked_book.specs.declared.receipt.Receipt.{Receipt}
use Rattle.failover_session.specs.declared.outbox.OutboundFrame.{OutboundFrame}
use Rattle.failover_session.specs.Receipts.{last_taken, last_sent, takes_of, newer_from}
use Rattle.failover_session.specs.OutboundFrames.{FrameMeaning, meaning_in, meanings_of, meaning_of_receipt, sends_of, sends_above, answer}
use Rattle.failover_session.specs.Sessions.{Takes, SendsLines, Handles, Met, Unmet, Refused, Named, first_meanings, Stays, HasSentNamed, IsUnnamed}
use Rattle.failover_session.proofs.Taken.{takes_more, next_on}

module _ (role : Role) where
  first_same : (x : Met) (a : List Receipt) → first_meanings role x x a ≡ []
  first_same Unmet a = refl
  first_same Refused a = refl
  first_same (Named last) a = refl

  stays_same : (x : Met) → Stays x x
  stays_same Unmet = tt
  stays_same Refused = refl
  stays_same (Named last) = refl

  sent_same : (x : Met) (a : List Receipt) → HasSentNamed x x a
  sent_same Unmet a = tt
  sent_same Refused a = tt
  sent_same (Named last) a = tt

  pub hears_nothing : (x : Met) (a b : List Receipt) (o p : List OutboundFrame) → b ≡ a → meanings_of p ≡ meanings_of o
      → Handles role [] x x a b o p
  hears_nothing x a b o p same out =
      record {
        added = [];
        all = same ∙ sym (append-nil a);
        takes = refl;
        next = tt;
        sends =
            out
            ∙ (sym (append-nil (meanings_of o))
            ∙ (sym (append-nil (meanings_of o ++ []))
            ∙ ap (λ xs. (meanings_of o ++ xs) ++ []) (sym (first_same x a))));
        stays = stays_same x;
        sent = sent_same x a;
        silent = λ _. refl;
      }

  -- where the other end had named a serial before
  pub hears_of : (last : ℕ) (heard : List PartnerMessage) (a b : List Receipt) (o p : List OutboundFrame) → Takes heard a b o p
      → Handles role heard (Named last) (Named last) a b o p
  hears_of last heard a b o p h =
      record {
        added = h.added;
        all = h.all;
        takes = h.takes;
        next = h.next;
        sends = h.sends ∙ ap (λ xs. xs ++ sends_of h.added) (sym (append-nil (meanings_of o)));
        stays = refl;
        sent = tt;
        silent = λ none. absurd none;
      }

  -- where it names one
  pub hears_join : (last : ℕ) (a b : List Receipt) (o p q first again : List OutboundFrame) → last ≤ last_sent a
      → meanings_of first ≡ answer role a → meanings_of again ≡ sends_above last a
      → meanings_of p ≡ meanings_of o ++ meanings_of (first ++ again) → SendsLines a b p q → Handles role [] Unmet (Named last) a b o q
  hears_join last a b o p q first again sent answers above out h =
      let its : meanings_of (first ++ again) ≡ answer role a ++ sends_above last a =
      filter_map-append meaning_in first again
      ∙ (ap (λ xs. xs ++ meanings_of again) answers ∙ ap (λ xs. answer role a ++ xs) above) in
      record {
        added = h.added;
        all = h.all;
        takes = h.takes;
        next = h.next;
        sends = h.sends ∙ ap (λ xs. xs ++ sends_of h.added) (out ∙ ap (λ xs. meanings_of o ++ xs) its);
        stays = tt;
        sent = sent;
        silent = λ none. absurd none;
      }

  -- where it names one that can't be
  pub hears_refused : (a b : List Receipt) (o p first : List OutboundFrame) → meanings_of first ≡ answer role a → b ≡ a
      → meanings_of p ≡ meanings_of o ++ meanings_of first → Handles role [] Unmet Refused a b o p
  hears_refused a b o p first its same out =
      record {
        added = [];
        all = same ∙ sym (append-nil a);
        takes = refl;
        next = tt;
        sends = out ∙ (ap (λ xs. meanings_of o ++ xs) its ∙ sym (append-nil (meanings_of o ++ answer role a)));
        stays = tt;
        sent = tt;
        silent = λ _. refl;
      }

  -- the frames of two steps, where the first or the second may have met the partner
  first_on : (x y z : Met) (a b : List Receipt) (h : List Receipt) → b ≡ a ++ h
      → Stays x y → Stays y z → (IsUnnamed y → h ≡ [])
      → first_meanings role x y a ++ sends_of h ++ first_meanings role y z b ≡ first_meanings role x z a ++ sends_of h
  first_on Unmet Unmet z a b h all s t silent =
      let none : h ≡ [] = silent tt in
      let same : b ≡ a = all ∙ (ap (λ xs. a ++ xs) none ∙ append-nil a) in
      ap (λ xs. sends_of xs ++ first_meanings role Unmet z b) none
      ∙ (ap (λ rs. first_meanings role Unmet z rs) same
      ∙ (sym (append-nil (first_meanings role Unmet z a)) ∙ ap (λ xs. first_meanings role Unmet z a ++ sends_of xs) (sym none)))
  first_on Unmet Refused z a b h all s t silent =
      subst (λ m. first_meanings role Unmet Refused a ++ sends_of h ++ first_meanings role Refused m b
      ≡ first_meanings role Unmet m a ++ sends_of h) (sym t)
      (append-nil (first_meanings role Unmet Refused a ++ sends_of h))
  first_on Unmet (Named l) z a b h all s t silent =
      subst (λ m. first_meanings role Unmet (Named l) a ++ sends_of h ++ first_meanings role (Named l) m b
      ≡ first_meanings role Unmet m a ++ sends_of h) (sym t)
      (append-nil (first_meanings role Unmet (Named l) a ++ sends_of h))
  first_on Refused Unmet z a b h all s t silent = absurd cc
  first_on Refused Refused z a b h all s t silent =
      subst (λ m. first_meanings role Refused Refused a ++ sends_of h ++ first_meanings role Refused m b
      ≡ first_meanings role Refused m a ++ sends_of h) (sym t) (append-nil (sends_of h))
  first_on Refused (Named l) z a b h all s t silent = absurd cc
  first_on (Named k) Unmet z a b h all s t silent = absurd cc
  first_on (Named k) Refused z a b h all s t silent = absurd cc
  first_on (Named k) (Named l) z a b h all s t silent =
      subst (λ m. first_meanings role (Named k) (Named l) a ++ sends_of h ++ first_meanings role (Named l) m b
      ≡ first_meanings role (Named k) m a ++ sends_of h) (sym t) (append-nil (sends_of h))

  stays_on : (x y z : Met) → Stays x y → Stays y z → Stays x z
  stays_on Unmet y z s t = tt
  stays_on Refused Unmet z s t = absurd cc
  stays_on Refused Refused z s t = t
  stays_on Refused (Named l) z s t = absurd cc
  stays_on (Named k) Unmet z s t = absurd cc
  stays_on (Named k) Refused z s t = absurd cc
  stays_on (Named k) (Named l) z s t = t ∙ s

  -- what was named was sent: before the partner had named it no line was added
  sent_on : (x y z : Met) (a b h : List Receipt) → b ≡ a ++ h → Stays y z → (IsUnnamed y → h ≡ [])
      → HasSentNamed x y a → HasSentNamed y z b → HasSentNamed x z a
  sent_on Unmet Unmet z a b h all t silent s r =
      subst (λ rs. HasSentNamed Unmet z rs) (all ∙ (ap (λ xs. a ++ xs) (silent tt) ∙ append-nil a)) r
  sent_on Unmet Refused z a b h all t silent s r = subst (λ m. HasSentNamed Unmet m a) (sym t) tt
  sent_on Unmet (Named l) z a b h all t silent s r = subst (λ m. HasSentNamed Unmet m a) (sym t) s
  sent_on Refused y z a b h all t silent s r = tt
  sent_on (Named k) y z a b h all t silent s r = tt

  unnamed_before : (y z : Met) → Stays y z → IsUnnamed z → IsUnnamed y
  unnamed_before Unmet z t unnamed = tt
  unnamed_before Refused z t unnamed = tt
  unnamed_before (Named l) z t unnamed = subst IsUnnamed t unnamed

  module _ (x y z : Met) (a b c : List Receipt) (o p q : List OutboundFrame) where
    pub hears_on : (heard more : List PartnerMessage) → Handles role heard x y a b o p → Handles role more y z b c p q
        → Handles role (heard ++ more) x z a c o q
    hears_on heard more h k =
        let second : takes_of k.added ≡ newer_from (last_taken (a ++ h.added)) more =
        k.takes ∙ ap (λ rs. newer_from (last_taken rs) more) h.all in
        let base : List FrameMeaning = meanings_of o in
        let one : List FrameMeaning = first_meanings role x y a in
        let two : List FrameMeaning = first_meanings role y z b in
        let hs : List FrameMeaning = sends_of h.added in
        let ks : List FrameMeaning = sends_of k.added in
        let all : List FrameMeaning = first_meanings role x z a in
        let joined : (one ++ hs) ++ two ≡ all ++ hs = first_on x y z a b h.added h.all h.stays k.stays h.silent in
        let front : ((base ++ one) ++ hs) ++ two ≡ (base ++ all) ++ hs =
        ap (λ xs. xs ++ two) (append_assoc base one hs)
        ∙ (append_assoc base (one ++ hs) two
        ∙ (ap (λ xs. base ++ xs) joined ∙ sym (append_assoc base all hs))) in
        record {
          added = h.added ++ k.added;
          all = k.all ∙ (ap (λ rs. rs ++ k.added) h.all ∙ append_assoc a h.added k.added);
          takes = takes_more a h.added k.added heard more h.takes second;
          next = next_on a b h.added k.added h.all h.next k.next;
          sends =
              k.sends
              ∙ (ap (λ xs. (xs ++ two) ++ ks) h.sends
              ∙ (ap (λ xs. xs ++ ks) front
              ∙ (append_assoc (base ++ all) hs ks
              ∙ ap (λ xs. (base ++ all) ++ xs) (sym (filter_map-append meaning_of_receipt h.added k.added)))));
          stays = stays_on x y z h.stays k.stays;
          sent = sent_on x y z a b h.added h.all k.stays h.silent h.sent k.sent;
          silent =
              λ unnamed.
              let first : h.added ≡ [] = h.silent (unnamed_before y z k.stays unnamed) in
              ap (λ xs. xs ++ k.added) first ∙ k.silent unnamed;
        }

pub ruleset joining = (hears_nothing, hears_join, hears_refused)

pub ruleset meeting = (hears_nothing)

pub ruleset quiet = (hears_nothing, hears_of)
