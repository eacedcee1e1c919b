-- Receipts that are added, and the frames that are handed out for them.
use Rattle.std.specs.Prelude.{◌≡◌, ◌+◌, ◌≤◌, nat_lt, ℕ, true, false, Some, None, List, [], ◌∷◌, ◌++◌}
use Rattle.std.specs.Prelude.{refl, cond}
use Rattle.std.specs.List.{cons_option}
use Rattle.std.proofs.Common.{ap, sym, ◌∙◌, subst, append_assoc, append-nil, arith}
use Rattle.std.proofs.lemmas.Bool.{lt-ltb, le-ltb}
use Rattle.std.proofs.lemmas.List.Elements.{filter_map-append}
use Rattle.binding_rules.specs.declared.message.PartnerMessage.{PartnerMessage}
use Rattle.journal_lines.specs.declared.event.Event.{Event}
use Rattle.journal_lines.specs.declared.event.Event.TheVariants.{Take as TakeLine, Send}
use Rattle.binding_rules.specs.declared.role.Role.{Role}
use Rattle.binding_rules.specs.declared.role.Role.TheVariants.{Primary, Secondary}
use Rattle.book_state.specs.Book.{BookState}
use Rattle.order_book.specs.declared.order.Order.{Order}
use Rattle.order_book.specs.declared.order.Order.TheVariants.{Request, Renew, Release, Expire, Backup, Reclaim, Seize}
use Rattle.order_book.specs.declared.order.Order.TheVariants.{SendUpdate, SendReply, SendContact, Take, State, Restart}
use Rattle.order_book.specs.declared.order.Order.TheVariants.{Close}
use Rattle.order_book.specs.Named.{IsNamed}
use Rattle.locked_book.specs.declared.receipt.Receipt.{Receipt}
use Rattle.failover_session.specs.declared.outbox.OutboundFrame.{OutboundFrame}
use Rattle.failover_session.specs.Receipts.{last_taken, IsNext, take_in, takes_of, newer_from, IsOther, IsNamedBy}
use Rattle.failover_session.specs.OutboundFrames.{meaning_in, meanings_of, sent_in, meaning_of_receipt, sends_of, greeting_in, greeting_kind, Greets}
use Rattle.failover_session.specs.Messages.{body_in, message_in}
use Rattle.failover_session.specs.Sessions.{Takes, SendsLines}
use Rattle.failover_session.proofs.Taken.{takes_more, next_on, other_next}

module _ (a b c : List Receipt) (o p q : List OutboundFrame) where
  pub takes_on : (heard more : List PartnerMessage) → Takes heard a b o p → Takes more b c p q
      → Takes (heard ++ more) a c o q
  takes_on heard more h k =
      let second : takes_of k.added ≡ newer_from (last_taken (a ++ h.added)) more =
      k.takes ∙ ap (λ rs. newer_from (last_taken rs) more) h.all in
      record {
        added = h.added ++ k.added;
        all = k.all ∙ (ap (λ rs. rs ++ k.added) h.all ∙ append_assoc a h.added k.added);
        takes = takes_more a h.added k.added heard more h.takes second;
        next = next_on a b h.added k.added h.all h.next k.next;
        sends =
            k.sends
            ∙ (ap (λ xs. xs ++ sends_of k.added) h.sends
            ∙ (append_assoc (meanings_of o) (sends_of h.added) (sends_of k.added)
            ∙ ap (λ xs. meanings_of o ++ xs) (sym (filter_map-append meaning_of_receipt h.added k.added))));
      }

  pub says_on : SendsLines a b o p → SendsLines b c p q → SendsLines a c o q
  says_on h k = takes_on [] [] h k

pub says_nothing : (a b : List Receipt) (o p : List OutboundFrame) → b ≡ a → meanings_of p ≡ meanings_of o → SendsLines a b o p
says_nothing a b o p same out =
    record {
      added = [];
      all = same ∙ sym (append-nil a);
      takes = refl;
      next = tt;
      sends = out ∙ sym (append-nil (meanings_of o));
    }

-- ---- one order

event_other : (e : Event) → ((m : PartnerMessage) → e ≡ TakeLine m → ⊥) → take_in e ≡ None
event_other (TakeLine m) other = absurd (other m refl)
event_other _ other = refl

pub other_takes : (b : BookState) (now : ℕ) (order : Order) (e : Event) → IsOther order → IsNamed b now order e
    → take_in e ≡ None
other_takes b now (Request a) e _ h = ap take_in h.2
other_takes b now (Renew a) e _ h = ap take_in h.2
other_takes b now (Release a) e _ h = ap take_in h.2
other_takes b now (Expire p) e _ h = ap take_in h
other_takes b now (Backup p) e _ h = ap take_in h
other_takes b now (Reclaim p) e _ h = ap take_in h
other_takes b now (Seize p) e _ h = ap take_in h
other_takes b now (SendUpdate p) e _ h = ap take_in h.2
other_takes b now (SendReply p) e _ h = ap take_in h.2
other_takes b now SendContact e _ h = ap take_in h.3
other_takes b now (Take m) e other h = absurd other
other_takes b now (State word) e _ h = ap take_in h
other_takes b now Restart e _ h = ap take_in h
other_takes b now Close e _ h = ap take_in h

-- a line that an order added, and what was handed out for it
pub one_said : (a b : List Receipt) (o p : List OutboundFrame) (r : Receipt) (order : Order) → b ≡ a ++ r ∷ []
    → IsNamedBy order r.line → IsOther order → meanings_of p ≡ meanings_of o ++ sends_of (r ∷ []) → SendsLines a b o p
one_said a b o p r order all named other out =
    let none : take_in r.line.event ≡ None = other_takes named.0 r.line.reading order r.line.event other named.1 in
    record {
      added = r ∷ [];
      all = all;
      takes = ap (λ x. cons_option x []) none;
      next = (other_next (last_taken a) r.line.event none, tt);
      sends = out;
    }

-- a frame that says nothing of a journal
pub word_said : (o : List OutboundFrame) (h : OutboundFrame) → body_in h.frame.kind ≡ None → greeting_in h.frame.kind ≡ None
    → meanings_of (o ++ h ∷ []) ≡ meanings_of o
word_said o h none no_greeting =
    let its : meaning_in h ≡ None = rw (none, no_greeting) refl in
    filter_map-append meaning_in o (h ∷ [])
    ∙ (ap (λ x. meanings_of o ++ cons_option x []) its ∙ append-nil (meanings_of o))

-- a server's greeting
greets_as : (h : OutboundFrame) (role : Role) (last : ℕ) → h.frame.kind ≡ greeting_kind role last
    → meaning_in h ≡ Some (Greets (greeting_kind role last))
greets_as h Primary last is = rw (is) refl
greets_as h Secondary last is = rw (is) refl

pub greeting_said : (h : OutboundFrame) (role : Role) (last : ℕ) → h.frame.kind ≡ greeting_kind role last
    → meanings_of (h ∷ []) ≡ Greets (greeting_kind role last) ∷ []
greeting_said h role last is = ap (λ x. cons_option x []) (greets_as h role last is)

-- frames behind others
pub frames_said : (o more : List OutboundFrame) → meanings_of (o ++ more) ≡ meanings_of o ++ meanings_of more
frames_said o more = filter_map-append meaning_in o more

-- ---- what a line sends

-- it sends a message
pub sends_one : (h : OutboundFrame) (r : Receipt) (m : PartnerMessage) → r.line.event ≡ Send m → message_in h.frame ≡ Some m
    → h.number ≡ Some r.number → sends_of (r ∷ []) ≡ meanings_of (h ∷ [])
sends_one h r m sends carries number =
    let its : meaning_of_receipt r ≡ meaning_in h = rw (carries, number, sends) refl in
    ap (λ x. cons_option x []) its

event_silent : (e : Event) → ((m : PartnerMessage) → e ≡ Send m → ⊥) → sent_in e ≡ None
event_silent (Send m) other = absurd (other m refl)
event_silent _ other = refl

-- it sends none
pub sends_none : (r : Receipt) → ((m : PartnerMessage) → r.line.event ≡ Send m → ⊥) → sends_of (r ∷ []) ≡ []
sends_none r other =
    let none : meaning_of_receipt r ≡ None = rw (event_silent r.line.event other) refl in
    ap (λ x. cons_option x []) none

-- its frame stands behind others
pub one_more_sent : (o : List OutboundFrame) (h : OutboundFrame) (r : Receipt) → sends_of (r ∷ []) ≡ meanings_of (h ∷ [])
    → meanings_of (o ++ h ∷ []) ≡ meanings_of o ++ sends_of (r ∷ [])
one_more_sent o h r its = filter_map-append meaning_in o (h ∷ []) ∙ ap (λ xs. meanings_of o ++ xs) (sym its)

pub none_sent : (o : List OutboundFrame) (r : Receipt) → sends_of (r ∷ []) ≡ []
    → meanings_of o ≡ meanings_of o ++ sends_of (r ∷ [])
none_sent o r none = sym (append-nil (meanings_of o)) ∙ ap (λ xs. meanings_of o ++ xs) (sym none)

-- ---- one message that is taken

pub one_taken : (a b : List Receipt) (o : List OutboundFrame) (r : Receipt) (m : PartnerMessage) → b ≡ a ++ r ∷ []
    → r.line.event ≡ TakeLine m → m.serial ≡ last_taken a + 1 → Takes (m ∷ []) a b o o
one_taken a b o r m all takes next =
    let test : nat_lt (last_taken a) m.serial ≡ true = lt-ltb (last_taken a) m.serial (omega arith) in
    record {
      added = r ∷ [];
      all = all;
      takes =
          ap (λ e. cons_option (take_in e) []) takes ∙ sym (ap (λ t. cond t (m ∷ []) []) test);
      next = (subst (λ e. IsNext (last_taken a) e) (sym takes) next, tt);
      sends = none_sent o r (sends_none r (λ x is. cc));
    }

-- one that is no newer is passed over
pub passed_over : (a b : List Receipt) (o p : List OutboundFrame) (m : PartnerMessage) → b ≡ a → p ≡ o
    → m.serial ≤ last_taken a → Takes (m ∷ []) a b o p
passed_over a b o p m same out old =
    let test : nat_lt (last_taken a) m.serial ≡ false = le-ltb (last_taken a) m.serial old in
    record {
      added = [];
      all = same ∙ sym (append-nil a);
      takes = sym (ap (λ t. cond t (m ∷ []) []) test);
      next = tt;
      sends = ap (λ fs. meanings_of fs) out ∙ sym (append-nil (meanings_of o));
    }

-- one that is taken, and what is done then
pub taken_then_says : (a b c : List Receipt) (o q : List OutboundFrame) (r : Receipt) (m : PartnerMessage) → b ≡ a ++ r ∷ []
    → r.line.event ≡ TakeLine m → m.serial ≡ last_taken a + 1 → SendsLines b c o q → Takes (m ∷ []) a c o q
taken_then_says a b c o q r m all takes next h =
    takes_on a b c o o q (m ∷ []) [] (one_taken a b o r m all takes next) h

-- ---- for the functions that say

pub ruleset saying = (says_on, says_nothing)

pub ruleset one_order = (one_said, says_nothing)

pub ruleset one_line = (sends_one, sends_none)

pub ruleset one_more = (one_more_sent, none_sent)

pub ruleset more_said = (frames_said)
