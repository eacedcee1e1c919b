-- Receipts that are added.
use Rattle.std.specs.Prelude.{◌≡◌, ◌+◌, ℕ, List, [], ◌∷◌, ◌++◌, Result, Ok, Err, IfOk, OnErr}
use Rattle.std.proofs.Common.{ap, sym, ◌∙◌, append_assoc, append-nil}
use Rattle.dhcp6_pd.specs.declared.message.ClientKind.{ClientKind}
use Rattle.dhcp6_pd.specs.declared.message.ClientKind.TheVariants.{Solicit, Request as RequestKind, Renew as RenewKind}
use Rattle.dhcp6_pd.specs.declared.message.ClientKind.TheVariants.{Rebind}
use Rattle.dhcp6_pd.specs.declared.message.ClientKind.TheVariants.{Release as ReleaseKind}
use Rattle.journal_lines.specs.declared.event.Event.{Event}
use Rattle.journal_lines.specs.declared.line.Journal.{Journal}
use Rattle.book_state.specs.Book.{BookState}
use Rattle.order_book.specs.declared.order.Order.{Order}
use Rattle.order_book.specs.declared.order.LeaseRequest.{LeaseRequest}
use Rattle.server_book.specs.Messages.{order_by}
use Rattle.order_book.specs.Named.{IsNamed}
use Rattle.order_book.specs.Replayed.{IsLegal, state_of}
use Rattle.locked_book.specs.declared.error.ServeError.{ServeError}
use Rattle.locked_book.specs.declared.receipt.Receipt.{Receipt}
use Rattle.locked_book.specs.Serving.{PassState, IsPassServed, last_receipt}
use Rattle.failover_session.specs.Receipts.{last_taken, IsNext, Goes, IsOther}
use Rattle.failover_session.proofs.Saying.{other_takes}
use Rattle.failover_session.proofs.Taken.{next_on, other_next}

-- ---- lists

pub goes_nowhere : (old new : List Receipt) → new ≡ old → Goes old new
goes_nowhere old new same = record { added = []; all = same ∙ sym (append-nil old); next = tt }

pub goes_on : (a b c : List Receipt) → Goes a b → Goes b c → Goes a c
goes_on a b c h k =
    record {
      added = h.added ++ k.added;
      all = k.all ∙ (ap (λ rs. rs ++ k.added) h.all ∙ append_assoc a h.added k.added);
      next = next_on a b h.added k.added h.all h.next k.next;
    }

-- ---- orders

pub named_next : (b : BookState) (now : ℕ) (order : Order) (e : Event) (last : ℕ) → IsOther order
    → IsNamed b now order e
    → IsNext last e
named_next b now order e last other h = other_next last e (other_takes b now order e other h)

pub one_goes : (old new : List Receipt) (r : Receipt) → new ≡ old ++ r ∷ [] → IsNext (last_taken old) r.line.event
    → Goes old new
one_goes old new r all next = record { added = r ∷ []; all = all; next = (next, tt) }

-- what an order does that isn't a take
pub other_goes : (old new : PassState) (now : ℕ) (order : Order) (result : Result Receipt ServeError)
    → ((j : Journal) × IsLegal j × IsPassServed j (last_receipt old.receipts) now order result)
    → IfOk result (λ r. (new.receipts ≡ old.receipts ++ r ∷ []) × (new.share ≡ old.share + 1))
    → OnErr result (new ≡ old) → IsOther order → Goes old.receipts new.receipts
other_goes old new now order (Ok r) served accepted refused other =
    one_goes old.receipts new.receipts r accepted.0 (named_next (state_of served.0) r.line.reading order r.line.event
    (last_taken old.receipts) other served.2.1.line.named)
other_goes old new now order (Err e) served accepted refused other =
    goes_nowhere old.receipts new.receipts (ap (λ p. p.receipts) refused)

-- ---- clients' orders

pub by_kind : (kind : ClientKind) (a : LeaseRequest) → IsOther (order_by kind a)
by_kind Solicit a = tt
by_kind RequestKind a = tt
by_kind RenewKind a = tt
by_kind Rebind a = tt
by_kind ReleaseKind a = tt
