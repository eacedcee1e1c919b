-- What is known of the event that an order names.
use Rattle.std.specs.Prelude.{◌≡◌, ◌+◌, Bool, List, false, true, ℕ}
use Rattle.std.proofs.Common.{ap, inl, inr, refl, subst, sym}
use Rattle.prefix_range.specs.Prefix.{IsPrefix, Prefix}
use Rattle.binding_rules.specs.declared.message.Body.TheVariants.{Contact as ContactBody, Reply as ReplyBody}
use Rattle.binding_rules.specs.declared.message.Body.TheVariants.{Update as UpdateBody}
use Rattle.binding_rules.specs.declared.message.ServerState.TheVariants.{Down, Interrupted, Normal}
use Rattle.binding_rules.specs.declared.message.PartnerMessage.{PartnerMessage}
use Rattle.binding_rules.specs.declared.message.ServerState.{ServerState}
use Rattle.journal_lines.specs.declared.event.Event.TheVariants.{Backup, Base, Carry, Close, Expire, Grant, Open}
use Rattle.journal_lines.specs.declared.event.Event.TheVariants.{Pool as PoolLine, Reclaim, Release, Restart, Seize}
use Rattle.journal_lines.specs.declared.event.Event.TheVariants.{Send, State, Take, Transit as TransitLine}
use Rattle.journal_lines.specs.declared.event.Event.TheVariants.{Unit as UnitLine}
use Rattle.journal_lines.specs.declared.event.Event.{Event}
use Rattle.journal_lines.specs.declared.event.Lease.{Lease}
use Rattle.journal_lines.specs.declared.line.Line.{Line}
use Rattle.book_state.specs.Book.{BookState}
use Rattle.book_rules.specs.NextHead.{is_head}
use Rattle.order_book.specs.declared.order.LeaseRequest.{LeaseRequest}
use Rattle.order_book.specs.declared.order.Order.TheVariants.{Backup as BackupOrder, Close as CloseOrder}
use Rattle.order_book.specs.declared.order.Order.TheVariants.{Expire as ExpireOrder, Reclaim as ReclaimOrder}
use Rattle.order_book.specs.declared.order.Order.TheVariants.{Release as ReleaseOrder, Renew, Request}
use Rattle.order_book.specs.declared.order.Order.TheVariants.{Restart as RestartOrder, Seize as SeizeOrder, SendContact}
use Rattle.order_book.specs.declared.order.Order.TheVariants.{SendReply, SendUpdate, State as StateOrder}
use Rattle.order_book.specs.declared.order.Order.TheVariants.{Take as TakeOrder}
use Rattle.order_book.specs.Bindings.{IsBound, IsOffered}
use Rattle.order_book.specs.Named.{IsNamed, lease_of, message_of}
use Rattle.order_book.specs.declared.order.Order.{Order}
use Rattle.pair_world.specs.PairWorld.{IsDownAllowed, IsFedBy, WasSent}
use Rattle.pair_world.specs.UnitWorld.{IsIn}
use Rattle.pair_world.proofs.BookSteps.{IsDownFor, IsFed, MayWrite}

-- it is no head line, takes what was sent, takes the partner for down where that is allowed, and grants a prefix
pub record Shape (ls : List Line) (stopped : Bool) (e : Event) : Type 0 where
  pub body : is_head e ≡ false
  pub fed : (m : PartnerMessage) → e ≡ Take m → WasSent ls m
  pub down : IsDownFor stopped e
  pub aligned : (g : Lease) → e ≡ Grant g → IsPrefix g.prefix

abbrev is_plain : Event → Bool
is_plain (Grant g) = false
is_plain (Take m) = false
is_plain (State w) = false
is_plain _ = true

plain : (ls : List Line) (stopped : Bool) (e : Event) → is_plain e ≡ true → is_head e ≡ false → IsDownFor stopped e
    → Shape ls stopped e
plain ls stopped e h body down = record {
  body = body;
  fed = λ m is. let z : is_plain e ≡ false = ap is_plain is in absurd (cc);
  down = down;
  aligned = λ g is. let z : is_plain e ≡ false = ap is_plain is in absurd (cc);
}

leased : (ls : List Line) (stopped : Bool) (b : BookState) (reading : ℕ) (a : LeaseRequest) (p : Prefix) → IsPrefix p
    → Shape ls stopped (Grant (lease_of b reading a p))
leased ls stopped b reading a p is = record {
  body = refl;
  fed = λ m e. absurd (cc);
  down = tt;
  aligned = λ g e. subst IsPrefix (ap prefix_of e) is;
} where
  prefix_of : Event → Prefix
  prefix_of (Grant g) = g.prefix
  prefix_of _ = p

bound_prefix : (b : BookState) (a : LeaseRequest) (p : Prefix) → IsBound b a p → IsPrefix p
bound_prefix b a p (inl h) = h.1.0.whole
bound_prefix b a p (inr h) = h.1.0.0.whole

offered_prefix : (b : BookState) (a : LeaseRequest) (p : Prefix) → IsOffered b a p → IsPrefix p
offered_prefix b a p (inl h) = bound_prefix b a p h
offered_prefix b a p (inr h) = h.1.0.0.whole

taking : (ls : List Line) (stopped : Bool) (m : PartnerMessage) → WasSent ls m → Shape ls stopped (Take m)
taking ls stopped m h = record {
  body = refl;
  fed = λ m' e. subst (WasSent ls) (cc) h;
  down = tt;
  aligned = λ g e. absurd (cc);
}

stating : (ls : List Line) (stopped : Bool) (w : ServerState) → IsDownFor stopped (State w) → Shape ls stopped (State w)
stating ls stopped w down = record { body = refl; fed = λ m e. absurd (cc); down = down; aligned = λ g e. absurd (cc) }

down_of : (stopped : Bool) (w : ServerState) → IsDownAllowed stopped (StateOrder w) → IsDownFor stopped (State w)
down_of stopped Down h = h
down_of stopped Normal h = tt
down_of stopped Interrupted h = tt

module _ (ls : List Line) (stopped : Bool) (b : BookState) (reading : ℕ) where
  abbrev Has : Event → Type 0
  Has e = Shape ls stopped e

  pub shape : (order : Order) (e : Event) → IsNamed b reading order e → IsFedBy ls order → IsDownAllowed stopped order
      → Shape ls stopped e
  shape (Request a) e x fed down = subst Has (sym x.2) (leased ls stopped b reading a x.0 (offered_prefix b a x.0 x.1))
  shape (Renew a) e x fed down = subst Has (sym x.2) (leased ls stopped b reading a x.0 (bound_prefix b a x.0 x.1))
  shape (ReleaseOrder a) e x fed down = subst Has (sym x.2)
      (plain ls stopped (Release a.client a.iaid x.0) refl refl tt)
  shape (ExpireOrder p) e x fed down = subst Has (sym x) (plain ls stopped (Expire p) refl refl tt)
  shape (BackupOrder p) e x fed down = subst Has (sym x) (plain ls stopped (Backup p) refl refl tt)
  shape (ReclaimOrder p) e x fed down = subst Has (sym x) (plain ls stopped (Reclaim p) refl refl tt)
  shape (SeizeOrder p) e x fed down = subst Has (sym x) (plain ls stopped (Seize p) refl refl tt)
  shape (SendUpdate p) e x fed down = subst Has (sym x.2)
      (plain ls stopped (Send (message_of b (UpdateBody x.0))) refl refl tt)
  shape (SendReply p) e x fed down = subst Has (sym x.2)
      (plain ls stopped (Send (message_of b (ReplyBody x.0))) refl refl tt)
  shape SendContact e x fed down = subst Has (sym x.3)
      (plain ls stopped (Send (message_of b (ContactBody x.0 x.1))) refl refl tt)
  shape (TakeOrder m) e x fed down = subst Has (sym x) (taking ls stopped m fed)
  shape (StateOrder w) e x fed down = subst Has (sym x) (stating ls stopped w (down_of stopped w down))
  shape RestartOrder e x fed down = subst Has (sym x) (plain ls stopped (Restart (b.restart + 1)) refl refl tt)
  shape CloseOrder e x fed down = subst Has (sym x) (plain ls stopped Close refl refl tt)

pub fed_of : (e : Event) (ms : List PartnerMessage) → ((m : PartnerMessage) → e ≡ Take m → IsIn ms m) → IsFed e ms
fed_of (Take m) ms f = f m refl
fed_of (Open x y z) ms f = tt
fed_of (PoolLine x y) ms f = tt
fed_of (TransitLine x) ms f = tt
fed_of (Base x) ms f = tt
fed_of (Carry x) ms f = tt
fed_of (UnitLine x) ms f = tt
fed_of (Grant g) ms f = tt
fed_of (Release x y z) ms f = tt
fed_of (Expire x) ms f = tt
fed_of (Backup x) ms f = tt
fed_of (Reclaim x) ms f = tt
fed_of (Send x) ms f = tt
fed_of (State x) ms f = tt
fed_of (Seize x) ms f = tt
fed_of (Restart x) ms f = tt
fed_of Close ms f = tt

pub may_write : (e : Event) → MayWrite false e
may_write (Grant g) = refl
may_write (State Down) = refl
may_write (State Normal) = tt
may_write (State Interrupted) = tt
may_write (Restart x) = tt
may_write (Open x y z) = tt
may_write (PoolLine x y) = tt
may_write (TransitLine x) = tt
may_write (Base x) = tt
may_write (Carry x) = tt
may_write (UnitLine x) = tt
may_write (Release x y z) = tt
may_write (Expire x) = tt
may_write (Backup x) = tt
may_write (Reclaim x) = tt
may_write (Send x) = tt
may_write (Take x) = tt
may_write (Seize x) = tt
may_write Close = tt
