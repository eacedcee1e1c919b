-- The event that an order names.
use Rattle.std.specs.Prelude.{◌≡◌, ◌⊎◌, ℕ, ◌+◌, false, Some, None}
use Rattle.prefix_range.specs.Prefix.{Prefix}
use Rattle.lead_time.specs.Lease.{allowed_lifetime}
use Rattle.binding_rules.specs.declared.unit.Unit.{Unit as UnitValue}
use Rattle.binding_rules.specs.declared.update.Update.{Update as UpdateValue}
use Rattle.binding_rules.specs.declared.update.BindReply.{BindReply}
use Rattle.binding_rules.specs.declared.message.Body.{Body}
use Rattle.binding_rules.specs.declared.message.Body.TheVariants.{Update, Reply, Contact}
use Rattle.binding_rules.specs.declared.message.PartnerMessage.{PartnerMessage}
use Rattle.journal_lines.specs.declared.event.Lease.{Lease}
use Rattle.journal_lines.specs.declared.event.Event.{Event}
use Rattle.journal_lines.specs.declared.event.Event.TheVariants.{Grant, Release as ReleaseLine, Expire as ExpireLine}
use Rattle.journal_lines.specs.declared.event.Event.TheVariants.{Backup as BackupLine, Reclaim as ReclaimLine}
use Rattle.journal_lines.specs.declared.event.Event.TheVariants.{Seize as SeizeLine, Send, Take as TakeLine}
use Rattle.journal_lines.specs.declared.event.Event.TheVariants.{State as StateLine, Restart as RestartLine}
use Rattle.journal_lines.specs.declared.event.Event.TheVariants.{Close as CloseLine}
use Rattle.book_state.specs.Book.{BookState}
use Rattle.book_rules.specs.MessageRules.{TellsUnit, TellsNumbers}
use Rattle.order_book.specs.declared.order.LeaseRequest.{LeaseRequest}
use Rattle.order_book.specs.declared.order.Order.{Order}
use Rattle.order_book.specs.declared.order.Order.TheVariants.{Request, Renew, Release, Expire, Backup, Reclaim, Seize}
use Rattle.order_book.specs.declared.order.Order.TheVariants.{SendUpdate, SendReply, SendContact, Take, State, Restart}
use Rattle.order_book.specs.declared.order.Order.TheVariants.{Close}
use Rattle.order_book.specs.Bindings.{IsHinted, IsBound, IsOffered}

-- the lifetime is what the maximum client lead time allows
abbrev pub lease_of : BookState → ℕ → LeaseRequest → Prefix → Lease
lease_of b now a p =
    record {
      client = a.client;
      iaid = a.iaid;
      prefix = p;
      valid = allowed_lifetime b.life b.mclt (b.units p).acked now;
    }

-- the next message to the partner
abbrev pub message_of : BookState → Body → PartnerMessage
message_of b body = record { term = b.term; serial = b.serial + 1; body = body }

-- An update of the prefix that tells of its unit's change, or a made-up one where there is nothing to tell: that breaks
-- a rule, and the order is refused by it.
abbrev pub IsUpdateOf : UnitValue → Prefix → UpdateValue → Type 0
IsUpdateOf u p m = (m.prefix ≡ p) × (TellsUnit u m ⊎ ((u.marked ≡ false) × (u.due ≡ None)))

-- a unit's pending reply, or a made-up one where there is none
abbrev pub IsReplyOf : UnitValue → Prefix → BindReply → Type 0
IsReplyOf u p r = (u.pending ≡ Some r) ⊎ ((u.pending ≡ None) × (r.prefix ≡ p))

abbrev pub IsNamed : BookState → ℕ → Order → Event → Type 0
IsNamed b now (Request a) e = (p : Prefix) × IsOffered b a p × (e ≡ Grant (lease_of b now a p))
IsNamed b now (Renew a) e = (p : Prefix) × IsBound b a p × (e ≡ Grant (lease_of b now a p))
IsNamed b now (Release a) e = (p : Prefix) × IsHinted b a p × (e ≡ ReleaseLine a.client a.iaid p)
IsNamed b now (Expire p) e = e ≡ ExpireLine p
IsNamed b now (Backup p) e = e ≡ BackupLine p
IsNamed b now (Reclaim p) e = e ≡ ReclaimLine p
IsNamed b now (Seize p) e = e ≡ SeizeLine p
IsNamed b now (SendUpdate p) e =
    (m : UpdateValue) × IsUpdateOf (b.units p) p m × (e ≡ Send (message_of b (Update m)))
IsNamed b now (SendReply p) e =
    (r : BindReply) × IsReplyOf (b.units p) p r × (e ≡ Send (message_of b (Reply r)))
IsNamed b now SendContact e =
    (ask : ℕ) × (answer : ℕ) × TellsNumbers b (Contact ask answer) × (e ≡ Send (message_of b (Contact ask answer)))
IsNamed b now (Take m) e = e ≡ TakeLine m
IsNamed b now (State word) e = e ≡ StateLine word
IsNamed b now Restart e = e ≡ RestartLine (b.restart + 1)
IsNamed b now Close e = e ≡ CloseLine
