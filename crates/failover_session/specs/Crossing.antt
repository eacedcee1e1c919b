-- Renewals that cross: a client's REBIND reaches both servers, and both grant.
use Rattle.std.specs.Prelude.{◌≡◌, ◌≢◌, ℕ, ◌==◌, nat_lt, Bool, false, Option, Some, None, if◌then◌else◌}
use Rattle.prefix_range.specs.Prefix.{Prefix}
use Rattle.binding_rules.specs.declared.role.Role.{Role}
use Rattle.binding_rules.specs.declared.role.Role.TheVariants.{Secondary}
use Rattle.binding_rules.specs.declared.message.Body.{Body}
use Rattle.binding_rules.specs.declared.message.Body.TheVariants.{Update as UpdateBody}
use Rattle.binding_rules.specs.declared.taking.Outcome.{Outcome}
use Rattle.binding_rules.specs.declared.taking.Outcome.TheVariants.{Accept}
use Rattle.binding_rules.specs.declared.unit.Unit.{Unit as UnitValue}
use Rattle.binding_rules.specs.declared.update.Status.{Status}
use Rattle.binding_rules.specs.declared.update.Status.TheVariants.{Active}
use Rattle.binding_rules.specs.declared.update.Update.{Update}
use Rattle.journal_lines.specs.declared.event.Event.{Event}
use Rattle.journal_lines.specs.declared.event.Event.TheVariants.{Unit as UnitLine, Grant, Release, Expire, Backup, Reclaim, Seize, Take}
use Rattle.order_book.specs.declared.reply.Reply.{Reply}
use Rattle.order_book.specs.declared.reply.Reply.TheVariants.{Taken}
use Rattle.locked_book.specs.declared.receipt.Receipt.{Receipt}
use Rattle.failover_session.specs.declared.policy.SessionPolicy.{SessionPolicy}
use Rattle.failover_session.specs.declared.policy.SessionPolicy.TheVariants.{Serve}
use Rattle.failover_session.specs.declared.raising.LastRaise.{LastRaise}
use Rattle.failover_session.specs.declared.raising.LastRaise.TheVariants.{Own, TakenBefore, TakenHere}

-- ---- what raised a unit's number of changes last

-- the unit whose number of changes a line raises that takes no message, or tells where a volume begins
abbrev pub own_change : Event → Option Prefix
own_change (UnitLine kept) = Some kept.prefix
own_change (Grant lease) = Some lease.prefix
own_change (Release client iaid prefix) = Some prefix
own_change (Expire prefix) = Some prefix
own_change (Backup prefix) = Some prefix
own_change (Reclaim prefix) = Some prefix
own_change (Seize prefix) = Some prefix
own_change _ = None

-- the unit that an update is about, where it was accepted
abbrev pub accepted_body : Body → Outcome → Option Prefix
accepted_body (UpdateBody update) Accept = Some update.prefix
accepted_body _ _ = None

abbrev pub accepted_update : Event → Reply → Option Prefix
accepted_update (Take message) (Taken outcome) = accepted_body message.body outcome
accepted_update _ _ = None

-- whether this unit begins at an address
abbrev pub begins_at : ℕ → Option Prefix → Bool
begins_at address None = false
begins_at address (Some prefix) = prefix.address == address

-- what a line and its reply make of the place: they name it where they are an update that was accepted
abbrev pub taken_by : (place : ℕ) → Event → Reply → (address : ℕ) → Option ℕ → Option ℕ
taken_by place event reply address before =
    if begins_at address (accepted_update event reply) then Some place else before

-- The place of the receipt by which a take raised the number last of the unit that begins at an address, where it was
-- this before a receipt: none where a line of the server's own did.
abbrev pub raised_by : (place : ℕ) → Receipt → (address : ℕ) → Option ℕ → Option ℕ
raised_by place r address before =
    if begins_at address (own_change r.line.event)
    then None
    else taken_by place r.line.event r.reply address before

-- of a connection that began with so many receipts
abbrev pub raise_at : (begun : ℕ) → Option ℕ → LastRaise
raise_at begun None = Own
raise_at begun (Some place) = if nat_lt place begun then TakenBefore else TakenHere

-- ---- what is told of it, and when

-- The secondary doesn't tell a change to active whose number a take raised last, until the next connection: its partner
-- has seen the change behind which it was taken, and tells its own again.
pub record IsHeldBack (policy : SessionPolicy) (role : Role) (status : Status) (raise : LastRaise) : Type 0 where
  pub serves : policy ≡ Serve
  pub secondary : role ≡ Secondary
  pub active : status ≡ Active
  pub taken : raise ≡ TakenHere

-- A server tells its own change before it replies to an `active` that it accepts, where that change was due, a take
-- raised its number last, and the partner has seen it at that number: behind the reply the partner would drop it as seen.
pub record IsToldFirst (policy : SessionPolicy) (was : UnitValue) (raise : LastRaise) (update : Update) : Type 0 where
  pub serves : policy ≡ Serve
  pub active : update.status ≡ Active
  pub due : was.due ≡ Some Active
  pub taken : raise ≢ Own
  pub seen : update.seen ≡ was.mine
