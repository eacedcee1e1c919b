-- Which releases come too early: the partner may still tell the client again what it gives back, and hears of the release
-- only later.
use Rattle.std.specs.Prelude.{◌≡◌, ℕ, ◌+◌, ◌*◌, ◌<◌, ◌≤◌, true, List, slice_get, Option, Some, None}
use Rattle.prefix_range.specs.Prefix.{Prefix}
use Rattle.binding_rules.specs.declared.unit.UnitStatus.TheVariants.{Active}
use Rattle.dhcp6_pd.specs.declared.message.ClientMessage.{ClientMessage}
use Rattle.dhcp6_pd.specs.declared.message.IaPd.{IaPd}
use Rattle.journal_lines.specs.declared.event.Event.{Event}
use Rattle.journal_lines.specs.declared.event.Event.TheVariants.{Open}
use Rattle.journal_lines.specs.declared.line.Line.{Line}
use Rattle.journal_lines.specs.declared.line.Journal.{Journal}
use Rattle.book_state.specs.Book.{is_unit}
use Rattle.order_book.specs.declared.order.LeaseRequest.{LeaseRequest}
use Rattle.order_book.specs.declared.order.Order.{Order}
use Rattle.order_book.specs.declared.order.Order.TheVariants.{Release}
use Rattle.order_book.specs.Replayed.{state_of}
use Rattle.client_service.specs.declared.terms.ReuseTerms.{ReuseTerms}
use Rattle.client_service.specs.declared.permit.Permit.{Permit}
use Rattle.client_service.specs.Answering.{order_for, permit_at, is_ordered}

-- the desired lifetime that an open line states, in seconds
abbrev pub lifetime_in : Event → ℕ
lifetime_in (Open skew mclt life) = life
lifetime_in _ = 0

abbrev pub lifetime_at : Option Line → ℕ
lifetime_at (Some l) = lifetime_in l.event
lifetime_at None = 0

abbrev pub desired_lifetime : Journal → ℕ
desired_lifetime j = lifetime_at (slice_get j.lines 0)

-- A unit's partner told of an end: that is twice the desired lifetime past the reading of its last grant. It tells that
-- grant again until it is so old as the floor, and its clock may be twice the skew behind this server's.
abbrev pub MayBeToldAgain : ReuseTerms → (life told now : ℕ) → Type 0
MayBeToldAgain t life told now =
    (0 < t.floor) × (2000 * life ≤ told) × (now + 2000 * life < told + 1000 * t.floor + 2 * t.skew)

-- the client has the prefix that it names, and the partner may tell it again
abbrev pub IsEarlyRelease : Journal → ReuseTerms → ℕ → LeaseRequest → Type 0
IsEarlyRelease j t now a =
    (p : Prefix) × (a.hint ≡ Some p) × (is_unit (state_of j).pools p ≡ true)
    × (((state_of j).units p).status ≡ Active (record { client = a.client; iaid = a.iaid }))
    × MayBeToldAgain t (desired_lifetime j) ((state_of j).units p).told now

-- only a RELEASE gives anything back
abbrev pub IsEarlyOrder : Journal → ReuseTerms → ℕ → Order → Type 0
IsEarlyOrder j t now (Release a) = IsEarlyRelease j t now a
IsEarlyOrder j t now _ = ⊥

-- the order of a message's IA_PD at a place, from 0
abbrev pub IsEarlyAt : Journal → ReuseTerms → ℕ → ClientMessage → ℕ → Type 0
IsEarlyAt j t now m place =
    (ia : IaPd) × (slice_get m.ias place ≡ Some ia) × IsEarlyOrder j t now (order_for m ia)

-- and it may be ordered
abbrev pub IsOrderedEarly : Journal → ReuseTerms → ℕ → ClientMessage → List Permit → ℕ → Type 0
IsOrderedEarly j t now m permits place =
    (is_ordered (permit_at permits place) ≡ true) × IsEarlyAt j t now m place

-- one of its IA_PDs that may be ordered
abbrev pub HasEarlyRelease : Journal → ReuseTerms → ℕ → ClientMessage → List Permit → Type 0
HasEarlyRelease j t now m permits = (place : ℕ) × IsOrderedEarly j t now m permits place
