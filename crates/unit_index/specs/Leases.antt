-- For bodies only: which units each client has.
use Rattle.std.specs.Prelude.{ℕ, List, Option, Some, None, IsTrue}
use Rattle.std.specs.declared.cmp.Ordering.{Ordering}
use Rattle.std.specs.Ordering.{nat_cmp, on, then_cmp}
use Rattle.std.specs.Cmp.{IsTotalOrder, then_total, on_total, nat_cmp_total}
use Rattle.std.specs.Cmp.Lexicographic.{slice_cmp, lists_total}
use Rattle.std.specs.BTreeSet.{BTreeSet, contains}
use Rattle.prefix_range.specs.Prefix.{Prefix}
use Rattle.binding_rules.specs.declared.update.Status.{Status}
use Rattle.binding_rules.specs.declared.update.Status.TheVariants.{Active as ActiveKind}
use Rattle.binding_rules.specs.declared.unit.UnitStatus.{UnitStatus}
use Rattle.binding_rules.specs.declared.unit.UnitStatus.TheVariants.{Active}
use Rattle.binding_rules.specs.declared.message.Body.{Body}
use Rattle.binding_rules.specs.declared.message.Body.TheVariants.{Update}
use Rattle.journal_lines.specs.declared.event.Event.{Event}
use Rattle.journal_lines.specs.declared.event.Event.TheVariants.{Unit as UnitLine, Grant, Take}
use Rattle.book_state.specs.Book.{BookState}
use Rattle.unit_index.specs.declared.leasing.LeaseKey.{LeaseKey}
use Rattle.unit_index.specs.Units.{IsBoundTo}
use Rattle.unit_index.specs.Subjects.{subject_of}

-- by the identity association and its client
abbrev pub by_lease : LeaseKey → LeaseKey → Ordering
by_lease = then_cmp (on (λ (h : LeaseKey). h.iaid) nat_cmp) (on (λ (h : LeaseKey). h.client) (slice_cmp nat_cmp))

abbrev pub by_prefix : LeaseKey → LeaseKey → Ordering
by_prefix = then_cmp (on (λ (h : LeaseKey). h.prefix.address) nat_cmp) (on (λ (h : LeaseKey). h.prefix.length) nat_cmp)

-- all that a client has under an identity association stand together, the lowest first
abbrev pub leased_cmp : LeaseKey → LeaseKey → Ordering
leased_cmp = then_cmp by_lease by_prefix

pub lease_total : IsTotalOrder by_lease
lease_total =
    then_total (on_total (λ (h : LeaseKey). h.iaid) nat_cmp_total)
    (on_total (λ (h : LeaseKey). h.client) (lists_total nat_cmp_total))

pub leased_total : IsTotalOrder leased_cmp
leased_total =
    then_total lease_total
    (then_total (on_total (λ (h : LeaseKey). h.prefix.address) nat_cmp_total)
    (on_total (λ (h : LeaseKey). h.prefix.length) nat_cmp_total))

abbrev pub leased : List ℕ → ℕ → Prefix → LeaseKey
leased client iaid prefix = record { iaid = iaid; client = client; prefix = prefix }

abbrev pub HasLease : BTreeSet LeaseKey → LeaseKey → Type 0
HasLease s h = IsTrue (contains leased_cmp s h)

-- the set has what clients have, and nothing else
pub record AreLeases (b : BookState) (s : BTreeSet LeaseKey) : Type 0 where
  pub sound : (h : LeaseKey) → HasLease s h → IsBoundTo b h.client h.iaid h.prefix
  pub complete : (h : LeaseKey) → IsBoundTo b h.client h.iaid h.prefix → HasLease s h

-- what a unit of this status is delegated under
abbrev pub leased_under : Prefix → UnitStatus → Option LeaseKey
leased_under p (Active k) = Some (leased k.client k.iaid p)
leased_under p _ = None

abbrev pub coming_by : Status → Option (List ℕ) → ℕ → Prefix → Option LeaseKey
coming_by ActiveKind (Some client) iaid p = Some (leased client iaid p)
coming_by _ _ iaid p = None

abbrev pub coming_in : Body → Option LeaseKey
coming_in (Update m) = coming_by m.status m.client m.iaid m.prefix
coming_in _ = None

-- the only lease that an event may begin
abbrev pub coming_of : Event → Option LeaseKey
coming_of (UnitLine k) = leased_under k.prefix k.status
coming_of (Grant g) = Some (leased g.client g.iaid g.prefix)
coming_of (Take m) = coming_in m.body
coming_of _ = None

-- what the unit that an event is about is delegated under before it
abbrev pub held_at : BookState → Option Prefix → Option LeaseKey
held_at b None = None
held_at b (Some p) = leased_under p (b.units p).status

abbrev pub held_before : BookState → Event → Option LeaseKey
held_before b e = held_at b (subject_of e)

abbrev pub IsHeld : BookState → LeaseKey → Type 0
IsHeld b h = IsBoundTo b h.client h.iaid h.prefix
