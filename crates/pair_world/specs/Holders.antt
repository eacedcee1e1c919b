-- Who has an address of a prefix at the world's moment.
use Rattle.std.specs.Prelude.{◌≡◌, ◌⊎◌, ℕ, ◌+◌, ◌*◌, ◌<◌, ◌≤◌, Bool, true, List, Contains as Has}
use Rattle.std.specs.declared.cmp.Ordering.{Ordering}
use Rattle.std.specs.Ordering.{nat_cmp}
use Rattle.std.specs.Cmp.{IsTotalOrder, nat_cmp_total}
use Rattle.std.specs.Cmp.Lexicographic.{slice_cmp, lists_total}
use Rattle.std.specs.List.Sorted.{IsStrictlySortedBy}
use Rattle.prefix_range.specs.Prefix.{Prefix, HasAddress, Overlaps}
use Rattle.journal_lines.specs.declared.event.Event.TheVariants.{Grant, Release}
use Rattle.journal_lines.specs.declared.event.Lease.{Lease}
use Rattle.attribution.specs.Run.{Step, At, StartInTime, Holds, IsReleasedBy, infinity}
use Rattle.pair_world.specs.PairWorld.{PairWorld}

-- clients in the order of their octets
abbrev pub client_cmp : List ℕ → List ℕ → Ordering
client_cmp = slice_cmp nat_cmp

-- some choice of starts within the transit gives the client a valid delegation of an address of the prefix now
abbrev pub HasSome : PairWorld → Prefix → List ℕ → Type 0
HasSome w p client =
    (starts : ℕ → ℕ) × StartInTime w.transit w.run starts
    × ((address : ℕ) × HasAddress p address × Holds w.run starts address client w.moment)

-- these clients and no others, each once, in the order of their octets
pub record AreHolders (w : PairWorld) (p : Prefix) (clients : List (List ℕ)) : Type 0 where
  pub order : IsStrictlySortedBy client_cmp clients
  pub each : (client : List ℕ) → Has clients client → HasSome w p client
  pub all : (client : List ℕ) → HasSome w p client → Has clients client

-- ---- for bodies only

pub client_total : IsTotalOrder client_cmp
client_total = lists_total nat_cmp_total

-- a lease that was granted at a moment may be valid now: it started within the transit, by now, and lasts still
abbrev pub MayLast : (moment transit valid now : ℕ) → Type 0
MayLast moment transit valid now =
    (s : ℕ) × (moment ≤ s) × (s ≤ moment + transit) × (s ≤ now) × ((valid ≡ infinity) ⊎ (now < s + 1000 * valid))

-- a lease that step i granted at a moment is of an address of the prefix, and may be valid now
abbrev pub MayHold : PairWorld → Prefix → (i moment : ℕ) → Lease → Type 0
MayHold w p i moment g =
    Overlaps g.prefix p × MayLast moment w.transit g.valid w.moment × (IsReleasedBy w.run i g w.moment → ⊥)

-- step i granted the client such a lease
pub record HasByStep (w : PairWorld) (p : Prefix) (i : ℕ) (client : List ℕ) : Type 0 where
  pub step : Step
  pub lease : Lease
  pub here : At w.run i step
  pub grants : step.line.event ≡ Grant lease
  pub of : lease.client ≡ client
  pub may : MayHold w p i step.moment lease

-- the step gives the lease back by a moment
abbrev pub GivesBackBy : Step → Lease → ℕ → Type 0
GivesBackBy s g m = (s.line.event ≡ Release g.client g.iaid g.prefix) × (s.moment ≤ m)

-- noted are the clients that have an address of the prefix by one of the first so many steps
pub record IsNoted (w : PairWorld) (p : Prefix) (upto : ℕ) (noted : List ℕ → Bool) : Type 0 where
  pub each : (client : List ℕ) → noted client ≡ true
      → (i : ℕ) × (i < upto) × HasByStep w p i client
  pub all : (client : List ℕ) (i : ℕ) → i < upto → HasByStep w p i client → noted client ≡ true
