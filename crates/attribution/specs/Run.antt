-- Runs of the pair, and who holds what in one. Moments are true time, in milliseconds; no server reads them.
use Rattle.std.specs.Prelude.{◌≡◌, ℕ, zero, suc, ◌+◌, ◌*◌, ◌<◌, ◌≤◌, ◌⊎◌, ◌&&◌, List, [], ◌∷◌, Some, slice_get, map}
use Rattle.std.specs.Prelude.{filter, if◌then◌else◌}
use Rattle.prefix_range.specs.Prefix.{Prefix, HasAddress, Contains}
use Rattle.binding_rules.specs.declared.role.Role.{Role}
use Rattle.binding_rules.specs.Role.{partner_of, is_side}
use Rattle.journal_lines.specs.declared.event.Event.TheVariants.{Grant, Release, Send, Take, Close}
use Rattle.journal_lines.specs.declared.event.Lease.{Lease}
use Rattle.binding_rules.specs.declared.message.PartnerMessage.{PartnerMessage}
use Rattle.journal_lines.specs.declared.line.Line.{Line}
use Rattle.journal_lines.specs.Close.{is_close}
use Rattle.causal_order.specs.Journals.{Volume}
use Rattle.attribution.specs.Volumes.{volume_at, volumes_in}

-- one event of one server, at a moment
pub record Step : Type 0 where
  pub side : Role
  pub moment : ℕ
  pub line : Line

-- all lines of a side, of all its volumes
abbrev pub lines_of : Role → List Step → List Line
lines_of side run = map (λ s. s.line) (filter (λ s. is_side side s.side) run)

-- step i is the step s
abbrev pub At : List Step → ℕ → Step → Type 0
At run i s = slice_get run i ≡ Some s

-- how many close lines of the side stand before step i
abbrev pub closes : Role → List Step → ℕ → ℕ
closes side [] i = 0
closes side (s ∷ ss) zero = 0
closes side (s ∷ ss) (suc i) = (if is_side side s.side && is_close s.line.event then 1 else 0) + closes side ss i

-- step i is of one of the first volumes of its side, as many as `upto` says
abbrev pub IsWithin : (Role → ℕ) → List Step → ℕ → Step → Type 0
IsWithin upto run i s = closes s.side run i < upto s.side

-- A run of the pair, where the first volumes of each side, as many as `upto` says, are legal. What comes after them is
-- free.
pub record IsRun (AreLegal : Role → List (List Line) → Type 0) (upto : Role → ℕ) (run : List Step) : Type 0 where
  -- moments never fall
  pub in_time : (i j : ℕ) (s t : Step) → i ≤ j → At run i s → At run j t → s.moment ≤ t.moment
  pub legal : (side : Role) → AreLegal side (volumes_in (upto side) (lines_of side run))
  -- what a side takes in these volumes was sent before by its partner
  pub sent : (i : ℕ) (s : Step) (m : PartnerMessage) → At run i s → IsWithin upto run i s → s.line.event ≡ Take m
      → (j : ℕ) × (t : Step) × (j < i) × At run j t × (t.side ≡ partner_of s.side) × (t.line.event ≡ Send m)

-- in these volumes each reading is within the skew of the moment
abbrev pub KeepsSkew : ℕ → (Role → ℕ) → List Step → Type 0
KeepsSkew skew upto run = (i : ℕ) (s : Step) → At run i s → IsWithin upto run i s
    → (s.line.reading ≤ s.moment + skew) × (s.moment ≤ s.line.reading + skew)

-- the run leaves this volume of that side, the one of its number, closed
pub record Leaves (run : List Step) (side : Role) (v : Volume) : Type 0 where
  pub index : ℕ
  pub number : v.number ≡ index + 1
  pub lines : v.lines ≡ volume_at index (lines_of side run)
  pub closed : (k : ℕ) × (l : Line) × (slice_get v.lines k ≡ Some l) × (l.event ≡ Close)

-- each grant's answer reaches its client within the transit: from then on the lease is the client's
abbrev pub StartInTime : ℕ → List Step → (ℕ → ℕ) → Type 0
StartInTime transit run starts = (i : ℕ) (s : Step) (g : Lease) → At run i s → s.line.event ≡ Grant g
    → (s.moment ≤ starts i) × (starts i ≤ s.moment + transit)

-- the valid lifetime that never ends (RFC 8415, section 7.7)
abbrev pub infinity : ℕ
infinity = 4294967295

-- by m the lease's client gave it back, after step i (RFC 8415, section 18.2.7: Release)
abbrev pub IsReleasedBy : List Step → ℕ → Lease → ℕ → Type 0
IsReleasedBy run i g m =
    (j : ℕ) × (s : Step) × (i < j) × At run j s × (s.line.event ≡ Release g.client g.iaid g.prefix) × (s.moment ≤ m)

-- step i grants the lease, and from its start on it is valid at m (RFC 8415, section 21.22: the valid lifetime, in
-- seconds)
pub record IsValidAt (run : List Step) (starts : ℕ → ℕ) (i : ℕ) (g : Lease) (m : ℕ) : Type 0 where
  pub step : Step
  pub here : At run i step
  pub grants : step.line.event ≡ Grant g
  pub begun : starts i ≤ m
  pub lasts : (g.valid ≡ infinity) ⊎ (m < starts i + 1000 * g.valid)
  pub kept : IsReleasedBy run i g m → ⊥

-- some lease of the client that is valid at m has the address
abbrev pub Holds : List Step → (ℕ → ℕ) → ℕ → List ℕ → ℕ → Type 0
Holds run starts address client m =
    (i : ℕ) × (g : Lease) × IsValidAt run starts i g m × (g.client ≡ client) × HasAddress g.prefix address

-- one lease of the client that is valid at m has all of the prefix
abbrev pub HoldsWhole : List Step → (ℕ → ℕ) → Prefix → List ℕ → ℕ → Type 0
HoldsWhole run starts prefix client m =
    (i : ℕ) × (g : Lease) × IsValidAt run starts i g m × (g.client ≡ client) × Contains g.prefix prefix
