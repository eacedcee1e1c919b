-- What two journals show of a moment: where they begin and end, and which pools they have.
use Rattle.std.specs.Prelude.{◌≡◌, ℕ, ◌+◌, ◌<◌, ◌≤◌}
use Rattle.prefix_range.specs.Prefix.{Prefix, Overlaps}
use Rattle.binding_rules.specs.declared.role.Role.{Role}
use Rattle.binding_rules.specs.declared.role.Role.TheVariants.{Primary, Secondary}
use Rattle.binding_rules.specs.Role.{partner_of}
use Rattle.journal_lines.specs.declared.event.Event.TheVariants.{Pool}
use Rattle.journal_lines.specs.declared.line.Line.{Line}
use Rattle.causal_order.specs.declared.reference.Ref.{Ref}
use Rattle.causal_order.specs.Journals.{Journals, journal_of, open_of, Names}
use Rattle.attribution.specs.Acceptance.{HasEarlier}
use Rattle.auditor.specs.Closing.{ClosesAt}
use Rattle.plain_search.specs.declared.query.HolderQuery.{HolderQuery}
use Rattle.evidence_report.specs.declared.mark.LineReading.{LineReading}
use Rattle.evidence_report.specs.Marks.{Reads}
use Rattle.candidate_leases.specs.declared.volume_ends.VolumeEnd.{VolumeEnd}
use Rattle.candidate_leases.specs.declared.volume_ends.VolumeEnds.{VolumeEnds}
use Rattle.candidate_leases.specs.declared.pools.PoolLine.{PoolLine}

-- what is asked: a moment, and the bounds on clocks and answers
pub record Asked : Type 0 where
  pub at : ℕ
  pub skew : ℕ
  pub transit : ℕ

abbrev pub asked_of : HolderQuery → Asked
asked_of query = record { at = query.at; skew = query.skew; transit = query.transit }

-- how the side's volume ends
abbrev pub end_of : VolumeEnds → Role → VolumeEnd
end_of ends Primary = ends.primary
end_of ends Secondary = ends.secondary

-- the clock of the side's server showed this when its journal began
abbrev pub OpensAt : Journals → Role → ℕ → Type 0
OpensAt js side opened = Reads js (open_of side) opened

-- ---- where journals begin and end

-- The side has earlier volumes, whose answers had surely come by `needed` alone, which is later than the moment.
abbrev pub IsBeforeOpen : Journals → Asked → Role → (needed : ℕ) → Type 0
IsBeforeOpen js q side needed = HasEarlier js side
    × ((opened : ℕ) × OpensAt js side opened × (needed ≡ opened + q.skew + q.transit)) × (q.at < needed)

-- it has none, or their answers had surely come by the moment
pub record IsPastOpen (js : Journals) (q : Asked) (side : Role) : Type 0 where
  pub past : HasEarlier js side → (opened : ℕ) × OpensAt js side opened × (opened + q.skew + q.transit ≤ q.at)

-- the moment's end with the skew is later than the reading at which the side's journal is closed
abbrev pub IsPastClose : Journals → Asked → Role → (needed closed : ℕ) → Type 0
IsPastClose js q side needed closed =
    (needed ≡ q.at + 1 + q.skew) × ClosesAt (journal_of js side) closed × (closed < needed)

-- it isn't: what the side wrote later was written after the moment
pub record IsBeforeClose (js : Journals) (q : Asked) (side : Role) : Type 0 where
  pub closed : ℕ
  pub closes : ClosesAt (journal_of js side) closed
  pub before : q.at + 1 + q.skew ≤ closed

-- the moment is surely before the side's first line, and that began its first volume
abbrev pub IsBeforeFirst : Journals → Asked → Role → (opened : ℕ) → Type 0
IsBeforeFirst js q side opened =
    (HasEarlier js side → ⊥) × OpensAt js side opened × (q.at + q.skew < opened)

-- The side is the partner of the line's server, and has earlier volumes: the line would surely be later than these if
-- it had been read at `needed` or later, and it wasn't.
abbrev pub MayPrecedePartner : Journals → Asked → LineReading → Role → (needed : ℕ) → Type 0
MayPrecedePartner js q line side needed = (side ≡ partner_of line.at.side) × HasEarlier js side
    × ((opened : ℕ) × OpensAt js side opened × (needed ≡ opened + q.skew + q.skew + 1)) × (line.reading < needed)

-- the line was surely written after the earlier volumes of the partner of its server, where it has some
pub record IsPastPartner (js : Journals) (q : Asked) (line : LineReading) : Type 0 where
  pub past : HasEarlier js (partner_of line.at.side)
      → (opened : ℕ) × OpensAt js (partner_of line.at.side) opened × (opened + q.skew + q.skew < line.reading)

-- ---- pools

-- a journal's pool lines stand right behind its open line, and there are 16 at most
abbrev pub last_of_pools : ℕ
last_of_pools = 17

-- the line says that its server delegates the units of this pool
abbrev pub IsPoolAt : Journals → Ref → PoolLine → Type 0
IsPoolAt js r pool = (r.number ≤ last_of_pools)
    × ((l : Line) × Names js r l × (l.event ≡ Pool pool.prefix pool.unit_length))

-- a pool of these journals has an address of the prefix, and units of so many bits or more
pub record IsMet (js : Journals) (prefix : Prefix) (least : ℕ) (pool : PoolLine) : Type 0 where
  pub line : Ref
  pub is : IsPoolAt js line pool
  pub overlaps : Overlaps pool.prefix prefix
  pub long : least ≤ pool.unit_length

-- no pool of this side's journal does
pub record IsUnmetOn (js : Journals) (prefix : Prefix) (least : ℕ) (side : Role) : Type 0 where
  pub none : (pool : PoolLine) (h : IsMet js prefix least pool) → h.line.side ≡ side → ⊥

-- no pool of these journals does
pub record IsUnmet (js : Journals) (prefix : Prefix) (least : ℕ) : Type 0 where
  pub none : (pool : PoolLine) → IsMet js prefix least pool → ⊥
