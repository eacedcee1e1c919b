-- Where the units of a book stand, pool behind pool.
use Rattle.std.specs.Prelude.{◌≡◌, ℕ, ◌+◌, ◌-◌, ◌*◌, ◌/◌, ◌%◌, ◌≤◌, ◌==◌, ⊤, Contains as Has, List, [], ◌∷◌}
use Rattle.std.specs.Prelude.{length, All, get_or}
use Rattle.std.specs.Prelude.{true, false, Option, Some, None, if◌then◌else◌}
use Rattle.std.specs.List.{sum_by}
use Rattle.prefix_range.specs.Prefix.{Prefix, IsPrefix, Overlaps, size_of}
use Rattle.binding_rules.specs.declared.unit.Unit.{Unit as UnitValue}
use Rattle.binding_rules.specs.Unit.{fresh}
use Rattle.book_state.specs.declared.pool.Pool.{Pool}
use Rattle.book_state.specs.Book.{is_in, is_unit, units_in}

-- pools, and their units in the order of pools and addresses
pub record Delegable : Type 0 where
  pub pools : List Pool
  pub units : List UnitValue

pub record IsPool (pool : Pool) : Type 0 where
  pub prefix : IsPrefix pool.prefix
  pub longer : pool.prefix.length ≤ pool.unit_length
  pub short : pool.unit_length ≤ 128

-- no two of the pools have an address in common
abbrev pub AreDisjoint : List Pool → Type 0
AreDisjoint [] = ⊤
AreDisjoint (pool ∷ pools) = ((q : Pool) → Has pools q → Overlaps pool.prefix q.prefix → ⊥) × AreDisjoint pools

-- pools as legal lines name them
pub record ArePools (pools : List Pool) : Type 0 where
  pub each : All IsPool pools
  pub disjoint : AreDisjoint pools
  pub few : sum_by units_in pools ≤ 65536

-- what a unit adds to the count of marked ones
abbrev pub mark_of : UnitValue → ℕ
mark_of u = if u.marked then 1 else 0

pub record IsDelegable (pools : List Pool) (units : List UnitValue) (marks : ℕ) : Type 0 where
  pub each : All IsPool pools
  pub disjoint : AreDisjoint pools
  pub whole : length units ≡ sum_by units_in pools
  pub few : sum_by units_in pools ≤ 65536
  pub marked : marks ≡ sum_by mark_of units

-- with a fresh one beside them, for what is no unit
pub record AreKept (pools : List Pool) (units : List UnitValue) (marks : ℕ) (blank : UnitValue) : Type 0 where
  pub delegable : IsDelegable pools units marks
  pub is_fresh : blank ≡ fresh

-- the place of a unit in its pool
abbrev pub index_in : Pool → Prefix → ℕ
index_in pool p = p.address / size_of p.length - pool.prefix.address / size_of p.length

-- the prefix is the pool's unit at a place
pub record IsUnitAt (pool : Pool) (index : ℕ) (p : Prefix) : Type 0 where
  pub whole : IsPrefix p
  pub within : is_in pool p ≡ true
  pub place : index_in pool p ≡ index
  pub address : p.address ≡ pool.prefix.address + index * size_of pool.unit_length

-- the place of a unit among those of the pools, counted on from n
unfoldable pub place_on : ℕ → List Pool → Prefix → Option ℕ
place_on n [] p = None
place_on n (pool ∷ pools) p = if is_in pool p then Some (n + index_in pool p) else place_on (n + units_in pool) pools p

abbrev pub unit_by : List UnitValue → Option ℕ → UnitValue
unit_by units None = fresh
unit_by units (Some n) = get_or units n fresh

-- the unit of a prefix: a fresh one where the prefix is none
unfoldable pub unit_at : Delegable → Prefix → UnitValue
unit_at t p = if p.address % size_of p.length == 0 then unit_by t.units (place_on 0 t.pools p) else fresh

-- no unit is marked
abbrev pub AreUnmarked : Delegable → Type 0
AreUnmarked t = (p : Prefix) → is_unit t.pools p ≡ true → (unit_at t p).marked ≡ false
