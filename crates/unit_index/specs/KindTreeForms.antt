-- For bodies only: how the marks of a pool's units stand, and above each two marks that of both together.
use Rattle.std.specs.Prelude.{◌≡◌, ℕ, ◌+◌, ◌*◌, ◌^◌, ◌<◌, ◌≤◌, List, length, get_or}
use Rattle.book_state.specs.declared.pool.Pool.{Pool}
use Rattle.book_state.specs.Book.{units_in}
use Rattle.book_state.specs.Places.{IsPool}
use Rattle.unit_index.specs.declared.unit_kinds.UnitKinds.{UnitKinds}
use Rattle.unit_index.specs.Kinds.{nothing, joined}

abbrev pub at : List UnitKinds → ℕ → UnitKinds
at nodes i = get_or nodes i nothing

-- a mark is that of the two below it
pub record IsJoined (nodes : List UnitKinds) (i : ℕ) : Type 0 where
  pub joins : at nodes i ≡ joined (at nodes (2 * i)) (at nodes (2 * i + 1))

-- a mark of all comes first, and behind 2^levels - 1 joined ones come those of the units
pub record IsKindTree (levels : ℕ) (nodes : List UnitKinds) : Type 0 where
  pub few : levels ≤ 16
  pub whole : length nodes ≡ 2 * 2 ^ levels
  pub each : (i : ℕ) → 1 ≤ i → i < 2 ^ levels → IsJoined nodes i

-- the chart has a place for each unit of the pool
pub record IsKindTreeOf (pool : Pool) (levels : ℕ) : Type 0 where
  pub legal : IsPool pool
  pub few : units_in pool ≤ 65536
  pub whole : 2 ^ levels ≡ units_in pool
