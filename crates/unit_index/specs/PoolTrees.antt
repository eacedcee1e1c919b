-- For bodies only: the marks of the units of pools.
use Rattle.std.specs.Prelude.{◌≡◌, ℕ, List, All, map, if◌then◌else◌}
use Rattle.prefix_range.specs.Prefix.{Prefix}
use Rattle.binding_rules.specs.declared.role.Role.{Role}
use Rattle.binding_rules.specs.declared.unit.Unit.{Unit as UnitValue}
use Rattle.book_state.specs.declared.pool.Pool.{Pool}
use Rattle.book_state.specs.Book.{BookState}
use Rattle.book_state.specs.Effects.{same_prefix}
use Rattle.book_state.specs.Places.{IsUnitAt}
use Rattle.unit_index.specs.declared.pool_tree.PoolTree.{PoolTree}
use Rattle.unit_index.specs.Kinds.{kinds_of}
use Rattle.unit_index.specs.KindTrees.{leaf}

-- each mark is that of the unit at its place
pub record HasKinds (role : Role) (units : Prefix → UnitValue) (c : PoolTree) : Type 0 where
  pub each : (i : ℕ) (p : Prefix) → IsUnitAt c.pool i p → leaf c.chart i ≡ kinds_of role (units p)

-- the units with one changed
abbrev pub with_unit_at : (Prefix → UnitValue) → Prefix → UnitValue → Prefix → UnitValue
with_unit_at units p u q = if same_prefix q p then u else units q

abbrev pub pools_of : List PoolTree → List Pool
pools_of charts = map (λ (c : PoolTree). c.pool) charts

-- a table's units have their kinds in the charts
pub record AreTreesOf (b : BookState) (charts : List PoolTree) : Type 0 where
  pub pools : pools_of charts ≡ b.pools
  pub kinds : All (HasKinds b.role b.units) charts
