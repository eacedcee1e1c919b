use Rattle.std.proofs.Common.{◌≡◌, length}
use Rattle.std.specs.List.{AllWithin}
use Rattle.prefix_range.specs.Prefix.{Prefix}
use Rattle.binding_rules.specs.declared.unit.Unit.{Unit}
use Rattle.unit_index.specs.PoolTrees.{HasKinds, with_unit_at, pools_of}
use Rattle.unit_index.proofs.pool_tree.building.follow.Given as goal

abbrev pub invariant-loop-index : goal.invariant-loop-index
invariant-loop-index l = record {
  pools : pools_of l.charts ≡ pools_of l.initial.charts;
  follows : (units : Prefix → Unit) → AllWithin (HasKinds l.role units) l.initial.charts 0 (length l.initial.charts)
      → AllWithin (HasKinds l.role (with_unit_at units l.prefix l.unit)) l.charts 0 l.index
      × AllWithin (HasKinds l.role units) l.charts l.index (length l.charts);
}
