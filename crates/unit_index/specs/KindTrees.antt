-- For bodies only: what a chart of marks tells of the units.
use Rattle.std.specs.Prelude.{◌≡◌, ℕ, ◌+◌, ◌*◌, ◌^◌, ◌<◌, ◌≤◌, false}
use Rattle.std.specs.Prelude.{Option, Some, None}
use Rattle.unit_index.specs.declared.unit_kinds.UnitKinds.{UnitKinds}
use Rattle.unit_index.specs.declared.searching.UnitQuery.{UnitQuery}
use Rattle.unit_index.specs.declared.kind_tree.KindTree.{KindTree}
use Rattle.unit_index.specs.Kinds.{may_be}
use Rattle.unit_index.specs.KindTreeForms.{at}

-- the mark of the unit at a place
abbrev pub leaf : KindTree → ℕ → UnitKinds
leaf c place = at c.nodes.items (2 ^ c.levels + place)

-- none of the units at these places from a place on may be wanted
pub record IsFree (w : UnitQuery) (c : KindTree) (from start end : ℕ) : Type 0 where
  pub each : (k : ℕ) → from ≤ k → start ≤ k → k < end → may_be w (leaf c k) ≡ false

-- the node above 2^levels units from a place on
pub record IsSpan (top levels node start : ℕ) : Type 0 where
  pub within : levels ≤ top
  pub place : node * 2 ^ levels ≡ 2 ^ top + start
  pub fits : start + 2 ^ levels ≤ 2 ^ top

-- the least end of the units, if one ends
abbrev pub IsLeastEnd : KindTree → Option ℕ → Type 0
IsLeastEnd c None = (k : ℕ) → k < 2 ^ c.levels → (leaf c k).ends ≡ None
IsLeastEnd c (Some e) =
    ((k : ℕ) × (k < 2 ^ c.levels) × ((leaf c k).ends ≡ Some e))
    × ((k f : ℕ) → k < 2 ^ c.levels → (leaf c k).ends ≡ Some f → e ≤ f)
