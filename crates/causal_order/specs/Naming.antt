-- Entries that name a line.
use Rattle.std.specs.Prelude.{◌≡◌, ℕ, List, Some, slice_get}
use Rattle.causal_order.specs.declared.reference.Ref.{Ref}

-- the entry at this index names the line
abbrev pub NamesAt : {T : Type 0} → (T → Ref) → List T → Ref → ℕ → Type 0
NamesAt {T} named entries line k = (x : T) × (slice_get entries k ≡ Some x) × (named x ≡ line)
