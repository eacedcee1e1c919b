-- The order in which refusals name lines.
use Rattle.std.specs.Prelude.{◌<◌, ◌≤◌}
use Rattle.binding_rules.specs.declared.role.Role.{Role}
use Rattle.binding_rules.specs.declared.role.Role.TheVariants.{Primary, Secondary}
use Rattle.causal_order.specs.declared.reference.Ref.{Ref}

-- lines are ordered A before B, and then by number
abbrev pub ComesBefore : Ref → Ref → Type 0
ComesBefore r s = ordered r.side s.side where
  ordered : Role → Role → Type 0
  ordered Primary Secondary = 0 ≤ 0
  ordered Secondary Primary = ⊥
  ordered _ _ = r.number < s.number

-- the least of the lines of which P holds
abbrev pub IsLeast : (Ref → Type 0) → Ref → Type 0
IsLeast P r = P r × ((s : Ref) → ComesBefore s r → P s → ⊥)
