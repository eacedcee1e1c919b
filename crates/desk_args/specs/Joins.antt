-- Which volumes `join` puts together, as the words say it.
use Rattle.std.specs.Prelude.{◌≡◌, ℕ, ◌≤◌, ⊤, List, Option, Some, None, codes}
use Rattle.clap.specs.Words.{Row, Text, first_of}
use Rattle.binding_rules.specs.declared.role.Role.{Role}
use Rattle.binding_rules.specs.declared.role.Role.TheVariants.{Primary, Secondary}
use Rattle.desk_args.specs.declared.join_args.JoinQuery.{JoinQuery}
use Rattle.desk_args.specs.Given.{IsNumber}

-- `A` is the primary, `B` the secondary
abbrev pub IsSide : Option Text → Role → Type 0
IsSide text Primary = text ≡ Some (codes "A")
IsSide text Secondary = text ≡ Some (codes "B")

-- the number of a volume, 1 to 2^20, or none where none is given
abbrev pub IsVolumeOrNone : Option Text → Option ℕ → Type 0
IsVolumeOrNone text None = text ≡ None
IsVolumeOrNone text (Some n) = IsNumber 1048576 text n × (1 ≤ n)

-- the first is no later than the last, where both are named
abbrev pub AreInOrder : Option ℕ → Option ℕ → Type 0
AreInOrder (Some from) (Some to) = from ≤ to
AreInOrder from to = ⊤

-- of which side, from which volume to which
pub record IsJoinQuery (rows : List Row) (q : JoinQuery) : Type 0 where
  pub side : IsSide (first_of (codes "side") rows) q.side
  pub from : IsVolumeOrNone (first_of (codes "from") rows) q.from
  pub to : IsVolumeOrNone (first_of (codes "to") rows) q.to
  pub order : AreInOrder q.from q.to
