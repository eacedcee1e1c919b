-- Volumes of both servers of a pair that are put together: one journal of each side.
use Rattle.std.specs.Prelude.{ℕ, ◌+◌, List, [], ◌∷◌, length}
use Rattle.binding_rules.specs.declared.role.Role.{Role}
use Rattle.binding_rules.specs.declared.role.Role.TheVariants.{Primary, Secondary}
use Rattle.journal_lines.specs.declared.line.Line.{Line}
use Rattle.causal_order.specs.Journals.{Volume, Journals}
use Rattle.volume_join.specs.Joined.{joined}
use Rattle.volume_join.specs.Laws.{HaveRoom}

-- volumes of one side, each the next of the one before: the number of the first, its lines, the further ones' lines
pub record SideVolumes : Type 0 where
  pub number : ℕ
  pub first : List Line
  pub further : List (List Line)

-- some of the primary's, and some of the secondary's
pub record PairVolumes : Type 0 where
  pub a : SideVolumes
  pub b : SideVolumes

-- the number of the last of them
abbrev pub last_number : SideVolumes → ℕ
last_number v = v.number + length v.further

abbrev pub last_of : PairVolumes → Role → ℕ
last_of vs Primary = last_number vs.a
last_of vs Secondary = last_number vs.b

-- the lines of the last of them
abbrev pub last_lines : List Line → List (List Line) → List Line
last_lines v [] = v
last_lines v (w ∷ ws) = last_lines w ws

-- the one journal that they are together, of the number of the first
abbrev pub joined_volume : SideVolumes → Volume
joined_volume v = record { number = v.number; lines = joined v.first v.further }

abbrev pub joined_journals : PairVolumes → Journals
joined_journals vs = record { a = joined_volume vs.a; b = joined_volume vs.b }

-- neither journal has more lines than a journal may have
abbrev pub BothHaveRoom : PairVolumes → Type 0
BothHaveRoom vs = HaveRoom vs.a.first vs.a.further × HaveRoom vs.b.first vs.b.further
